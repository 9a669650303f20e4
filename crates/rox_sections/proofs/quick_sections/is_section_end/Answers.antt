use Rattle.std.proofs.Common.{arith}
use Rattle.rox_sections.proofs.SetSections.{end_stands}
use Rattle.rox_sections.proofs.quick_sections.is_section_end.Goals as goal

pub returns-then-is_at-2 : goal.returns-then-is_at-2
returns-then-is_at-2 c = grind (arith, end_stands)
