use Rattle.std.proofs.Common.{arith}
use Rattle.rox_scan.proofs.LongerLemmas.{looked_value}
use Rattle.rox_markup.proofs.tag.value_by_characters.Goals as goal

pub returns-then-is_at : goal.returns-then-is_at
returns-then-is_at c = grind (arith, looked_value)
