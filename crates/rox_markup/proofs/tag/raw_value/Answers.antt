use Rattle.std.proofs.Common.{arith}
use Rattle.rox_scan.proofs.NearReads.{short_value}
use Rattle.rox_bytes.proofs.NearLemmas.{near_plain}
use Rattle.rox_markup.proofs.tag.raw_value.Goals as goal

pub returns-then-is_at : goal.returns-then-is_at
returns-then-is_at c = grind (arith, short_value, near_plain)
