use Rattle.std.proofs.Common.{arith}
use Rattle.rox_scan.proofs.ShortLemmas.{longer_run}
use Rattle.rox_scan.proofs.character_data.raw_character_data.Goals as goal

pub returns-then-ends_character_data : goal.returns-then-ends_character_data
returns-then-ends_character_data c = grind (arith, longer_run)
