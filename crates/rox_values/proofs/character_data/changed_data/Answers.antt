use Rattle.std.proofs.Common.{arith}
use Rattle.rox_values.proofs.PartLemmas.{run_done}
use Rattle.rox_values.proofs.character_data.changed_data.Goals as goal

pub returns : goal.returns
returns c = grind (arith, run_done)
