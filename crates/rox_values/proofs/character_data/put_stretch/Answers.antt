use Rattle.std.proofs.Common.{arith}
use Rattle.rox_values.proofs.DataLemmas.{stretch_put}
use Rattle.rox_values.proofs.character_data.put_stretch.Goals as goal

pub returns : goal.returns
returns c = grind (arith, stretch_put)
