use Rattle.std.proofs.Common.{arith}
use Rattle.rox_values.proofs.BitLemmas.{stretch_put}
use Rattle.rox_values.proofs.plain_bits.put_stretch.Goals as goal

pub returns-clause-puts : goal.returns-clause-puts
returns-clause-puts c = grind (arith, stretch_put)
