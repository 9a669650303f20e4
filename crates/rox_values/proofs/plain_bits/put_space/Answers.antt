use Rattle.std.proofs.Common.{arith}
use Rattle.rox_values.proofs.BitLemmas.{feed_put, return_put, space_put}
use Rattle.rox_values.proofs.plain_bits.put_space.Goals as goal

pub returns-then-is_at-clause-puts : goal.returns-then-is_at-clause-puts
returns-then-is_at-clause-puts c = grind (arith, feed_put)

pub returns-clause-puts : goal.returns-clause-puts
returns-clause-puts c = grind (arith, return_put, space_put)
