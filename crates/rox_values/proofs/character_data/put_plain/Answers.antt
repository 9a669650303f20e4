use Rattle.std.proofs.Common.{arith}
use Rattle.rox_values.proofs.DataLemmas.{lone_put}
use Rattle.rox_values.proofs.character_data.put_plain.Goals as goal

pub returns-then-is_at : goal.returns-then-is_at
returns-then-is_at c = grind (arith, lone_put)
