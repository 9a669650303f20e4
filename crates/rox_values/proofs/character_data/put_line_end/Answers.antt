use Rattle.std.proofs.Common.{arith}
use Rattle.rox_values.proofs.DataLemmas.{feed_put, return_put}
use Rattle.rox_values.proofs.character_data.put_line_end.Goals as goal

pub returns-then-is_at : goal.returns-then-is_at
returns-then-is_at c = grind (arith, feed_put)

pub returns : goal.returns
returns c = grind (arith, return_put)
