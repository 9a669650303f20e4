use Rattle.std.proofs.Common.{arith}
use Rattle.roxmltree.proofs.Rows.{row_count}
use Rattle.roxmltree.proofs.iterators.DescendantsIterator.next.Goals as goal

pub overflow_add-self : goal.overflow_add-self
overflow_add-self c = grind (arith, row_count)
