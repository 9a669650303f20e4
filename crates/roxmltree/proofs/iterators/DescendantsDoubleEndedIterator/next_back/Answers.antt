use Rattle.std.proofs.Common.{arith, length-take-le}
use Rattle.roxmltree.proofs.Ranges.{spots_last, spots_length}
use Rattle.roxmltree.proofs.Rows.{row_count}
use Rattle.roxmltree.proofs.iterators.DescendantsDoubleEndedIterator.next_back.Goals as goal

pub overflow_cast-result : goal.overflow_cast-result
overflow_cast-result c = grind (arith, row_count)

pub overflow_add-result : goal.overflow_add-result
overflow_add-result c = grind (arith, row_count)

pub returns-clause-steps : goal.returns-clause-steps
returns-clause-steps c = grind (arith, length-take-le, spots_last)

pub returns-clause-goes : goal.returns-clause-goes
returns-clause-goes c = grind (arith, length-take-le, spots_length)
