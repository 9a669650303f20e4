use Rattle.std.proofs.Common.{arith}
use Rattle.roxmltree.proofs.Stretches.{back_fewer}
use Rattle.roxmltree.proofs.iterators.ChildrenDoubleEndedIterator.next_back.Goals as goal

pub returns-clause-goes : goal.returns-clause-goes
returns-clause-goes c = grind (arith, back_fewer)
