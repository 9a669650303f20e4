use Rattle.std.proofs.Common.{arith}
use Rattle.roxmltree.proofs.Rows.{row_count}
use Rattle.roxmltree.proofs.tree.Document.count.Goals as goal

pub returns-clause-value : goal.returns-clause-value
returns-clause-value c = grind (arith, row_count)
