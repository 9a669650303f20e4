use Rattle.std.proofs.Common.{arith}
use Rattle.rox_rows.proofs.StoredNodes.{row_is}
use Rattle.rox_rows.proofs.node_table.NodeTable.row.Goals as goal

pub returns : goal.returns
returns c = grind (arith, row_is)
