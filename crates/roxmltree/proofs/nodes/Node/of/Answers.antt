use Rattle.std.proofs.Common.{arith}
use Rattle.roxmltree.proofs.NodeRows.{in_table}
use Rattle.roxmltree.proofs.nodes.Node.of.Goals as goal

pub index-requires : goal.index-requires
index-requires c = grind (arith, in_table)
