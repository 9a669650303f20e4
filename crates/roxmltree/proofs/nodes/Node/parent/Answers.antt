use Rattle.std.proofs.Common.{arith}
use Rattle.roxmltree.proofs.Preorder.{parent_is}
use Rattle.roxmltree.proofs.nodes.Node.parent.Goals as goal

pub of-requires : goal.of-requires
of-requires c = (parent_is _ _ _ c.args.self.now.in_tree (c.row-row.ensures.parent_is (omega arith))).0
