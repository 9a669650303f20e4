use Rattle.std.proofs.Common.{arith}
use Rattle.roxmltree.proofs.Firsts.{no_sibling_before}
use Rattle.roxmltree.proofs.nodes.Node.prev_sibling.Goals as goal

pub returns-then-self-parent : goal.returns-then-self-parent
returns-then-self-parent c =
    let node = c.args.self.now in
    no_sibling_before node.document.now.tree node.id.0 c.row.result.now.parent node.in_tree c.row.ensures.parent_is (omega (arith, c.if-self-parent.true))
