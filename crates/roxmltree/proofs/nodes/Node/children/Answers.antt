use Rattle.std.proofs.Common.{refl}
use Rattle.roxmltree.proofs.Preorder.{place_end}
use Rattle.roxmltree.proofs.Stretches.{children_stretch}
use Rattle.roxmltree.proofs.nodes.Node.children.Goals as goal

pub invariant_of-result : goal.invariant_of-result
invariant_of-result c =
    let node = c.args.self.now in
    record {
      stretch = children_stretch node.document.now.tree node.id.0 _ _ _ node.in_tree refl c.row-row.ensures.subtree_end refl;
      fits = rw c.row-row.ensures.subtree_end (place_end node.document.now.tree node.id.0 node.in_tree);
    }
