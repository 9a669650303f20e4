use Rattle.std.proofs.Common.{Some, sym, ap, ◌∙◌, arith}
use Rattle.roxmltree.specs.declared.nodes.NodeId.{NodeId}
use Rattle.roxmltree.proofs.Preorder.{next_child, no_next_child, no_next_row}
use Rattle.roxmltree.proofs.nodes.Node.next_sibling.Goals as goal

pub returns-then-row : goal.returns-then-row
returns-then-row c =
    let node = c.args.self.now in
    let r = c.row-row in
    let above = rw (c.of-next.ensures.id, c.of-next.ensures.document) at c.row.ensures.parent_is in
    let there = next_child node.document.now.tree node.id.0 r.result.now.subtree_end r.result.now.parent node.in_tree r.ensures.subtree_end (omega arith) r.ensures.whole r.ensures.parent_is
    (λ low. above low ∙ ap Some c.if-row.true) in
    (there ∙ ap (λ (id : NodeId). Some id.0) (sym c.of-next.ensures.id), c.of-next.ensures.document)

pub returns-then-id-count : goal.returns-then-id-count
returns-then-id-count c = grind (arith, no_next_row)

pub returns-else-row : goal.returns-else-row
returns-else-row c =
    let node = c.args.self.now in
    let r = c.row-row in
    let above = rw (c.of-next.ensures.id, c.of-next.ensures.document) at c.row.ensures.parent_is in
    no_next_child node.document.now.tree node.id.0 r.result.now.subtree_end r.result.now.parent c.row.result.now.parent node.in_tree r.ensures.subtree_end (omega arith) r.ensures.whole r.ensures.parent_is above c.if-row.false
