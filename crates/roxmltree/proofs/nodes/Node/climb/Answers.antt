use Rattle.std.proofs.Common.{◌≡◌, ◌<◌, Some, length, ap, ◌∙◌, subst, arith}
use Rattle.rox_grammar.specs.Forest.{size}
use Rattle.roxmltree.specs.Places.{place, parent}
use Rattle.roxmltree.specs.Climbing.{up_to}
use Rattle.roxmltree.proofs.Preorder.{climbs}
use Rattle.roxmltree.proofs.nodes.Node.climb.Goals as goal

pub of-node-requires : goal.of-node-requires
of-node-requires c =
    let node = c.loop-document.node in
    let same = c.loop-document.invariant.document in
    let under : parent node.document.now.tree (up_to node.document.now.tree node.id.0 c.args.ancestor.0) ≡ Some c.args.ancestor.0 =
    ap (λ d. parent d.now.tree (up_to d.now.tree node.id.0 c.args.ancestor.0)) same ∙ ap (parent c.args.self.document.now.tree) c.loop-document.invariant.toward ∙ c.requires in
    let step = climbs node.document.now.tree node.id.0 c.row-in-loop-document.result.now.parent c.row.result.now.parent c.args.ancestor.0 node.in_tree under c.row.ensures.no_parent c.row-in-loop-document.ensures.parent_is c.row.ensures.parent_is c.loop-document-test.true in
    subst (λ d. c.row-in-loop-document.result.now.parent < size d.now.tree) same step.0

-- the parent of the node is nearer to the child of the ancestor
step : (c : goal.After-of-node) → let f = c.loop-document.node.document.now.tree in let i = c.loop-document.node.id.0 in let p = c.row-in-loop-document.result.now.parent in
    (p < size f) × (up_to f i c.args.ancestor.0 ≡ up_to f p c.args.ancestor.0) × (length (place f p).above < length (place f i).above)
step c =
    let node = c.loop-document.node in
    let same = c.loop-document.invariant.document in
    let under : parent node.document.now.tree (up_to node.document.now.tree node.id.0 c.args.ancestor.0) ≡ Some c.args.ancestor.0 =
    ap (λ d. parent d.now.tree (up_to d.now.tree node.id.0 c.args.ancestor.0)) same ∙ ap (parent c.args.self.document.now.tree) c.loop-document.invariant.toward ∙ c.requires in
    climbs node.document.now.tree node.id.0 c.row-in-loop-document.result.now.parent c.row.result.now.parent c.args.ancestor.0 node.in_tree under c.row.ensures.no_parent c.row-in-loop-document.ensures.parent_is c.row.ensures.parent_is c.loop-document-test.true

pub loop-document-preserved : goal.loop-document-preserved
loop-document-preserved c = grind (arith, step)

pub loop-document-smaller : goal.loop-document-smaller
loop-document-smaller c = grind (arith, step)
