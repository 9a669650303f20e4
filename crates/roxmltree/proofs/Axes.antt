-- The nodes on an axis begin with the node itself.
use Rattle.std.proofs.Common.{◌≡◌, ℕ, ◌∷◌, ◌<◌, Some, refl, arith}
use Rattle.rox_grammar.specs.Forest.{Forest, size}
use Rattle.rox_grammar.specs.Tree as grammar
use Rattle.roxmltree.specs.Places.{place}
use Rattle.roxmltree.specs.DocumentView.{DocumentView}
use Rattle.roxmltree.specs.NodeRef.{node_ref, node_refs}
use Rattle.roxmltree.specs.AxisNodes.{axis_nodes_from, after_first}
use Rattle.roxmltree.specs.declared.iterators.Axis.{Axis}
use Rattle.roxmltree.specs.declared.nodes.Node.{Node}
use Rattle.roxmltree.proofs.Preorder.{here, place_is}

first_children_start : (d : DocumentView) (f : Forest grammar.Node) (i : ℕ) → i < size f → node_refs d (place f i).first_children ≡ (d, i) ∷ after_first (node_refs d (place f i).first_children)
first_children_start d f i l = let h = here f i l in rw (place_is f i h) refl

last_children_start : (d : DocumentView) (f : Forest grammar.Node) (i : ℕ) → i < size f → node_refs d (place f i).last_children ≡ (d, i) ∷ after_first (node_refs d (place f i).last_children)
last_children_start d f i l = let h = here f i l in rw (place_is f i h) refl

pub starts : (along : Axis) (node : Node) → axis_nodes_from along (Some node) ≡ node_ref node ∷ after_first (axis_nodes_from along (Some node))
starts along node = grind (arith, first_children_start, last_children_start)
