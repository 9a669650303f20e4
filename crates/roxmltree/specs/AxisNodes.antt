-- The axes as lists of ids.
use Rattle.std.specs.Prelude.{ℕ, List, [], ◌∷◌, Option, Some, None, if◌then◌else◌}
use Rattle.rox_grammar.specs.Forest.{Forest}
use Rattle.rox_grammar.specs.Tree as grammar
use Rattle.roxmltree.specs.Places.{place}
use Rattle.roxmltree.specs.DocumentView.{DocumentView}
use Rattle.roxmltree.specs.NodeRef.{node_refs}
use Rattle.roxmltree.specs.declared.iterators.Axis.{Axis}
use Rattle.roxmltree.specs.declared.iterators.Axis.TheVariants as axis
use Rattle.roxmltree.specs.declared.nodes.Node.{Node}
use Rattle.roxmltree.specs.declared.iterators.AxisIter.TheInside.{Inside}

-- The nodes on an axis, with the node itself first.
abbrev pub axis_nodes : Axis → Forest grammar.Node → ℕ → List ℕ
axis_nodes axis.Ancestors tree id = id ∷ (place tree id).above
axis_nodes axis.PrevSiblings tree id = id ∷ (place tree id).before
axis_nodes axis.NextSiblings tree id = id ∷ (place tree id).after
axis_nodes axis.FirstChildren tree id = (place tree id).first_children
axis_nodes axis.LastChildren tree id = (place tree id).last_children

abbrev pub axis_nodes_from : Axis → Option Node → List (DocumentView × ℕ)
axis_nodes_from along None = []
axis_nodes_from along (Some node) = node_refs node.document.now (axis_nodes along node.document.now.tree node.id.0)

-- all but the first
abbrev pub after_first : List (DocumentView × ℕ) → List (DocumentView × ℕ)
after_first [] = []
after_first (node ∷ nodes) = nodes

-- The nodes from the iterator's own on, without it if it was returned.
abbrev pub axis_nodes_left : Inside → List (DocumentView × ℕ)
axis_nodes_left iter = if iter.given then after_first (axis_nodes_from iter.axis iter.node) else axis_nodes_from iter.axis iter.node
