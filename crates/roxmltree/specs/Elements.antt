-- Elements among nodes.
use Rattle.std.specs.Prelude.{ℕ, List, [], ◌∷◌, Bool, Option, None, Some, if◌then◌else◌}
use Rattle.rox_grammar.specs.Forest.{Forest}
use Rattle.rox_grammar.specs.Tree.{Node}
use Rattle.roxmltree.specs.Places.{children}
use Rattle.roxmltree.specs.NodeParts.{is_element_node, node_at}
use Rattle.roxmltree.specs.DocumentView.{DocumentView}

-- Whether the node is an element.
abbrev pub is_element : DocumentView × ℕ → Bool
is_element node_ref = is_element_node (node_at node_ref.0.tree node_ref.1)

-- The first element among these nodes.
abbrev pub nearest_element : List (DocumentView × ℕ) → Option (DocumentView × ℕ)
nearest_element [] = None
nearest_element (node ∷ nodes) = if is_element node then Some node else nearest_element nodes

-- The first element among the nodes of these ids, or 0 if there is none.
abbrev pub first_element : Forest Node → List ℕ → ℕ
first_element tree [] = 0
first_element tree (id ∷ ids) = if is_element_node (node_at tree id) then id else first_element tree ids

-- The root element of a document.
abbrev pub root_id : Forest Node → ℕ
root_id tree = first_element tree (children tree 0)
