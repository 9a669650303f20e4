-- Marks on the nodes of a subtree, in document order. The first mark is that of its top node, whose id is `first`. Only private
-- functions use these definitions.
use Rattle.std.specs.Prelude.{◌≡◌, ℕ, ◌+◌, ◌-◌, ◌<◌, ◌≤◌, Bool, false, ◌&&◌, List, ◌∷◌, ◌++◌, map, Option, Some, None, length, nat_le, slice_index_or, if◌then◌else◌}
use Rattle.std.specs.List.{list_any, range_with_len}
use Rattle.rox_grammar.specs.Forest.{Forest, size}
use Rattle.rox_grammar.specs.Tree as grammar
use Rattle.roxmltree.specs.DocumentView.{DocumentView}
use Rattle.roxmltree.specs.Places.{place, parent}
use Rattle.roxmltree.specs.NodeParts.{node_at, is_element_node, local_of, namespace_of}
use Rattle.roxmltree.specs.ExpandedNames.{same_expanded_name}
use Rattle.roxmltree.specs.NodeRef.{id_of, document_of, tree_of, node_refs}
use Rattle.roxmltree.specs.declared.nodes.Node.{Node}
use Rattle.rox_path.specs.Steps.{Expanded}

-- A node and its descendants, in document order.
abbrev pub subtree_of : Node → List (DocumentView × ℕ)
subtree_of start = node_refs (document_of start) (place (tree_of start) (id_of start)).descendants

-- The marks that a test gives to `n` nodes, from the id `first` on.
abbrev pub marks_by : (DocumentView × ℕ → Bool) → DocumentView → ℕ → ℕ → List Bool
marks_by test document first n = map test (node_refs document (range_with_len first n))

-- Whether the node with the id `id` is marked.
abbrev pub is_marked : ℕ → List Bool → ℕ → Bool
is_marked first marks id = if nat_le first id then slice_index_or marks (id - first) false else false

-- Whether the node is marked.
abbrev pub is_marked_node : ℕ → List Bool → DocumentView × ℕ → Bool
is_marked_node first marks node_ref = is_marked first marks node_ref.1

-- Whether there is a node, and it is marked.
abbrev pub is_one_marked : ℕ → List Bool → Option ℕ → Bool
is_one_marked first marks None = false
is_one_marked first marks (Some id) = is_marked first marks id

-- Whether the node is an element with the name `name`.
abbrev pub is_named : Expanded → DocumentView × ℕ → Bool
is_named name node_ref =
    is_element_node (node_at node_ref.0.tree node_ref.1) && same_expanded_name (namespace_of (node_at node_ref.0.tree node_ref.1), local_of (node_at node_ref.0.tree node_ref.1)) name

-- Whether an ancestor of the node is marked.
abbrev pub is_below : ℕ → List Bool → DocumentView × ℕ → Bool
is_below first marks node_ref = list_any (is_marked first marks) (place node_ref.0.tree node_ref.1).above

-- The next node of the subtree is `next`. For each node before it, `below` says whether an ancestor is marked.
pub record MarksSoFar (start : Node) (marks below : List Bool) (next : Node) : Type 0 where
  pub document : document_of next ≡ document_of start
  pub place : id_of next ≡ id_of start + length below
  pub so_far : below ≡ marks_by (is_below (id_of start) marks) (document_of start) (id_of start) (length below)

-- Whether the node is an element with the name `name`, and its parent is marked.
abbrev pub is_child : ℕ → List Bool → Expanded → DocumentView × ℕ → Bool
is_child first marks name node_ref = is_one_marked first marks (parent node_ref.0.tree node_ref.1) && is_named name node_ref

-- Whether the node is an element with the name `name`, and an ancestor is marked.
abbrev pub is_descendant : ℕ → List Bool → Expanded → DocumentView × ℕ → Bool
is_descendant first marks name node_ref = is_below first marks node_ref && is_named name node_ref

-- The laws of trees that the proof of `select` uses.
pub record Laws (tree : Forest grammar.Node) : Type 0 where
  pub in_order : (i : ℕ) → i < size tree → (place tree i).descendants ≡ range_with_len i (place tree i).count
  pub within : (i : ℕ) → i < size tree → i + (place tree i).count ≤ size tree
  pub below : (i j : ℕ) → i < size tree → i < j → j < i + (place tree i).count → (between : List ℕ) × ((place tree j).above ≡ between ++ i ∷ (place tree i).above)
  pub parents : (i q : ℕ) → i < size tree → parent tree i ≡ Some q → (place tree i).above ≡ q ∷ (place tree q).above
