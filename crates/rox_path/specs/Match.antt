-- Which nodes steps reach.
use Rattle.std.specs.Prelude.{◌≡◌, ◌↔◌, ℕ, ◌<◌, List, [], ◌∷◌, ◌++◌, Some, Contains, IsTrue}
use Rattle.rox_grammar.specs.Forest.{Forest}
use Rattle.rox_grammar.specs.Tree.{Node}
use Rattle.roxmltree.specs.Places.{place, parent}
use Rattle.roxmltree.specs.NodeParts.{node_at, is_element_node, local_of, namespace_of}
use Rattle.rox_path.specs.Steps.{Expanded, PathStep, child, descendant}

-- The node with the id `id` is an element with the name `name`. No namespace differs from the empty URI.
pub record IsElementOf (tree : Forest Node) (id : ℕ) (name : Expanded) : Type 0 where
  pub is_element : IsTrue (is_element_node (node_at tree id))
  pub namespace : namespace_of (node_at tree id) ≡ name.0
  pub local : local_of (node_at tree id) ≡ name.1

-- Without steps, only the start is reached. A last step to children reaches the elements with its name whose parent the steps
-- before it reach. A last step to descendants reaches the elements with its name of which the steps before it reach an ancestor.
pub data Match (tree : Forest Node) (start : ℕ) : List PathStep → ℕ → Type 0 where
  at_start : Match tree start [] start
  by_child : (steps : List PathStep) (name : Expanded) (id p : ℕ) → Match tree start steps p → parent tree id ≡ Some p → IsElementOf tree id name
      → Match tree start (steps ++ child name ∷ []) id
  by_descendant : (steps : List PathStep) (name : Expanded) (id a : ℕ) → Match tree start steps a → Contains (place tree id).above a → IsElementOf tree id name
      → Match tree start (steps ++ descendant name ∷ []) id

-- Each id is less than those after it.
abbrev pub Ascends : List ℕ → Type 0
Ascends [] = Unit {0}
Ascends (i ∷ is) = ((j : ℕ) → Contains is j → i < j) × Ascends is

-- The ids of exactly the nodes that the steps reach, in document order, without duplicates.
pub record Selects (tree : Forest Node) (start : ℕ) (steps : List PathStep) (ids : List ℕ) : Type 0 where
  pub in_order : Ascends ids
  pub exactly : (id : ℕ) → Contains ids id ↔ Match tree start steps id
