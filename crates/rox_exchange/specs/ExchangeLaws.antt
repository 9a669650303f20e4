-- Laws of exchanges: elements stay self-contained, an exchange can be taken back, and two can be done in either order.
use Rattle.std.specs.Prelude.{◌≡◌, ℕ, ◌+◌, ◌-◌, ◌<◌, ◌≤◌, ◌⊎◌, true, List, nat_lt, if◌then◌else◌}
use Rattle.rox_grammar.specs.Forest.{Forest, size}
use Rattle.rox_grammar.specs.Tree.{Node}
use Rattle.rox_grammar.specs.Exchange.{subtree, self_contained, with_other, text_with}

-- `k` is neither the node of this id nor a descendant of it.
abbrev pub IsOutside : Forest Node → ℕ → ℕ → Type 0
IsOutside tree id k = (k < size tree) × ((id ≤ k) → id + size (subtree tree id) ≤ k)

-- Neither node is the other or a descendant of it.
abbrev pub AreSeparate : Forest Node → ℕ → ℕ → Type 0
AreSeparate tree i j = (i + size (subtree tree i) ≤ j) ⊎ (j + size (subtree tree j) ≤ i)

-- The new id of the node `k`, which is outside the node `id`, after that node is replaced.
abbrev pub id_after : Forest Node → ℕ → Forest Node → ℕ → ℕ → ℕ
id_after tree id other at k = if nat_lt k id then k else k + size (subtree other at) - size (subtree tree id)

-- The node that was put in is self-contained, and so is each node outside it that was self-contained.
pub record StaysContained (tree : Forest Node) (id : ℕ) (other : Forest Node) (at : ℕ) : Type 0 where
  pub itself : self_contained (with_other tree id other at) id ≡ true
  pub outside : (k : ℕ) → IsOutside tree id k → self_contained tree k ≡ true → self_contained (with_other tree id other at) (id_after tree id other at k) ≡ true

-- Putting the old node back gives the old text and the old tree.
pub record GoesBack (tree : Forest Node) (text : List ℕ) (id : ℕ) (other : Forest Node) (other_text : List ℕ) (at : ℕ) : Type 0 where
  pub text_is : text_with (with_other tree id other at) (text_with tree text id other other_text at) id tree text id ≡ text
  pub tree_is : with_other (with_other tree id other at) id tree id ≡ tree

-- Two nodes are replaced, neither of which is inside the other. Both orders give one text and one tree.
pub record Commutes (tree : Forest Node) (text : List ℕ) (i : ℕ) (one : Forest Node) (one_text : List ℕ) (a : ℕ) (j : ℕ) (two : Forest Node) (two_text : List ℕ) (b : ℕ) : Type 0 where
  pub text_is : text_with (with_other tree i one a) (text_with tree text i one one_text a) (id_after tree i one a j) two two_text b
      ≡ text_with (with_other tree j two b) (text_with tree text j two two_text b) (id_after tree j two b i) one one_text a
  pub tree_is : with_other (with_other tree i one a) (id_after tree i one a j) two b ≡ with_other (with_other tree j two b) (id_after tree j two b i) one a
