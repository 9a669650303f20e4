-- What an iterator over siblings has left.
use Rattle.std.specs.Prelude.{◌≡◌, ℕ, suc, ◌-◌, ◌<◌, ◌≤◌, List, ◌∷◌, length, take, get_or}
use Rattle.rox_grammar.specs.Forest.{Forest}
use Rattle.rox_grammar.specs.Tree.{Node}
use Rattle.roxmltree.specs.Places.{place}

-- The id of a node and those of its siblings after it.
abbrev pub row_from : Forest Node → ℕ → List ℕ
row_from tree id = id ∷ (place tree id).after

-- The number of siblings from `from` to `to`, without `to`.
abbrev pub apart : Forest Node → ℕ → ℕ → ℕ
apart tree from to = length (place tree to).before - length (place tree from).before

-- The siblings from `from` to `to`, both included.
unfoldable pub siblings_through : Forest Node → ℕ → ℕ → List ℕ
siblings_through tree from to = take (suc (apart tree from to)) (row_from tree from)

-- The node `to` is `from` or a sibling after it.
pub record IsSiblingRange (tree : Forest Node) (from to : ℕ) : Type 0 where
  pub le : length (place tree from).before ≤ length (place tree to).before
  pub short : apart tree from to < length (row_from tree from)
  pub there : get_or (row_from tree from) (apart tree from to) 0 ≡ to
