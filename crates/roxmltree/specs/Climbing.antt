-- The way from a node up to a child of one of its ancestors.
use Rattle.std.specs.Prelude.{ℕ, ◌==◌, if◌then◌else◌, List, [], ◌∷◌}
use Rattle.rox_grammar.specs.Forest.{Forest}
use Rattle.rox_grammar.specs.Tree.{Node}
use Rattle.roxmltree.specs.Places.{place}

-- The first node of the list whose parent is `q`, or the last node if there is none. Each node is a child of the next.
abbrev pub child_in : List ℕ → ℕ → ℕ
child_in [] q = 0
child_in (i ∷ []) q = i
child_in (i ∷ p ∷ up) q = if p == q then i else child_in (p ∷ up) q

-- The nearest of the node and its ancestors that is a child of `q`, or the root node if none is.
unfoldable pub up_to : Forest Node → ℕ → ℕ → ℕ
up_to tree id q = child_in (id ∷ (place tree id).above) q
