-- The number of levels of a tree.
use Rattle.std.specs.Prelude.{ℕ, zero, suc, ◌+◌, max, map, fold}
use Rattle.roxmltree.specs.DocumentView.{DocumentView}
use Rattle.roxmltree.specs.Forest.{Forest, size}
use Rattle.roxmltree.specs.Places.{children}
use Rattle.roxmltree.specs.Tree.{Node}

-- The number of levels from the node of this id down, at most `most`. A node has one level more than its deepest child.
abbrev pub levels_within : ℕ → Forest Node → ℕ → ℕ
levels_within zero tree id = 0
levels_within (suc most) tree id = 1 + fold max 0 (map (levels_within most tree) (children tree id))

-- The number of all levels from a node down, which is 1 if it has no children. No tree has more levels than nodes.
abbrev pub levels_of : DocumentView × ℕ → ℕ
levels_of node_ref = levels_within (size node_ref.0.tree) node_ref.0.tree node_ref.1
