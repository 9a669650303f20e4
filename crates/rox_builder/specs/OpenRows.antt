-- The rows of what is read so far, while elements are open.
use Rattle.std.specs.Prelude.{ℕ, ◌+◌, List, [], ◌∷◌, ◌++◌}
use Rattle.rox_grammar.specs.Forest.{Forest, size}
use Rattle.rox_grammar.specs.Written.{Tag, Item, Element, merge}
use Rattle.rox_grammar.specs.Tree.{Root, listed, node_in, resolved}
use Rattle.rox_grammar.specs.State.{Open, root, inside, scope_of}
use Rattle.rox_rows.specs.Rows.{RowView, preorder_rows}

-- The row of the innermost open element, or of the root node.
abbrev pub top : Open → ℕ
top root = 0
top (inside start tag before up) = top up + 1 + size (merge before)

-- The row of the root node while its last descendant is not known.
abbrev pub root_line : ℕ → RowView
root_line end = record { parent = 0; subtree_end = 0; node = Root end }

-- The row of an element while it is open.
abbrev pub open_line : ℕ → Tag → Open → RowView
open_line start tag up =
    record { parent = top up; subtree_end = 0; node = node_in (listed (scope_of up) tag.declarations) (Element start 0 tag) }

-- The rows up to that of the innermost open element.
abbrev pub rows_to : ℕ → Open → List RowView
rows_to end root = root_line end ∷ []
rows_to end (inside start tag before up) =
    rows_to end up ++ (preorder_rows (top up) (top up + 1) (resolved (scope_of up) (merge before)) ++ open_line start tag up ∷ [])

-- The rows of what is read so far: those up to the innermost open element, and those of its items `front`, which are merged.
abbrev pub so_far : ℕ → Open → Forest Item → List RowView
so_far end stack front = rows_to end stack ++ preorder_rows (top stack) (top stack + 1) (resolved (scope_of stack) front)
