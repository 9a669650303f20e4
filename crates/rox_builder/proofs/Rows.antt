-- The rows of what is read so far.
use Rattle.std.proofs.Common.{◌≡◌, ℕ, ◌+◌, [], ◌∷◌, ◌++◌, length, set, refl, arith, append_assoc, length-append}
use Rattle.std.proofs.lemmas.List.{append-nil, set_at}
use Rattle.rox_grammar.specs.Forest.{Forest, Nil, Cons, join, size}
use Rattle.rox_grammar.specs.Written.{Tag, Item, Element, merge}
use Rattle.rox_grammar.specs.Tree.{Node, listed, node_in, resolved}
use Rattle.rox_grammar.specs.State.{Open, root, inside, scope_of, nodes_so_far}
use Rattle.rox_rows.specs.Rows.{RowView, preorder_rows}
use Rattle.rox_builder.specs.OpenRows.{top, open_line, rows_to, so_far}
use Rattle.rox_reading.proofs.Forests.{size-resolved, resolved-join}

pub length-preorder_rows : (p at : ℕ) (f : Forest Node) → length (preorder_rows p at f) ≡ size f
length-preorder_rows p at Nil = refl
length-preorder_rows p at (Cons n c r) = grind (arith, length-preorder_rows at (at + 1) c, length-preorder_rows p (at + 1 + size c) r, length-append)

pub preorder_rows-join : (p at : ℕ) (f g : Forest Node) → preorder_rows p at (join f g) ≡ preorder_rows p at f ++ preorder_rows p (at + size f) g
preorder_rows-join p at Nil g = let e : at + 0 ≡ at = omega arith in rw e refl
preorder_rows-join p at (Cons n c f) g = grind (arith, preorder_rows-join p (at + 1 + size c) f g, append_assoc)

pub length-rows_to : (end : ℕ) (o : Open) → length (rows_to end o) ≡ top o + 1
length-rows_to end root = refl
length-rows_to end (inside start tag before up) = grind (arith, length-rows_to end up, length-append, length-preorder_rows, size-resolved)

-- how many rows there are
pub length-so_far : (end : ℕ) (o : Open) (front : Forest Item) → length (so_far end o front) ≡ top o + 1 + size front
length-so_far end o front = grind (arith, length-append, length-rows_to, length-preorder_rows, size-resolved)

pub nodes_are : (o : Open) (done : Forest Item) → nodes_so_far o done ≡ top o + 1 + size (merge done)
nodes_are root done = omega arith
nodes_are (inside start tag before up) done = omega (arith, nodes_are up before)

-- more siblings are more rows
pub so_far-join : (end : ℕ) (o : Open) (front more : Forest Item)
    → so_far end o (join front more) ≡ so_far end o front ++ preorder_rows (top o) (top o + 1 + size front) (resolved (scope_of o) more)
so_far-join end o front more = grind (arith, resolved-join, preorder_rows-join, size-resolved, append_assoc)

-- an element opens
pub so_far-open : (end : ℕ) (up : Open) (start : ℕ) (tag : Tag) (before : Forest Item)
    → so_far end (inside start tag before up) Nil ≡ so_far end up (merge before) ++ open_line start tag up ∷ []
so_far-open end up start tag before = grind (arith, append_assoc)

-- the row of an element that ended at e
abbrev pub closed_line : ℕ → ℕ → Tag → Open → ℕ → RowView
closed_line start e tag up subtree_end =
    record { parent = top up; subtree_end = subtree_end; node = node_in (listed (scope_of up) tag.declarations) (Element start e tag) }

-- an element that ends is written into its row
pub so_far-closed : (end : ℕ) (up : Open) (start e : ℕ) (tag : Tag) (before front : Forest Item)
    → so_far end up (join (merge before) (Cons (Element start e tag) front Nil))
    ≡ set (so_far end (inside start tag before up) front) (top (inside start tag before up))
    (closed_line start e tag up (top (inside start tag before up) + 1 + size front))
so_far-closed end up start e tag before front = grind (arith, size-resolved, length-so_far, append_assoc, so_far-join, append-nil, set_at)
