-- The rows of a tree hold that tree and no other, and what a row says of its node.
use Rattle.std.proofs.Common.{◌≡◌, ℕ, ◌+◌, ◌-◌, ◌<◌, Bool, List, [], ◌∷◌, ◌++◌, Some, None, length, get_or, map, refl, sym, ap, ◌∙◌, arith}
use Rattle.std.proofs.lemmas.List.{get_or-map, length-map, map-append}
use Rattle.rox_grammar.specs.Forest.{Forest, Nil, Cons, size}
use Rattle.rox_grammar.specs.Tree.{Node}
use Rattle.rox_rows.specs.Rows.{RowView, row_view, preorder_rows, attribute_rows, node_rows}
use Rattle.rox_names.specs.Tables.{names_of, scopes_of, HoldsTree}
use Rattle.rox_rows.specs.declared.row.NodeData.{NodeData}
use Rattle.rox_names.specs.declared.tables.Tables.{Tables}
use Rattle.roxmltree.specs.TreeCodes.{flattened, unflattened, unflattened-flattened}
use Rattle.roxmltree.specs.Places.{Place, places, preorder, place, nowhere, first, parent}
use Rattle.roxmltree.specs.DocumentTables.{tree_in, nodes_from, HoldsDocument, IsWhole}
use Rattle.roxmltree.proofs.Preorder.{length-places, place_id}
use Rattle.roxmltree.proofs.Tops.{IsDocument, none_above, some_above, all_below}

-- the nearest node above, or 0
abbrev pub top : List ℕ → ℕ
top [] = 0
top (q ∷ up) = q

-- the row of a place
abbrev pub place_line : Place → RowView
place_line p = record { parent = top p.above; subtree_end = p.id + p.count; node = p.item }

-- the rows of a forest are those of its places
pub preorder_rows-places : (up left : List ℕ) (b : ℕ) (f : Forest Node) → map place_line (places up left b f) ≡ preorder_rows (top up) b f
preorder_rows-places up left b Nil = refl
preorder_rows-places up left b (Cons x c r) = grind (arith, preorder_rows-places (b ∷ up) [] (b + 1) c, preorder_rows-places up (b ∷ left) (b + (1 + size c)) r, map-append)

-- these places have the ids from b on
abbrev IdsFrom : ℕ → List Place → Type 0
IdsFrom b [] = Unit {0}
IdsFrom b (p ∷ ps) = (p.id ≡ b) × IdsFrom (b + 1) ps

ids_append : (b k : ℕ) (xs ys : List Place) → IdsFrom b xs → k ≡ b + length xs → IdsFrom k ys → IdsFrom b (xs ++ ys)
ids_append b k [] ys h e g = let same : k ≡ b = omega arith in rw same at g
ids_append b k (x ∷ xs) ys h e g = (h.0, ids_append (b + 1) k xs ys h.1 (omega arith) g)

ids_places : (up left : List ℕ) (b : ℕ) (f : Forest Node) → IdsFrom b (places up left b f)
ids_places up left b Nil = tt
ids_places up left b (Cons x c r) = grind (arith, ids_places (b ∷ up) [] (b + 1) c, ids_places up (b ∷ left) (b + (1 + size c)) r, ids_append, length-places)

-- how many nodes are below, and the node
abbrev below : Place → ℕ × Node
below p = (p.count - 1, p.item)

flat_places : (up left : List ℕ) (b : ℕ) (f : Forest Node) → map below (places up left b f) ≡ flattened f
flat_places up left b Nil = refl
flat_places up left b (Cons x c r) = grind (arith, flat_places (b ∷ up) [] (b + 1) c, flat_places up (b ∷ left) (b + (1 + size c)) r, map-append)

nodes_are : (b : ℕ) (ps : List Place) → IdsFrom b ps → nodes_from b (map place_line ps) ≡ map below ps
nodes_are b [] h = refl
nodes_are b (p ∷ ps) h = grind (arith, nodes_are (b + 1) ps h.1)

-- the tables of a tree hold no other
pub same_tree : (t : Tables) (f : Forest Node) → HoldsTree t f → tree_in t ≡ f
same_tree t f h =
    ap unflattened (ap (nodes_from 0) (h.rows ∙ sym (preorder_rows-places [] [] 0 f)) ∙ nodes_are 0 (places [] [] 0 f) (ids_places [] [] 0 f) ∙ flat_places [] [] 0 f)
    ∙ unflattened-flattened f

-- tables of a text's tree are whole
pub is_whole : (text : List ℕ) (dtd : Bool) (t : Tables) → HoldsDocument text dtd t → IsWhole text dtd t
is_whole text dtd t h = grind (arith, same_tree)

-- there are as many rows as nodes
pub row_count : (t : Tables) (f : Forest Node) → HoldsTree t f → length (node_rows t.nodes) ≡ size f
unfolding preorder
row_count t f h =
    sym (length-map (node_rows t.nodes) (row_view (attribute_rows t.attributes) (names_of t) (scopes_of t)))
    ∙ ap length (h.rows ∙ sym (preorder_rows-places [] [] 0 f))
    ∙ length-map (places [] [] 0 f) place_line
    ∙ length-places [] [] 0 f

-- a row is that of its node's place
pub row_line : (t : Tables) (f : Forest Node) (i : ℕ) (x : NodeData) → HoldsTree t f → i < length (node_rows t.nodes) → x ≡ get_or (node_rows t.nodes) i x → row_view (attribute_rows t.attributes) (names_of t) (scopes_of t) x ≡ place_line (place f i)
unfolding place preorder
row_line t f i x h l e =
    let read = row_view (attribute_rows t.attributes) (names_of t) (scopes_of t) in
    ap read e
    ∙ sym (get_or-map read (node_rows t.nodes) i x (read x) l)
    ∙ ap (λ ls. get_or ls i (read x)) (h.rows ∙ sym (preorder_rows-places [] [] 0 f))
    ∙ get_or-map place_line (places [] [] 0 f) i nowhere (read x) (omega (arith, row_count t f h, length-places [] [] 0 f))

-- an id of the tree is a row's
pub in_rows : (t : Tables) (f : Forest Node) (i : ℕ) → HoldsTree t f → i < size f → i < length (node_rows t.nodes)
in_rows t f i h l = omega (arith, row_count t f h)

top_some : (up : List ℕ) → 0 < length up → Some (top up) ≡ first up
top_some up l = grind arith

-- What the row of a node says: the id past its subtree, and its parent.
pub row_next : (t : Tables) (f : Forest Node) (i : ℕ) (x : NodeData) → HoldsTree t f → i < size f → x ≡ get_or (node_rows t.nodes) i x → x.subtree_end ≡ i + (place f i).count
row_next t f i x h l e = rw (place_id f i l) at (ap (λ r. r.subtree_end) (row_line t f i x h (in_rows t f i h l) e))

pub row_parent : (t : Tables) (n : ℕ) (f : Forest Node) (i : ℕ) (x : NodeData) → HoldsTree t f → IsDocument n f → i < size f → x ≡ get_or (node_rows t.nodes) i x → 0 < i → parent f i ≡ Some x.parent
row_parent t n f i x h d l e low =
    sym (top_some (place f i).above (some_above n f i d l low)) ∙ ap Some (sym (ap (λ r. r.parent) (row_line t f i x h (in_rows t f i h l) e)))

-- The row of the root node.
pub row_no_parent : (n : ℕ) (f : Forest Node) (i : ℕ) → IsDocument n f → i ≡ 0 → parent f i ≡ None
row_no_parent n f i d e = rw e (none_above n f d)

pub row_whole : (t : Tables) (n : ℕ) (f : Forest Node) (i : ℕ) (x : NodeData) → HoldsTree t f → IsDocument n f → i < size f → x ≡ get_or (node_rows t.nodes) i x → i ≡ 0 → x.subtree_end ≡ size f
row_whole t n f i x h d l e root = row_next t f i x h l e ∙ rw root (all_below n f d)
