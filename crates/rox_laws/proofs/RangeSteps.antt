-- The ranges of nodes that are nested, by the nodes' ids.
use Rattle.std.proofs.Common.{◌≡◌, ℕ, ◌+◌, ◌<◌, ◌≤◌, List, [], ◌∷◌, Some, arith, ⊎_elim}
use Rattle.std.proofs.lemmas.Bool.{cases_lt, cases_eq}
use Rattle.rox_grammar.specs.Forest.{Forest, Nil, Cons, size}
use Rattle.rox_grammar.specs.Tree.{Node}
use Rattle.roxmltree.specs.Places.{ids, Place, preorder, place, first, parent, next_sibling}
use Rattle.roxmltree.specs.NodeParts.{node_at, start_of, end_of}
use Rattle.rox_laws.specs.RangeLaws.{RangesNested}
use Rattle.roxmltree.proofs.Preorder.{at, Sits}
use Rattle.roxmltree.proofs.Tops.{whole_sits}

-- the range of a node of the list
abbrev start_at : List Place → ℕ → ℕ
start_at T i = start_of (at T i).item

abbrev end_at : List Place → ℕ → ℕ
end_at T i = end_of (at T i).item

-- the places are in order
between_le : (from to : ℕ) (f : Forest Node) → RangesNested from to f → from ≤ to
between_le from to Nil h = h
between_le from to (Cons x c r) h = omega (arith, h.0, h.1, between_le (end_of x) to r h.3)

-- the parent's range holds these places
abbrev HoldsTree : List Place → List ℕ → ℕ → ℕ → Type 0
HoldsTree T up from to = (q : ℕ) → first up ≡ Some q → (start_at T q ≤ from) × (to ≤ end_at T q)

in_parent : (T : List Place) (up left : List ℕ) (b : ℕ) (f : Forest Node) (from to : ℕ) → Sits T up left b f → RangesNested from to f → HoldsTree T up from to
    → (i : ℕ) → b ≤ i → i < b + size f → HoldsTree T (at T i).above (start_at T i) (end_at T i)
in_parent T up left b Nil from to s h around i l m = absurd (omega arith)
in_parent T up left b (Cons x c r) from to s h around i l m =
    ⊎_elim
    (λ same. rw same (rw s.0 (λ q e. let p = around q e in (omega (arith, p.0, h.0), omega (arith, p.1, between_le (end_of x) to r h.3)))))
    (λ other. ⊎_elim
    (λ low. in_parent T (b ∷ up) [] (b + 1) c (start_of x) (end_of x) s.2 h.2 own i (omega arith) (omega arith))
    (λ high. in_parent T up (b ∷ left) (b + (1 + size c)) r (end_of x) to s.3 h.3 (λ q e. let p = around q e in (omega (arith, p.0, h.0, h.1), p.1)) i high (omega arith))
    (cases_lt i (b + (1 + size c))))
    (cases_eq i b)
  where
    own : HoldsTree T (b ∷ up) (start_of x) (end_of x)
    own q e = let same : b ≡ q = cc in rw (← same, s.0) (omega arith, omega arith)

-- a row that begins with this node starts at the place or behind it
first_starts : (T : List Place) (up left : List ℕ) (b : ℕ) (f : Forest Node) (from to : ℕ) → Sits T up left b f → RangesNested from to f
    → (j : ℕ) → first (ids b f) ≡ Some j → from ≤ start_at T j
first_starts T up left b Nil from to s h j e = cc
first_starts T up left b (Cons x c r) from to s h j e = let same : b ≡ j = cc in rw (← same, s.0) h.0

before_next : (T : List Place) (up left : List ℕ) (b : ℕ) (f : Forest Node) (from to : ℕ) → Sits T up left b f → RangesNested from to f
    → (i : ℕ) → b ≤ i → i < b + size f → (j : ℕ) → first (at T i).after ≡ Some j → end_at T i ≤ start_at T j
before_next T up left b Nil from to s h i l m j = absurd (omega arith)
before_next T up left b (Cons x c r) from to s h i l m j =
    ⊎_elim
    (λ same. rw same (rw s.0 (first_starts T up (b ∷ left) (b + (1 + size c)) r (end_of x) to s.3 h.3 j)))
    (λ other. ⊎_elim
    (λ low. before_next T (b ∷ up) [] (b + 1) c (start_of x) (end_of x) s.2 h.2 i (omega arith) (omega arith) j)
    (λ high. before_next T up (b ∷ left) (b + (1 + size c)) r (end_of x) to s.3 h.3 i high (omega arith) j)
    (cases_lt i (b + (1 + size c))))
    (cases_eq i b)

-- a node's range lies in its parent's
pub range_in_parent : (f : Forest Node) (to i q : ℕ) → RangesNested 0 to f → i < size f → parent f i ≡ Some q
    → (start_of (node_at f q) ≤ start_of (node_at f i)) × (end_of (node_at f i) ≤ end_of (node_at f q))
unfolding place
range_in_parent f to i q h l e = in_parent (preorder f) [] [] 0 f 0 to (whole_sits f) h (λ q e. cc) i (omega arith) (omega arith) q e

-- and ends where the next sibling's starts, or before
pub range_before_next : (f : Forest Node) (to i j : ℕ) → RangesNested 0 to f → i < size f → next_sibling f i ≡ Some j → end_of (node_at f i) ≤ start_of (node_at f j)
unfolding place
range_before_next f to i j h l e = before_next (preorder f) [] [] 0 f 0 to (whole_sits f) h i (omega arith) (omega arith) j e
