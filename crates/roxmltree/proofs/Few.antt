-- How many nodes there are on an axis: no more than the tree has.
use Rattle.std.proofs.Common.{◌≡◌, ℕ, suc, zero, ◌+◌, ◌-◌, ◌<◌, ◌≤◌, List, [], ◌∷◌, length, arith, ⊎_elim}
use Rattle.std.proofs.lemmas.Bool.{cases_lt}
use Rattle.std.proofs.lemmas.List.{get_or_append_left, get_or-append-add}
use Rattle.rox_grammar.specs.Forest.{Forest, Nil, Cons, size}
use Rattle.rox_grammar.specs.Tree.{Node}
use Rattle.roxmltree.specs.DocumentView.{DocumentView}
use Rattle.roxmltree.specs.NodeRef.{node_refs}
use Rattle.roxmltree.specs.Places.{ids, first_descent, last_descent, places, nowhere, preorder, place}
use Rattle.roxmltree.specs.ChildrenLeft.{between}
use Rattle.roxmltree.proofs.Preorder.{at, here, place_is, length-places, length-preorder}
use Rattle.roxmltree.proofs.Stretches.{children_left}
use Rattle.roxmltree.proofs.Ranges.{length_spots}

few_ids : (b : ℕ) (f : Forest Node) → length (ids b f) ≤ size f
few_ids b Nil = omega arith
few_ids b (Cons x c r) = omega (arith, few_ids (b + (1 + size c)) r)

few_first_line : (b : ℕ) (f : Forest Node) → length (first_descent b f) ≤ size f
few_first_line b Nil = omega arith
few_first_line b (Cons x c r) = omega (arith, few_first_line (b + 1) c)

few_last_line : (b : ℕ) (f : Forest Node) → length (last_descent b f) ≤ size f
few_last_line b Nil = omega arith
few_last_line b (Cons x c Nil) = omega (arith, few_last_line (b + 1) c)
few_last_line b (Cons x c (Cons x' c' r')) = omega (arith, few_last_line (b + (1 + size c)) (Cons x' c' r'))

-- the k-th node of a row has k siblings before it at most, and those of the row's first
few_left : (up left : List ℕ) (b : ℕ) (f : Forest Node) (k : ℕ) → k < size f → length (at (places up left b f) k).before ≤ length left + k
few_left up left b Nil k l = absurd (omega arith)
few_left up left b (Cons x c r) zero l = omega arith
few_left up left b (Cons x c r) (suc k) l =
    let pc = places (b ∷ up) [] (b + 1) c in
    let pr = places up (b ∷ left) (b + (1 + size c)) r in
    let lc : length pc ≡ size c = length-places (b ∷ up) [] (b + 1) c in
    ⊎_elim
    (λ (low : k < size c).
    rw (get_or_append_left pc pr nowhere k (omega arith)) (omega (arith, few_left (b ∷ up) [] (b + 1) c k low)))
    (λ high.
    let j = k - size c in
    let e : k ≡ length pc + j = omega arith in
    rw (e, get_or-append-add pc pr j nowhere) (omega (arith, few_left up (b ∷ left) (b + (1 + size c)) r j (omega arith))))
    (cases_lt k (size c))

pub few_before : (f : Forest Node) (i : ℕ) → i < size f → length (place f i).before ≤ i
unfolding place preorder
few_before f i l = omega (arith, few_left [] [] 0 f i l)

pub few_after : (f : Forest Node) (i : ℕ) → i < size f → length (place f i).after < size f
few_after f i l =
    let h = here f i l in
    let k : length (ids (i + (1 + size h.below)) h.beside) < size f = omega (arith, h.ends, length-preorder f, few_ids (i + (1 + size h.below)) h.beside) in
    rw (place_is f i h) k

few_children : (f : Forest Node) (i : ℕ) → i < size f → length (place f i).children < size f
few_children f i l =
    let h = here f i l in
    let k : length (ids (i + 1) h.below) < size f = omega (arith, h.ends, length-preorder f, few_ids (i + 1) h.below) in
    rw (place_is f i h) k

pub few_first_children : (f : Forest Node) (i : ℕ) → i < size f → length (place f i).first_children ≤ size f
few_first_children f i l =
    let h = here f i l in
    let k : suc (length (first_descent (i + 1) h.below)) ≤ size f = omega (arith, h.ends, length-preorder f, few_first_line (i + 1) h.below) in
    rw (place_is f i h) k

pub few_last_children : (f : Forest Node) (i : ℕ) → i < size f → length (place f i).last_children ≤ size f
few_last_children f i l =
    let h = here f i l in
    let k : suc (length (last_descent (i + 1) h.below)) ≤ size f = omega (arith, h.ends, length-preorder f, few_last_line (i + 1) h.below) in
    rw (place_is f i h) k

-- what `children` has left at first
pub few_left_of_children : (d : DocumentView) (f : Forest Node) (i a u h : ℕ) → i < size f → a ≡ i + 1 → u ≡ i + (place f i).count → h ≡ i
    → length (node_refs d (between f a u h)) < size f
few_left_of_children d f i a u h l ea eu eh = grind (arith, children_left, length_spots, few_children)
