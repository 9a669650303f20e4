-- Rows of siblings, from both ends.
use Rattle.std.proofs.Common.{◌≡◌, ℕ, suc, zero, ◌+◌, ◌-◌, ◌<◌, ◌≤◌, List, [], ◌∷◌, ◌++◌, Some, None, length, get_or, take, drop, refl, sym, ap, ◌∙◌, subst, arith, append_assoc, ◌⊎◌, ⊎_elim, inl}
use Rattle.std.proofs.lemmas.Bool.{cases_lt, cases_eq}
use Rattle.std.proofs.Math.Seq.{take-suc, drop-cons}
use Rattle.std.specs.List.{Contains, range_with_len}
use Rattle.rox_grammar.specs.Forest.{Forest, Nil, Cons, size}
use Rattle.rox_grammar.specs.Tree.{Node}
use Rattle.roxmltree.specs.Places.{ids, all_ids, first_descent, last_descent, Place, places, preorder, place, first, last, parent, first_child, last_child, next_sibling, prev_sibling}
use Rattle.roxmltree.specs.SiblingRange.{row_from, apart, siblings_through, IsSiblingRange}
use Rattle.roxmltree.proofs.Preorder.{no_first, at, Prior, Sits, sits, length-places, Here, here, place_is, length-preorder}

-- the k-th of nodes side by side
record Sib (T : List Place) (up left : List ℕ) (b : ℕ) (f : Forest Node) (k : ℕ) : Type 0 where
  inside : get_or (ids b f) k 0 < length T
  after : (at T (get_or (ids b f) k 0)).after ≡ drop (suc k) (ids b f)
  before : length (at T (get_or (ids b f) k 0)).before ≡ k + length left
  above : (at T (get_or (ids b f) k 0)).above ≡ up

sib : (T : List Place) (up left : List ℕ) (b : ℕ) (f : Forest Node) (k : ℕ) → Sits T up left b f → k < length (ids b f) → Sib T up left b f k
sib T up left b Nil k s l = absurd (omega arith)
sib T up left b (Cons x c r) zero s l = grind arith
sib T up left b (Cons x c r) (suc k) s l = grind (arith, sib T up (b ∷ left) (b + (1 + size c)) r k s.3 (omega arith))

-- the nodes from one node on
pub row_sits : (f : Forest Node) (i : ℕ) (h : Here (preorder f) i) → Sits (preorder f) h.up h.left i (Cons h.item h.below h.beside)
row_sits f i h = (h.is, h.inside, h.under, h.next)

-- the k-th of a node and its siblings after it
pub record At (f : Forest Node) (i k q : ℕ) : Type 0 where
  pub inside : q < size f
  pub after : (place f q).after ≡ drop (suc k) (row_from f i)
  pub before : length (place f q).before ≡ k + length (place f i).before
  pub above : (place f q).above ≡ (place f i).above

pub row_at : (f : Forest Node) (i k q : ℕ) → i < size f → k < length (row_from f i) → get_or (row_from f i) k 0 ≡ q → At f i k q
unfolding place
row_at f i k q l m e =
    let h = here f i l in
    let n = length-preorder f in
    let e' : get_or (ids i (Cons h.item h.below h.beside)) k 0 ≡ q = subst (λ (p : Place). get_or (i ∷ p.after) k 0 ≡ q) h.is e in
    let s = sib (preorder f) h.up h.left i (Cons h.item h.below h.beside) k (row_sits f i h) (rw h.is at m) in
    record {
      inside = rw (← e') (omega (arith, s.inside));
      after = rw h.is (rw (← e') s.after);
      before = rw h.is (rw (← e') s.before);
      above = rw h.is (rw (← e') s.above);
    }

-- the next sibling has this node right before it
next_before : (T : List Place) (up left : List ℕ) (i b : ℕ) (r : Forest Node) (j : ℕ) → Sits T up (i ∷ left) b r → first (ids b r) ≡ Some j → first (at T j).before ≡ Some i
next_before T up left i b Nil j s e = cc
next_before T up left i b (Cons x c r) j s e = let same : b ≡ j = cc in rw (← same) (ap (λ p. first p.before) s.0)

pub next_prev : (f : Forest Node) (i j : ℕ) → i < size f → next_sibling f i ≡ Some j → prev_sibling f j ≡ Some i
unfolding place
next_prev f i j l =
    let h = here f i l in
    rw h.is (next_before (preorder f) h.up h.left i (i + (1 + size h.below)) h.beside j h.next)

-- a run of one node
pub run_same : (f : Forest Node) (i j : ℕ) → i ≡ j → siblings_through f i j ≡ i ∷ []
unfolding siblings_through
run_same f i j e = let k : apart f i i ≡ 0 = omega arith in rw (← e, k) refl

not_zero : (i j k : ℕ) (xs : List ℕ) → get_or (i ∷ xs) k 0 ≡ j → (i ≡ j → ⊥) → 0 < k
not_zero i j k xs e n = grind arith

apart_pos : (f : Forest Node) (i j : ℕ) → IsSiblingRange f i j → (i ≡ j → ⊥) → 0 < apart f i j
apart_pos f i j r n = not_zero i j (apart f i j) (place f i).after r.there n

-- the second of a list
pub second : (xs : List ℕ) (n : ℕ) → first xs ≡ Some n → (0 < length xs) × (get_or xs 0 0 ≡ n)
second [] n e = cc
second (x ∷ xs) n e = (omega arith, cc)

-- the next sibling's own row is the rest of this one's
pub next_row : (f : Forest Node) (i n : ℕ) → i < size f → next_sibling f i ≡ Some n → (n < size f) × ((place f i).after ≡ row_from f n) × (length (place f n).before ≡ length (place f i).before + 1)
next_row f i n l e =
    let s = second (place f i).after n e in
    let a = row_at f i 1 n l (omega (arith, s.0)) s.1 in
    (a.inside, drop-cons (place f i).after 0 0 s.0 ∙ rw (s.1, a.after) refl, a.before ∙ omega arith)

-- from the front
pub run_next : (f : Forest Node) (i j n : ℕ) → i < size f → IsSiblingRange f i j → (i ≡ j → ⊥) → next_sibling f i ≡ Some n → (siblings_through f i j ≡ i ∷ siblings_through f n j) × IsSiblingRange f n j
unfolding siblings_through
run_next f i j n l r ne e = grind (arith, next_row)

pub run_next_none : (f : Forest Node) (i j : ℕ) → IsSiblingRange f i j → (i ≡ j → ⊥) → next_sibling f i ≡ None → ⊥
run_next_none f i j r ne e = grind (arith, no_first)

-- the node before the last one of a run
back_at : (f : Forest Node) (i j k : ℕ) → i < size f → IsSiblingRange f i j → apart f i j ≡ suc k → (get_or (row_from f i) k 0 < size f) × (prev_sibling f j ≡ Some (get_or (row_from f i) k 0))
back_at f i j k l r e =
    let q = get_or (row_from f i) k 0 in
    let a = row_at f i k q l (omega (arith, r.short)) refl in
    let n : next_sibling f q ≡ Some j = rw (a.after, (drop-cons (row_from f i) (suc k) 0 (omega (arith, r.short))), (rw e at r.there)) refl in
    (a.inside, next_prev f q j a.inside n)

-- from the back
pub run_back : (f : Forest Node) (i j p : ℕ) → i < size f → IsSiblingRange f i j → (i ≡ j → ⊥) → prev_sibling f j ≡ Some p → (siblings_through f i j ≡ siblings_through f i p ++ j ∷ []) × IsSiblingRange f i p
unfolding siblings_through
run_back f i j p l r ne e =
    let b = back_at f i j (apart f i j - 1) l r (let z = apart_pos f i j r ne in omega arith) in
    let same : get_or (row_from f i) (apart f i j - 1) 0 ≡ p = cc (b.1, e) in
    let a = row_at f i (apart f i j - 1) p l (omega (arith, r.short)) same in
    let k : apart f i p ≡ apart f i j - 1 = omega (arith, a.before) in
    let z = apart_pos f i j r ne in
    let u : suc (apart f i p) ≡ apart f i j = omega arith in (
      take-suc (row_from f i) (apart f i j) 0 r.short ∙ rw (r.there, ← u) refl,
      record {
        le = omega (arith, a.before);
        short = omega (arith, r.short);
        there = rw k same;
      },
    )

pub run_back_none : (f : Forest Node) (i j : ℕ) → i < size f → IsSiblingRange f i j → (i ≡ j → ⊥) → prev_sibling f j ≡ None → ⊥
run_back_none f i j l r ne e =
    let b = back_at f i j (apart f i j - 1) l r (let z = apart_pos f i j r ne in omega arith) in
    cc (b.1, e)

-- ---- the children
last_at : (x : ℕ) (xs : List ℕ) (d : ℕ) → last (x ∷ xs) ≡ Some d → get_or (x ∷ xs) (length xs) 0 ≡ d
last_at x [] d e = cc
last_at x (y ∷ ys) d e = last_at y ys d e

last_some : (x : ℕ) (xs : List ℕ) → last (x ∷ xs) ≡ None → ⊥
last_some x [] e = cc
last_some x (y ∷ ys) e = last_some y ys e

take_whole : (xs : List ℕ) → take (length xs) xs ≡ xs
take_whole [] = refl
take_whole (x ∷ xs) = ap (λ l. x ∷ l) (take_whole xs)

-- the first child's own row is all the children, and no sibling stands before it
first_row : (T : List Place) (up : List ℕ) (b : ℕ) (r : Forest Node) (c : ℕ) → Sits T up [] b r → first (ids b r) ≡ Some c → (c < length T) × (ids b r ≡ c ∷ (at T c).after) × ((at T c).before ≡ [])
first_row T up b Nil c s e = cc
first_row T up b (Cons x k r) c s e = grind arith

child_row : (f : Forest Node) (i c : ℕ) → i < size f → first_child f i ≡ Some c → (c < size f) × ((place f i).children ≡ row_from f c) × ((place f c).before ≡ [])
unfolding place
child_row f i c l =
    let h = here f i l in
    let n = length-preorder f in
    rw h.is (λ e. let k = first_row (preorder f) (i ∷ h.up) (i + 1) h.below c h.under e in (omega (arith, k.0), k.1, k.2))

pub run_children : (f : Forest Node) (i c d : ℕ) → i < size f → first_child f i ≡ Some c → last_child f i ≡ Some d → (siblings_through f c d ≡ (place f i).children) × IsSiblingRange f c d
unfolding siblings_through
run_children f i c d l e u =
    let k = child_row f i c l e in
    let xs = (place f c).after in
    let t : get_or (row_from f c) (length xs) 0 ≡ d = last_at c xs d (ap last (sym k.1) ∙ u) in
    let z : length (place f c).before ≡ 0 = ap length k.2 in
    let n : apart f c d ≡ length xs = omega (arith, (row_at f c (length xs) d k.0 (omega arith) t).before) in (
      rw n (take_whole (row_from f c) ∙ sym k.1),
      record {
        le = omega arith;
        short = omega arith;
        there = rw n t;
      },
    )

nothing : (xs : List ℕ) → first xs ≡ None → xs ≡ []
nothing [] e = refl
nothing (x ∷ xs) e = cc

pub no_children : (f : Forest Node) (i : ℕ) → first_child f i ≡ None → (place f i).children ≡ []
no_children f i e = nothing (place f i).children e

-- ---- the axes as lists
range_append : (a m n k : ℕ) → a + m ≡ k → range_with_len a m ++ range_with_len k n ≡ range_with_len a (m + n)
range_append a zero n k e = let same : k ≡ a = omega arith in let z : 0 + n ≡ n = omega arith in rw (same, z) refl
range_append a (suc m) n k e =
    let z : suc m + n ≡ suc (m + n) = omega arith in
    rw z (ap (λ xs. a ∷ xs) (range_append (a + 1) m n k (omega arith)))

all_ids_is : (b : ℕ) (f : Forest Node) → all_ids b f ≡ range_with_len b (size f)
all_ids_is b Nil = refl
all_ids_is b (Cons x c r) =
    let z : (1 + size c) + size r ≡ suc (size c + size r) = omega arith in
    grind (arith, all_ids_is (b + 1) c, all_ids_is (b + (1 + size c)) r, range_append)

pub descendants_is : (f : Forest Node) (i : ℕ) → i < size f → (place f i).descendants ≡ range_with_len i (place f i).count
descendants_is f i l =
    let h = here f i l in
    let z : 1 + size h.below ≡ suc (size h.below) = omega arith in
    rw (place_is f i h) (rw z (ap (λ xs. i ∷ xs) (all_ids_is (i + 1) h.below)))

before_prior : (T : List Place) (i : ℕ) (up left : List ℕ) (q : ℕ) → Prior T i up left → first left ≡ Some q → (q < length T) × (left ≡ q ∷ (at T q).before)
before_prior T i up left q p e = grind arith

pub prev_row : (f : Forest Node) (i q : ℕ) → i < size f → prev_sibling f i ≡ Some q → (q < size f) × ((place f i).before ≡ q ∷ (place f q).before)
unfolding place
prev_row f i q l =
    let h = here f i l in
    let n = length-preorder f in
    rw h.is (λ e. let k = before_prior (preorder f) i h.up h.left q h.prior e in (omega (arith, k.0), k.1))

first_line_is : (T : List Place) (up left : List ℕ) (b : ℕ) (r : Forest Node) (c : ℕ) → Sits T up left b r → first (ids b r) ≡ Some c → first_descent b r ≡ (at T c).first_children
first_line_is T up left b Nil c s e = cc
first_line_is T up left b (Cons x k r) c s e = let same : b ≡ c = cc in rw (← same) (ap (λ p. p.first_children) (sym s.0))

pub first_children_step : (f : Forest Node) (i c : ℕ) → i < size f → first_child f i ≡ Some c → (place f i).first_children ≡ i ∷ (place f c).first_children
unfolding place
first_children_step f i c l =
    let h = here f i l in
    rw h.is (λ e. ap (λ xs. i ∷ xs) (first_line_is (preorder f) (i ∷ h.up) [] (i + 1) h.below c h.under e))

last_line_is : (T : List Place) (up left : List ℕ) (b : ℕ) (r : Forest Node) (c : ℕ) → Sits T up left b r → last (ids b r) ≡ Some c → last_descent b r ≡ (at T c).last_children
last_line_is T up left b Nil c s e = cc
last_line_is T up left b (Cons x k Nil) c s e = let same : b ≡ c = cc in rw (← same) (ap (λ p. p.last_children) (sym s.0))
last_line_is T up left b (Cons x k (Cons x' k' r')) c s e = last_line_is T up (b ∷ left) (b + (1 + size k)) (Cons x' k' r') c s.3 e

pub last_children_step : (f : Forest Node) (i c : ℕ) → i < size f → last_child f i ≡ Some c → (place f i).last_children ≡ i ∷ (place f c).last_children
unfolding place
last_children_step f i c l =
    let h = here f i l in
    rw h.is (λ e. ap (λ xs. i ∷ xs) (last_line_is (preorder f) (i ∷ h.up) [] (i + 1) h.below c h.under e))

pub no_parent : (f : Forest Node) (i : ℕ) → parent f i ≡ None → (place f i).above ≡ []
no_parent f i e = nothing (place f i).above e

pub no_next : (f : Forest Node) (i : ℕ) → next_sibling f i ≡ None → (place f i).after ≡ []
no_next f i e = nothing (place f i).after e

pub no_prev : (f : Forest Node) (i : ℕ) → prev_sibling f i ≡ None → (place f i).before ≡ []
no_prev f i e = nothing (place f i).before e

first_line_none : (b : ℕ) (f : Forest Node) → first (ids b f) ≡ None → first_descent b f ≡ []
first_line_none b Nil e = refl
first_line_none b (Cons x c r) e = cc

pub no_first_child : (f : Forest Node) (i : ℕ) → i < size f → first_child f i ≡ None → (place f i).first_children ≡ i ∷ []
no_first_child f i l = let h = here f i l in rw (place_is f i h) (λ e. ap (λ xs. i ∷ xs) (first_line_none (i + 1) h.below e))

last_line_none : (b : ℕ) (f : Forest Node) → last (ids b f) ≡ None → last_descent b f ≡ []
last_line_none b Nil e = refl
last_line_none b (Cons x c r) e = absurd (last_some b (ids (b + (1 + size c)) r) e)

pub no_last_child : (f : Forest Node) (i : ℕ) → i < size f → last_child f i ≡ None → (place f i).last_children ≡ i ∷ []
no_last_child f i l = let h = here f i l in rw (place_is f i h) (λ e. ap (λ xs. i ∷ xs) (last_line_none (i + 1) h.below e))

pub prev_next : (f : Forest Node) (i q : ℕ) → i < size f → prev_sibling f i ≡ Some q → next_sibling f q ≡ Some i
unfolding place
prev_next f i q l =
    let h = here f i l in
    rw h.is (λ e. let k = h.fit q e in rw k.1 refl)

-- the children are the nodes whose parent this is
pub child_parent : (f : Forest Node) (i k : ℕ) → i < size f → k < length (place f i).children → parent f (get_or (place f i).children k 0) ≡ Some i
unfolding place
child_parent f i k l =
    let h = here f i l in
    let n = length-preorder f in
    rw h.is (λ m. ap first (sib (preorder f) (i ∷ h.up) [] (i + 1) h.below k h.under m).above)

-- above each node of a forest are those above the forest, last
pub above_ends : (T : List Place) (up left : List ℕ) (b : ℕ) (f : Forest Node) → Sits T up left b f → (j : ℕ) → b ≤ j → j < b + size f → (xs : List ℕ) × ((at T j).above ≡ xs ++ up)
above_ends T up left b Nil s j l m = absurd (omega arith)
above_ends T up left b (Cons x c r) s j l m =
    ⊎_elim
    (λ same. ([], rw same (ap (λ p. p.above) s.0)))
    (λ other. ⊎_elim
    (λ low.
    let k = above_ends T (b ∷ up) [] (b + 1) c s.2 j (omega arith) (omega arith) in
    (k.0 ++ b ∷ [], k.1 ∙ sym (append_assoc k.0 (b ∷ []) up)))
    (λ high. above_ends T up (b ∷ left) (b + (1 + size c)) r s.3 j high (omega arith))
    (cases_lt j (b + (1 + size c))))
    (cases_eq j b)

-- from each node below one comes up to it
pub below_leads : (f : Forest Node) (i j : ℕ) → i < size f → i < j → j < i + (place f i).count → (xs : List ℕ) × ((place f j).above ≡ xs ++ i ∷ (place f i).above)
unfolding place
below_leads f i j l m =
    let h = here f i l in
    rw h.is (λ n. above_ends (preorder f) (i ∷ h.up) [] (i + 1) h.below h.under j (omega arith) (omega arith))

-- the first of a list, or one of the others
among : (b : ℕ) (up : List ℕ) (i : ℕ) → Contains (b ∷ up) i → (i ≡ b) ⊎ Contains up i
among b up i h = grind arith

-- a node below the first of these has it above, or one of the others
step_up : (T : List Place) (up : List ℕ) (b j i : ℕ) → b < j → j < b + (at T b).count → Contains (b ∷ up) i ⊎ ((i < j) × (j < i + (at T i).count)) → Contains up i ⊎ ((i < j) × (j < i + (at T i).count))
step_up T up b j i l m p = grind arith

-- what stands above a node of a forest stands above the forest, or has the node in its subtree
above_is : (T : List Place) (up left : List ℕ) (b : ℕ) (f : Forest Node) → Sits T up left b f → (j : ℕ) → b ≤ j → j < b + size f → (i : ℕ) → Contains (at T j).above i → Contains up i ⊎ ((i < j) × (j < i + (at T i).count))
above_is T up left b Nil s j l m i h = absurd (omega arith)
above_is T up left b (Cons x c r) s j l m i h =
    ⊎_elim
    (λ same. let e : (at T j).above ≡ up = rw same (ap (λ p. p.above) s.0) in inl (rw e at h))
    (λ (other : j ≡ b → ⊥). ⊎_elim
    (λ (low : j < b + (1 + size c)).
    step_up T up b j i (omega arith) (omega (arith, (ap (λ p. p.count) s.0))) (above_is T (b ∷ up) [] (b + 1) c s.2 j (omega arith) (omega arith) i h))
    (λ high. above_is T up (b ∷ left) (b + (1 + size c)) r s.3 j high (omega arith) i h)
    (cases_lt j (b + (1 + size c))))
    (cases_eq j b)

all_sit : (f : Forest Node) → Sits (preorder f) [] [] 0 f
unfolding preorder
all_sit f = sits (places [] [] 0 f) [] [] 0 f (λ k m. let e : 0 + k ≡ k = omega arith in rw e refl) (omega (arith, length-places [] [] 0 f))

-- a node is in the subtrees of all nodes above it
pub above_holds : (f : Forest Node) (i j : ℕ) → j < size f → Contains (place f j).above i → (i < j) × (j < i + (place f i).count)
unfolding place
above_holds f i j l h =
    ⊎_elim (λ none. absurd (omega (arith, none.1))) (λ inside. inside) (above_is (preorder f) [] [] 0 f (all_sit f) j (omega arith) (omega arith) i h)
