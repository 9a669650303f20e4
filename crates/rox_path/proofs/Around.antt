-- A node lies in the subtree of each node above it, and what lies below a node of a subtree lies in the subtree.
use Rattle.std.proofs.Common.{◌≡◌, ◌⊎◌, inl, inr, ⊎_elim, ℕ, zero, suc, ◌+◌, ◌-◌, ◌<◌, ◌≤◌, List, [], ◌∷◌, ◌++◌, Some, length, get_or, refl, sym, ap, ◌∙◌, subst, arith, Contains}
use Rattle.std.proofs.lemmas.Bool.{cases_lt, cases_eq}
use Rattle.std.proofs.lemmas.List.{get_or_append_left, get_or-append-add, get_or_past}
use Rattle.std.proofs.lemmas.List.Elements.{Contains-append_right}
use Rattle.std.proofs.lemmas.Bool.Decides.{nat_tests}
use Rattle.rox_grammar.specs.Forest.{Forest, Nil, Cons, size}
use Rattle.rox_grammar.specs.Tree.{Node}
use Rattle.roxmltree.specs.Places.{Place, places, nowhere, preorder, place, first, parent}
use Rattle.rox_path.specs.NodeMarks.{Laws}
use Rattle.roxmltree.proofs.Preorder.{length-places}

abbrev at : List Place → ℕ → Place
at ps k = get_or ps k nowhere

in_none : {A : Type 0} (a : A) → Contains [] a → ⊥
in_none a h = omega (arith, h.1)

pub in_cons : (x a : ℕ) (xs : List ℕ) → Contains (x ∷ xs) a → (a ≡ x) ⊎ Contains xs a
in_cons x a xs h = grind (arith, nat_tests)

pub behind : (x a : ℕ) (xs : List ℕ) → Contains xs a → Contains (x ∷ xs) a
behind x a xs h = (suc h.0, omega (arith, h.1), h.2)

pub in_front : (a : ℕ) (xs : List ℕ) → Contains (a ∷ xs) a
in_front a xs = (0, omega arith, refl)

-- a is the id of a place in a list, the first of which has the id b: before k, with a subtree that reaches past k
abbrev Reaches : List Place → ℕ → ℕ → ℕ → Type 0
Reaches ps b a k = (q : ℕ) × (a ≡ b + q) × (q < k) × (k < q + (at ps q).count)

reaches : (up left : List ℕ) (b : ℕ) (f : Forest Node) (k a : ℕ) → k < size f → Contains (at (places up left b f) k).above a → Contains up a ⊎ Reaches (places up left b f) b a k
reaches up left b Nil k a l h = absurd (omega arith)
reaches up left b (Cons x c r) zero a l h = inl h
reaches up left b (Cons x c r) (suc k) a l h =
    let below = places (b ∷ up) [] (b + 1) c in
    let beside = places up (b ∷ left) (b + (1 + size c)) r in
    let n : length below ≡ size c = length-places (b ∷ up) [] (b + 1) c in
    let left_of = λ (q : ℕ) (m : q < length below). get_or_append_left below beside nowhere q m in
    let right_of = λ (q : ℕ). get_or-append-add below beside q nowhere in
    elim (cases_lt k (size c)) [
      | inl low ↦
          let here = subst (λ (p : Place). Contains p.above a) (left_of k (omega arith)) h in
          elim (reaches (b ∷ up) [] (b + 1) c k a low here) [
            | inl above ↦ ⊎_elim (λ is. inr (0, omega arith, omega arith, omega arith)) (λ further. inl further) (in_cons b a up above)
            | inr r ↦ inr (suc r.0, omega (arith, r.1), omega (arith, r.2), (rw (left_of r.0 (omega (arith, r.2))) (omega (arith, r.3))))
          ]
      | inr high ↦
          let m = k - size c in
          let here = subst (λ (p : Place). Contains p.above a) (ap (at (below ++ beside)) (omega arith) ∙ right_of m) h in
          elim (reaches up (b ∷ left) (b + (1 + size c)) r m a (omega arith) here) [
            | inl above ↦ inl above
            | inr r ↦ inr (suc (length below + r.0), omega (arith, r.1), omega (arith, r.2), (rw (right_of r.0) (omega (arith, r.3))))
          ]
    ]

-- a node above another comes before it, and its subtree reaches past it
pub above_around : (tree : Forest Node) (j a : ℕ) → Contains (place tree j).above a → (j < size tree) × (a < j) × (j < a + (place tree a).count)
unfolding place preorder
above_around tree j a h =
    let n : length (places [] [] 0 tree) ≡ size tree = length-places [] [] 0 tree in
    elim (cases_lt j (size tree)) [
      | inl low ↦ elim (reaches [] [] 0 tree j a low h) [
        | inl above ↦ absurd (in_none a above)
        | inr r ↦ let same : r.0 ≡ a = omega (arith, r.1) in subst (λ (q : ℕ). (j < size tree) × (q < j) × (j < q + (at (places [] [] 0 tree) q).count)) same (low, r.2, r.3)
      ]
      | inr past ↦ absurd (in_none a (subst (λ (p : Place). Contains p.above a) (get_or_past (places [] [] 0 tree) j nowhere (omega arith)) h))
    ]

-- what is below a node of a subtree is in the subtree
pub stays_inside : (tree : Forest Node) (top a id : ℕ) → Laws tree → top < size tree → top ≤ a → a < top + (place tree top).count → Contains (place tree id).above a → (top < id) × (id < top + (place tree top).count)
stays_inside tree top a id laws l low high h =
    let round = above_around tree id a h in
    elim (cases_eq a top) [
      | inl same ↦ let round' = subst (λ (q : ℕ). (id < size tree) × (q < id) × (id < q + (place tree q).count)) same round in (round'.1, round'.2)
      | inr other ↦
          let upwards = laws.below top a l (omega arith) high in
          let up : Contains (place tree a).above top = rw upwards.1 (Contains-append_right upwards.0 (top ∷ (place tree top).above) top (in_front top (place tree top).above)) in
          let further = laws.below a id (omega (arith, round.0, round.1)) round.1 round.2 in
          let there : Contains (place tree id).above top = rw further.1 (Contains-append_right further.0 (a ∷ (place tree a).above) top (behind a top (place tree a).above up)) in
          let outer = above_around tree id top there in
          (outer.1, outer.2)
    ]

first_in : (p : ℕ) (xs : List ℕ) → first xs ≡ Some p → Contains xs p
first_in p [] e = cc
first_in p (x ∷ xs) e = let same : x ≡ p = cc in rw same (in_front p xs)

pub parent_above : (tree : Forest Node) (id p : ℕ) → parent tree id ≡ Some p → Contains (place tree id).above p
parent_above tree id p e = first_in p (place tree id).above e

counts : (up left : List ℕ) (b : ℕ) (f : Forest Node) (k : ℕ) → k < size f → 0 < (at (places up left b f) k).count
counts up left b Nil k l = absurd (omega arith)
counts up left b (Cons x c r) zero l = omega arith
counts up left b (Cons x c r) (suc k) l =
    let below = places (b ∷ up) [] (b + 1) c in
    let beside = places up (b ∷ left) (b + (1 + size c)) r in
    let n : length below ≡ size c = length-places (b ∷ up) [] (b + 1) c in
    elim (cases_lt k (size c)) [
      | inl low ↦ subst (λ (p : Place). 0 < p.count) (sym (get_or_append_left below beside nowhere k (omega arith))) (counts (b ∷ up) [] (b + 1) c k low)
      | inr high ↦
          let m = k - size c in
          let e : k ≡ length below + m = omega arith in
          subst (λ (p : Place). 0 < p.count) (sym (ap (at (below ++ beside)) e ∙ get_or-append-add below beside m nowhere)) (counts up (b ∷ left) (b + (1 + size c)) r m (omega arith))
    ]

-- a node counts in its own subtree
pub count_some : (tree : Forest Node) (i : ℕ) → i < size tree → 0 < (place tree i).count
unfolding place preorder
count_some tree i l = counts [] [] 0 tree i l
