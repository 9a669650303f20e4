-- Siblings from both ends.
use Rattle.std.proofs.Common.{◌≡◌, ℕ, suc, zero, ◌+◌, ◌-◌, ◌<◌, ◌≤◌, List, [], ◌∷◌, ◌++◌, Option, Some, None, length, get_or, refl, sym, ap, ◌∙◌, subst, arith, ⊎_elim, ◌⊎◌, inl, inr, length-append}
use Rattle.std.proofs.lemmas.Bool.{cases_lt, cases_eq}
use Rattle.std.proofs.lemmas.List.{map-append}
use Rattle.rox_grammar.specs.Forest.{Forest, Nil, Cons, size}
use Rattle.rox_grammar.specs.Tree.{Node}
use Rattle.roxmltree.specs.DocumentView.{DocumentView}
use Rattle.roxmltree.specs.NodeRef.{node_refs}
use Rattle.roxmltree.specs.Places.{ids, Place, preorder, place, first, last, parent, children, last_child, next_sibling, prev_sibling}
use Rattle.roxmltree.specs.Climbing.{up_to}
use Rattle.roxmltree.specs.SiblingRange.{row_from, apart, siblings_through, IsSiblingRange}
use Rattle.roxmltree.specs.ChildrenLeft.{if_some, last_before, between, IsStretch}
use Rattle.roxmltree.proofs.Preorder.{at, Sits, Leads, here, place_is, prior_rest, up_to_leads, length-preorder, first_child_some, first_child_none, last_child_some, place_end}
use Rattle.roxmltree.proofs.Siblings.{row_sits, row_at, second, next_row, prev_row, prev_next, run_same, run_next, run_next_none, run_back, run_back_none, run_children, no_children}

-- from the last node of a subtree one comes up to its top
end_up : (f : Forest Node) (i j q : ℕ) → i < size f → i + (place f i).count ≡ j + 1 → parent f i ≡ Some q → up_to f j q ≡ i
end_up f i j q l =
    let h = here f i l in
    rw (place_is f i h) (λ e is.
    let p = prior_rest (preorder f) h.up h.left i h.item h.below h.beside (row_sits f i h) in
    let same : p.0 ≡ j = omega (arith, p.1, e) in
    subst (λ k. up_to f k q ≡ i) same (end_leads f p.0 i q h.up is p.2))
  where
    end_leads : (f : Forest Node) (k i q : ℕ) (up : List ℕ) → first up ≡ Some q → Leads (preorder f) k i up → up_to f k q ≡ i
    end_leads f k i q [] is g = cc
    end_leads f k i q (p ∷ up) is g = let same : p ≡ q = cc in rw same at (up_to_leads f k i p up g)

-- a node's subtree has the node itself
count_some : (f : Forest Node) (i : ℕ) → i < size f → 0 < (place f i).count
count_some f i l = let h = here f i l in let k : 0 < 1 + size h.below = omega arith in rw (place_is f i h) k

first_is : (b n : ℕ) (f : Forest Node) → first (ids b f) ≡ Some n → n ≡ b
first_is b n Nil e = cc
first_is b n (Cons x c r) e = cc

-- the next sibling stands right after the subtree
next_is_end : (f : Forest Node) (i n : ℕ) → i < size f → next_sibling f i ≡ Some n → n ≡ i + (place f i).count
next_is_end f i n l =
    let h = here f i l in
    rw (place_is f i h) (λ e. first_is (i + (1 + size h.below)) n h.beside e)

-- and has the same nodes above it
next_above : (f : Forest Node) (i n : ℕ) → i < size f → next_sibling f i ≡ Some n → (place f n).above ≡ (place f i).above
next_above f i n l e =
    let s = second (place f i).after n e in
    (row_at f i 1 n l (omega (arith, s.0)) s.1).above

-- ids of siblings do not fall
ids_from : (b : ℕ) (f : Forest Node) (k : ℕ) → k < length (ids b f) → b ≤ get_or (ids b f) k 0
ids_from b Nil k l = absurd (omega arith)
ids_from b (Cons x c r) zero l = omega arith
ids_from b (Cons x c r) (suc k) l = omega (arith, ids_from (b + (1 + size c)) r k (omega arith))

row_low : (f : Forest Node) (i k : ℕ) → i < size f → k < length (row_from f i) → i ≤ get_or (row_from f i) k 0
unfolding place
row_low f i k l m =
    let h = here f i l in
    subst (λ (p : Place). i ≤ get_or (i ∷ p.after) k 0) (sym h.is) (ids_from i (Cons h.item h.below h.beside) k (rw h.is at m))

run_low : (f : Forest Node) (i j : ℕ) → i < size f → IsSiblingRange f i j → i ≤ j
run_low f i j l r = rw r.there at (row_low f i (apart f i j) l r.short)

option_cases : (o : Option ℕ) → (o ≡ None) ⊎ ((n : ℕ) × (o ≡ Some n))
option_cases None = inl refl
option_cases (Some n) = inr (n, refl)

some_of : (k : ℕ) (xs : List ℕ) → 0 < k → if_some k xs ≡ xs
some_of k xs l = grind arith

none_of : (k : ℕ) (xs : List ℕ) → k ≡ 0 → if_some k xs ≡ []
none_of k xs e = cc

-- none are left where the first would not end before
pub front_none : (d : DocumentView) (f : Forest Node) (a u h : ℕ) → u ≤ a → node_refs d (between f a u h) ≡ []
front_none d f a u h l = ap (node_refs d) (none_of (u - a) (siblings_through f a (last_before f u h)) (omega arith))

-- without the first one
record Front (f : Forest Node) (a u h : ℕ) : Type 0 where
  rest : between f a u h ≡ a ∷ between f (a + (place f a).count) u h
  sound : a + (place f a).count < u → IsStretch f (a + (place f a).count) u h

front : (f : Forest Node) (a u h : ℕ) → a < u → IsStretch f a u h → Front f a u h
front f a u h l s =
    let z = last_before f u h in
    let n = a + (place f a).count in
    let c = count_some f z s.last_inside in
    let whole = some_of (u - a) (siblings_through f a z) (omega arith) in
    ⊎_elim
    (λ same.
    let e : n ≡ u = ap (λ i. i + (place f i).count) same ∙ s.ends in
    record {
      rest = whole ∙ run_same f a z same ∙ ap (λ xs. a ∷ xs) (sym (none_of (u - n) (siblings_through f n z) (omega arith)));
      sound = λ m. absurd (omega arith);
    })
    (λ other. ⊎_elim
    (λ none. absurd (run_next_none f a z s.is_run other none))
    (λ some.
    let e : some.0 ≡ n = next_is_end f a some.0 s.inside some.1 in
    let next : next_sibling f a ≡ Some n = some.1 ∙ ap Some e in
    let r = run_next f a z n s.inside s.is_run other next in
    let i = next_row f a n s.inside next in
    let low = run_low f n z i.0 r.1 in
    record {
      rest = whole ∙ r.0 ∙ ap (λ xs. a ∷ xs) (sym (some_of (u - n) (siblings_through f n z) (omega (arith, s.ends))));
      sound = λ m. record { inside = i.0; is_run = r.1; last_inside = s.last_inside; ends = s.ends; is_child = s.is_child };
    })
    (option_cases (next_sibling f a)))
    (cases_eq a z)

pub front_left : (d : DocumentView) (f : Forest Node) (a u h n : ℕ) → a < u → IsStretch f a u h → n ≡ a + (place f a).count → node_refs d (between f a u h) ≡ (d, a) ∷ node_refs d (between f n u h)
front_left d f a u h n l s e = rw e (ap (node_refs d) (front f a u h l s).rest)

pub front_rest : (f : Forest Node) (a u h n : ℕ) → a < u → IsStretch f a u h → n ≡ a + (place f a).count → n < u → IsStretch f n u h
front_rest f a u h n l s e = rw e (front f a u h l s).sound

-- without the last one
record Back (f : Forest Node) (a u h : ℕ) : Type 0 where
  rest : between f a u h ≡ between f a (last_before f u h) h ++ last_before f u h ∷ []
  sound : a < last_before f u h → IsStretch f a (last_before f u h) h

back : (f : Forest Node) (a u h : ℕ) → a < u → IsStretch f a u h → Back f a u h
back f a u h l s =
    let z = last_before f u h in
    let whole = some_of (u - a) (siblings_through f a z) (omega arith) in
    ⊎_elim
    (λ same.
    record {
      rest = whole ∙ run_same f a z same ∙ rw (none_of (z - a) (siblings_through f a (last_before f z h)) (omega arith)) (ap (λ i. i ∷ []) same);
      sound = λ m. absurd (omega arith);
    })
    (λ other. ⊎_elim
    (λ none. absurd (run_back_none f a z s.inside s.is_run other none))
    (λ some.
    let p = some.0 in
    let r = run_back f a z p s.inside s.is_run other some.1 in
    let i = prev_row f z p s.last_inside some.1 in
    let next = prev_next f z p s.last_inside some.1 in
    let e : z ≡ p + (place f p).count = next_is_end f p z i.0 next in
    let child : parent f p ≡ Some h = ap first (sym (next_above f p z i.0 next)) ∙ s.is_child in
    let c = count_some f p i.0 in
    let is : last_before f z h ≡ p = end_up f p (z - 1) h i.0 (omega arith) child in
    let low = run_low f a p s.inside r.1 in
    record {
      rest = whole ∙ r.0 ∙ ap (λ xs. xs ++ z ∷ []) (sym (some_of (z - a) (siblings_through f a (last_before f z h)) (omega arith) ∙ ap (siblings_through f a) is));
      sound = λ m. record {
        inside = s.inside;
        is_run = rw is r.1;
        last_inside = rw is i.0;
        ends = rw is (sym e);
        is_child = rw is child;
      };
    })
    (option_cases (prev_sibling f z)))
    (cases_eq a z)

pub back_left : (d : DocumentView) (f : Forest Node) (a u h z : ℕ) → a < u → IsStretch f a u h → z ≡ last_before f u h → node_refs d (between f a u h) ≡ node_refs d (between f a z h) ++ (d, z) ∷ []
back_left d f a u h z l s e = grind (arith, back, map-append)

pub back_rest : (f : Forest Node) (a u h z : ℕ) → a < u → IsStretch f a u h → z ≡ last_before f u h → a < z → IsStretch f a z h
back_rest f a u h z l s e = rw e (back f a u h l s).sound

-- ---- the children
last_top : (T : List Place) (up left : List ℕ) (b : ℕ) (r : Forest Node) (d : ℕ) → Sits T up left b r → last (ids b r) ≡ Some d → (d < length T) × (d + (at T d).count ≡ b + size r) × ((at T d).above ≡ up)
last_top T up left b Nil d s e = cc
last_top T up left b (Cons x c Nil) d s e = grind arith
last_top T up left b (Cons x c (Cons x' c' r')) d s e = grind (arith, last_top T up (b ∷ left) (b + (1 + size c)) (Cons x' c' r') d s.3 e)

record LastChild (f : Forest Node) (i d : ℕ) : Type 0 where
  inside : d < size f
  ends : d + (place f d).count ≡ i + (place f i).count
  is_child : parent f d ≡ Some i

last_child_is : (f : Forest Node) (i d : ℕ) → i < size f → last_child f i ≡ Some d → LastChild f i d
unfolding place
last_child_is f i d l =
    let h = here f i l in
    let n = length-preorder f in
    rw h.is (λ e.
    let k = last_top (preorder f) (i ∷ h.up) [] (i + 1) h.below d h.under e in
    record { inside = omega (arith, k.0); ends = rw h.is (k.1 ∙ omega arith); is_child = ap first k.2 })

record Whole (f : Forest Node) (i : ℕ) : Type 0 where
  rest : between f (i + 1) (i + (place f i).count) i ≡ children f i
  sound : i + 1 < i + (place f i).count → IsStretch f (i + 1) (i + (place f i).count) i

whole_children : (f : Forest Node) (i : ℕ) → i < size f → Whole f i
whole_children f i l =
    let n = (place f i).count in
    let z = last_before f (i + n) i in
    ⊎_elim
    (λ more.
    let d : last_child f i ≡ Some z = last_child_some f i ((i + n) - 1) l more (omega arith) in
    let r = run_children f i (i + 1) z l (first_child_some f i l more) d in
    let k = last_child_is f i z l d in
    record {
      rest = some_of ((i + n) - (i + 1)) (siblings_through f (i + 1) z) (omega arith) ∙ r.0;
      sound = λ m. record { inside = omega (arith, place_end f i l); is_run = r.1; last_inside = k.inside; ends = k.ends; is_child = k.is_child };
    })
    (λ few.
    record {
      rest = none_of ((i + n) - (i + 1)) (siblings_through f (i + 1) z) (omega arith) ∙ sym (no_children f i (first_child_none f i l few));
      sound = λ m. absurd (omega arith);
    })
    (cases_lt 1 n)

pub children_left : (d : DocumentView) (f : Forest Node) (i a u h : ℕ) → i < size f → a ≡ i + 1 → u ≡ i + (place f i).count → h ≡ i → node_refs d (between f a u h) ≡ node_refs d (children f i)
children_left d f i a u h l ea eu eh = rw (ea, eu, eh) (ap (node_refs d) (whole_children f i l).rest)

pub children_stretch : (f : Forest Node) (i a u h : ℕ) → i < size f → a ≡ i + 1 → u ≡ i + (place f i).count → h ≡ i → a < u → IsStretch f a u h
children_stretch f i a u h l ea eu eh = rw (ea, eu, eh) (whole_children f i l).sound

-- fewer are left
pub back_fewer : (d : DocumentView) (f : Forest Node) (a u h z : ℕ) → a < u → IsStretch f a u h → z ≡ last_before f u h → length (node_refs d (between f a z h)) < length (node_refs d (between f a u h))
back_fewer d f a u h z l s e = grind (arith, back_left, length-append)
