-- What stands round each node of a tree's preorder list.
use Rattle.std.proofs.Common.{◌≡◌, ℕ, suc, ◌+◌, ◌<◌, ◌≤◌, List, [], ◌∷◌, ◌++◌, Some, None, length, get_or, refl, sym, ap, subst, ◌∙◌, arith, length-append, append_assoc, ⊎_elim, ne_eqb}
use Rattle.std.proofs.lemmas.List.{get_or_append_left, get_or-append-add}
use Rattle.std.proofs.lemmas.Bool.{cases_lt, cases_eq}
use Rattle.rox_grammar.specs.Forest.{Forest, Nil, Cons, size}
use Rattle.rox_grammar.specs.Tree.{Node}
use Rattle.roxmltree.specs.Places.{ids, Place, place_at, places, nowhere, preorder, place, first, last, parent, first_child, last_child, next_sibling, prev_sibling}
use Rattle.roxmltree.specs.Climbing.{child_in, up_to}

pub length-places : (up left : List ℕ) (b : ℕ) (f : Forest Node) → length (places up left b f) ≡ size f
length-places up left b Nil = refl
length-places up left b (Cons x c r) = grind (arith, length-places (b ∷ up) [] (b + 1) c, length-places up (b ∷ left) (b + (1 + size c)) r, length-append)

-- the place at id i of the list
abbrev pub at : List Place → ℕ → Place
at T i = get_or T i nowhere

-- the list has the nodes of a forest from id b on
abbrev pub Sits : List Place → List ℕ → List ℕ → ℕ → Forest Node → Type 0
Sits T up left b Nil = Unit {0}
Sits T up left b (Cons x c r) =
    (at T b ≡ place_at up left b x c r) × (b < length T) × Sits T (b ∷ up) [] (b + 1) c × Sits T up (b ∷ left) (b + (1 + size c)) r

pub sits : (T : List Place) (up left : List ℕ) (b : ℕ) (f : Forest Node) → ((k : ℕ) → k < size f → at T (b + k) ≡ at (places up left b f) k) → b + size f ≤ length T → Sits T up left b f
sits T up left b Nil h n = tt
sits T up left b (Cons x c r) h n =
    let pc = places (b ∷ up) [] (b + 1) c in
    let pr = places up (b ∷ left) (b + (1 + size c)) r in
    let lc : length pc ≡ size c = length-places (b ∷ up) [] (b + 1) c in
    let e0 : b + 0 ≡ b = omega arith in (
      rw e0 at (h 0 (omega arith)),
      omega arith,
      sits T (b ∷ up) [] (b + 1) c
          (λ k l. let e : (b + 1) + k ≡ b + suc k = omega arith in
          rw e (h (suc k) (omega arith) ∙ get_or_append_left pc pr nowhere k (omega arith)))
          (omega arith),
      sits T up (b ∷ left) (b + (1 + size c)) r
          (λ k l. let e : (b + (1 + size c)) + k ≡ b + suc (length pc + k) = omega arith in
          rw e (h (suc (length pc + k)) (omega arith) ∙ get_or-append-add pc pr k nowhere))
          (omega arith),
    )

-- the nodes above, each with those above it
abbrev pub Chain : List Place → List ℕ → Type 0
Chain T [] = Unit {0}
Chain T (q ∷ up) = (q < length T) × ((at T q).above ≡ up) × Chain T up

-- what stands at e, if anything, has fewer than d nodes above it
abbrev pub Follow : List Place → ℕ → ℕ → Type 0
Follow T e d = e < length T → length (at T e).above < d

-- from j upwards one comes to q, above which is up
pub record Leads (T : List Place) (j q : ℕ) (up : List ℕ) : Type 0 where
  pub inside : j < length T
  pub through : List ℕ
  pub is : j ∷ (at T j).above ≡ through ++ q ∷ up

-- what stands right before b
abbrev pub Prior : List Place → ℕ → List ℕ → List ℕ → Type 0
Prior T b [] [] = b ≡ 0
Prior T b (q ∷ up) [] = b ≡ q + 1
Prior T b up (q ∷ left) = (j : ℕ) × (b ≡ j + 1) × Leads T j q up × (q < length T) × ((at T q).before ≡ left)

-- from the last node of a forest one comes up to the last of its top nodes
pub record RightEnd (T : List Place) (up : List ℕ) (b : ℕ) (f : Forest Node) (j : ℕ) : Type 0 where
  pub top : ℕ
  pub is : last (ids b f) ≡ Some top
  pub leads : Leads T j top up

pub right_end : (T : List Place) (up left : List ℕ) (b : ℕ) (f : Forest Node) (j : ℕ) → Sits T up left b f → b + size f ≡ j + 1 → 0 < size f → RightEnd T up b f j
right_end T up left b Nil j s e n = absurd (omega arith)
right_end T up left b (Cons x Nil Nil) j s e n =
    let same : j ≡ b = omega arith in
    rw same (record { top = b; is = refl; leads = record { inside = s.1; through = []; is = ap (λ p. b ∷ p.above) s.0 } })
right_end T up left b (Cons x (Cons x' c' r') Nil) j s e n =
    let k = right_end T (b ∷ up) [] (b + 1) (Cons x' c' r') j s.2 (omega arith) (omega arith) in
    record {
      top = b;
      is = refl;
      leads = record {
        inside = k.leads.inside;
        through = k.leads.through ++ k.top ∷ [];
        is = k.leads.is ∙ sym (append_assoc k.leads.through (k.top ∷ []) (b ∷ up));
      };
    }
right_end T up left b (Cons x c (Cons x' c' r')) j s e n = grind (arith, right_end T up (b ∷ left) (b + (1 + size c)) (Cons x' c' r') j s.3 (omega arith) (omega arith))

-- right after the sibling before come these
abbrev pub Fit : List Place → List ℕ → List ℕ → Type 0
Fit T left xs = (q : ℕ) → first left ≡ Some q → (q < length T) × ((at T q).after ≡ xs)

-- all about the node at id i
pub record Here (T : List Place) (i : ℕ) : Type 0 where
  pub up : List ℕ
  pub left : List ℕ
  pub item : Node
  pub below : Forest Node
  pub beside : Forest Node
  pub is : at T i ≡ place_at up left i item below beside
  pub inside : i < length T
  pub under : Sits T (i ∷ up) [] (i + 1) below
  pub next : Sits T up (i ∷ left) (i + (1 + size below)) beside
  pub chain : Chain T up
  pub follow : Follow T ((i + (1 + size below)) + size beside) (length up)
  pub prior : Prior T i up left
  pub ends : (i + (1 + size below)) + size beside ≤ length T
  pub deep : length up ≤ i
  pub fit : Fit T left (ids i (Cons item below beside))

-- what stands right after a first node's subtree is a sibling or has fewer nodes above it
follow_children : (T : List Place) (up left : List ℕ) (e d : ℕ) (r : Forest Node) → Sits T up left e r → Follow T (e + size r) (length up) → length up < d → Follow T e d
follow_children T up left e d Nil s h l m = let z : e + 0 ≡ e = omega arith in let k : length (at T e).above < length up = (rw z at h) m in omega arith
follow_children T up left e d (Cons x c r) s h l m = rw s.0 l

-- from the last node of a first node's subtree one comes up to it
pub prior_rest : (T : List Place) (up left : List ℕ) (b : ℕ) (x : Node) (c r : Forest Node) → Sits T up left b (Cons x c r) → Prior T (b + (1 + size c)) up (b ∷ left)
prior_rest T up left b x Nil r s = grind arith
prior_rest T up left b x (Cons x' c' r') r s =
    let k = right_end T (b ∷ up) [] (b + 1) (Cons x' c' r') (b + size (Cons x' c' r')) s.2 (omega arith) (omega arith) in (
      b + size (Cons x' c' r'),
      omega arith,
      record {
        inside = k.leads.inside;
        through = k.leads.through ++ k.top ∷ [];
        is = k.leads.is ∙ sym (append_assoc k.leads.through (k.top ∷ []) (b ∷ up));
      },
      s.1,
      ap (λ p. p.before) s.0,
    )

find : (T : List Place) (up left : List ℕ) (b : ℕ) (f : Forest Node) → Sits T up left b f → Chain T up → Follow T (b + size f) (length up) → Prior T b up left → b + size f ≤ length T → length up ≤ b → Fit T left (ids b f) → (i : ℕ) → b ≤ i → i < b + size f → Here T i
find T up left b Nil s ch fo pr n d ft i l m = absurd (omega arith)
find T up left b (Cons x c r) s ch fo pr n d ft i l m =
    let e : b + size (Cons x c r) ≡ (b + (1 + size c)) + size r = omega arith in
    let fo' : Follow T ((b + (1 + size c)) + size r) (length up) = rw e at fo in
    ⊎_elim
    (λ same. rw same (record { up = up; left = left; item = x; below = c; beside = r; is = s.0; inside = s.1; under = s.2; next = s.3; chain = ch; follow = fo'; prior = pr; ends = omega arith; deep = d; fit = ft }))
    (λ other. ⊎_elim
    (λ low. find T (b ∷ up) [] (b + 1) c s.2 (s.1, ap (λ p. p.above) s.0, ch)
    (let z : (b + 1) + size c ≡ b + (1 + size c) = omega arith in rw z (follow_children T up (b ∷ left) (b + (1 + size c)) (length (b ∷ up)) r s.3 fo' (omega arith)))
    refl (omega arith) (omega arith) (λ q z. cc) i (omega arith) (omega arith))
    (λ high. find T up (b ∷ left) (b + (1 + size c)) r s.3 ch fo' (prior_rest T up left b x c r s) (omega arith) (omega arith) (λ q z. let same : b ≡ q = cc in rw (← same) (s.1, ap (λ p. p.after) s.0)) i high (omega arith))
    (cases_lt i (b + (1 + size c))))
    (cases_eq i b)

pub here : (f : Forest Node) (i : ℕ) → i < size f → Here (preorder f) i
unfolding preorder
here f i l =
    let T = places [] [] 0 f in
    let n : length T ≡ size f = length-places [] [] 0 f in
    find T [] [] 0 f
    (sits T [] [] 0 f (λ k m. let e : 0 + k ≡ k = omega arith in rw e refl) (omega arith))
    tt (λ m. absurd (omega arith)) refl (omega arith) (omega arith) (λ q z. cc) i (omega arith) (omega arith)

pub length-preorder : (f : Forest Node) → length (preorder f) ≡ size f
unfolding preorder
length-preorder f = length-places [] [] 0 f

-- the place of an id, as the parts of `Here` make it
pub place_is : (f : Forest Node) (i : ℕ) (h : Here (preorder f) i) → place f i ≡ place_at h.up h.left i h.item h.below h.beside
unfolding place
place_is f i h = h.is

-- ---- one lemma for each step that the table takes
pub place_id : (f : Forest Node) (i : ℕ) → i < size f → (place f i).id ≡ i
place_id f i l = ap (λ p. p.id) (place_is f i (here f i l))

pub place_end : (f : Forest Node) (i : ℕ) → i < size f → i + (place f i).count ≤ size f
place_end f i l =
    let h = here f i l in
    rw (place_is f i h) (omega (arith, h.ends, length-preorder f))

-- ---- the first child
first_some : (b : ℕ) (f : Forest Node) → 0 < size f → first (ids b f) ≡ Some b
first_some b Nil l = absurd (omega arith)
first_some b (Cons x c r) l = refl

first_none : (b : ℕ) (f : Forest Node) → size f ≡ 0 → first (ids b f) ≡ None
first_none b Nil e = refl
first_none b (Cons x c r) e = absurd (omega arith)

pub first_child_some : (f : Forest Node) (i : ℕ) → i < size f → 1 < (place f i).count → first_child f i ≡ Some (i + 1)
first_child_some f i l m =
    let h = here f i l in
    let k : 1 < 1 + size h.below = rw (place_is f i h) at m in
    rw (place_is f i h) (first_some (i + 1) h.below (omega arith))

pub first_child_none : (f : Forest Node) (i : ℕ) → i < size f → (place f i).count ≤ 1 → first_child f i ≡ None
first_child_none f i l m =
    let h = here f i l in
    let k : 1 + size h.below ≤ 1 = rw (place_is f i h) at m in
    rw (place_is f i h) (first_none (i + 1) h.below (omega arith))

-- ---- the next sibling
next_some : (T : List Place) (up left : List ℕ) (e : ℕ) (r : Forest Node) → Sits T up left e r → Follow T (e + size r) (length up) → e < length T → length (at T e).above ≡ length up → first (ids e r) ≡ Some e
next_some T up left e Nil s h l d = let z : e + 0 ≡ e = omega arith in let k : length (at T e).above < length up = (rw z at h) l in absurd (omega arith)
next_some T up left e (Cons x c r) s h l d = refl

next_none : (T : List Place) (up left : List ℕ) (e : ℕ) (r : Forest Node) → Sits T up left e r → (e < length T → (at T e).above ≡ up → ⊥) → first (ids e r) ≡ None
next_none T up left e Nil s h = refl
next_none T up left e (Cons x c r) s h = absurd (h s.1 (ap (λ p. p.above) s.0))

next_sibling_some : (f : Forest Node) (i : ℕ) → i < size f → i + (place f i).count < size f → length (place f (i + (place f i).count)).above ≡ length (place f i).above → next_sibling f i ≡ Some (i + (place f i).count)
unfolding place
next_sibling_some f i l =
    let h = here f i l in
    let n = length-preorder f in
    rw h.is (λ m d. next_some (preorder f) h.up (i ∷ h.left) (i + (1 + size h.below)) h.beside h.next h.follow (omega arith) d)

next_sibling_none : (f : Forest Node) (i : ℕ) → i < size f → (i + (place f i).count < size f → (place f (i + (place f i).count)).above ≡ (place f i).above → ⊥) → next_sibling f i ≡ None
unfolding place
next_sibling_none f i l =
    let h = here f i l in
    let n = length-preorder f in
    rw h.is (λ k. next_none (preorder f) h.up (i ∷ h.left) (i + (1 + size h.below)) h.beside h.next (λ m d. k (omega arith) d))

-- ---- the parent
above_parent : (T : List Place) (up : List ℕ) (q : ℕ) → Chain T up → first up ≡ Some q → (q < length T) × (up ≡ q ∷ (at T q).above)
above_parent T [] q c e = cc
above_parent T (p ∷ up) q c e = let same : p ≡ q = cc in (rw (← same) c.0, rw (← same) (ap (λ v. p ∷ v) (sym c.1)))

pub parent_is : (f : Forest Node) (i q : ℕ) → i < size f → parent f i ≡ Some q → (q < size f) × ((place f i).above ≡ q ∷ (place f q).above)
unfolding place
parent_is f i q l =
    let h = here f i l in
    let n = length-preorder f in
    rw h.is (λ e. let k = above_parent (preorder f) h.up q h.chain e in (omega (arith, k.0), k.1))

pub no_first : (xs : List ℕ) → first xs ≡ None → length xs ≡ 0
no_first [] e = refl
no_first (x ∷ xs) e = cc

pub depth_le : (f : Forest Node) (i : ℕ) → i < size f → length (place f i).above ≤ i
depth_le f i l = let h = here f i l in rw (place_is f i h) h.deep

-- ---- the next sibling, by its parent
pub next_child : (f : Forest Node) (i e q : ℕ) → i < size f → e ≡ i + (place f i).count → e < size f → (i ≡ 0 → e ≡ size f) → (0 < i → parent f i ≡ Some q) → (0 < e → parent f e ≡ Some q) → next_sibling f i ≡ Some e
next_child f i e q l is m root one other =
    let low : 0 < i = ⊎_elim (λ none. absurd (let z = root none in omega arith)) (λ some. omega arith) (cases_eq i 0) in
    rw (← is) at (next_sibling_some f i l) (omega arith) (ap length (parent_is f e q m (other (omega arith))).1 ∙ sym (ap length (parent_is f i q l (one low)).1))

pub no_next_child : (f : Forest Node) (i e q r : ℕ) → i < size f → e ≡ i + (place f i).count → e < size f → (i ≡ 0 → e ≡ size f) → (0 < i → parent f i ≡ Some q) → (0 < e → parent f e ≡ Some r) → (r ≡ q → ⊥) → next_sibling f i ≡ None
no_next_child f i e q r l is m root one other ne =
    let low : 0 < i = ⊎_elim (λ none. absurd (let z = root none in omega arith)) (λ some. omega arith) (cases_eq i 0) in
    next_sibling_none f i l (λ k same.
    let z : Some r ≡ Some q = sym (other (omega arith)) ∙ (rw is (ap first same)) ∙ one low in
    ne cc)

pub no_next_row : (f : Forest Node) (i e : ℕ) → i < size f → e ≡ i + (place f i).count → size f ≤ e → next_sibling f i ≡ None
no_next_row f i e l is past = next_sibling_none f i l (λ k same. absurd (omega arith))

-- ---- up to a child of a node
child_here : (i : ℕ) (up : List ℕ) (q : ℕ) → first up ≡ Some q → child_in (i ∷ up) q ≡ i
child_here i up q e = grind arith

child_outermost : (i : ℕ) (up : List ℕ) (q : ℕ) → first up ≡ None → child_in (i ∷ up) q ≡ i
child_outermost i up q e = grind arith

child_above : (i p : ℕ) (up : List ℕ) (q : ℕ) → (p ≡ q → ⊥) → child_in (i ∷ p ∷ up) q ≡ child_in (p ∷ up) q
child_above i p up q ne = let k = ne_eqb p q ne in rw k refl

pub up_to_root : (f : Forest Node) (i q : ℕ) → parent f i ≡ None → up_to f i q ≡ i
unfolding up_to
up_to_root f i q e = child_outermost i (place f i).above q e

up_to_child : (f : Forest Node) (i q : ℕ) → parent f i ≡ Some q → up_to f i q ≡ i
unfolding up_to
up_to_child f i q e = child_here i (place f i).above q e

pub up_to_here : (f : Forest Node) (i q : ℕ) → (i ≡ 0 → parent f i ≡ None) → (0 < i → parent f i ≡ Some q) → up_to f i q ≡ i
up_to_here f i q none some = ⊎_elim (λ low. up_to_root f i q (none low)) (λ high. up_to_child f i q (some (omega arith))) (cases_eq i 0)

up_to_above : (f : Forest Node) (i p q : ℕ) → i < size f → parent f i ≡ Some p → (p ≡ q → ⊥) → up_to f i q ≡ up_to f p q
unfolding up_to
up_to_above f i p q l e ne = let k = parent_is f i p l e in rw k.1 (child_above i p (place f p).above q ne)

-- the node after these has what is behind it above it
chain_at : (T : List Place) (xs : List ℕ) (i : ℕ) (up : List ℕ) → Chain T (xs ++ i ∷ up) → (at T i).above ≡ up
chain_at T [] i up c = c.1
chain_at T (x ∷ xs) i up c = chain_at T xs i up c.2

-- a node is not among those below it
not_among : (T : List Place) (y : ℕ) (xs : List ℕ) (i : ℕ) (up : List ℕ) → Chain T (y ∷ (xs ++ i ∷ up)) → y ≡ i → ⊥
not_among T y xs i up c same =
    omega (arith, ap length (chain_at T xs i up c.2), ap length (rw same at c.1), length-append xs (i ∷ up))

child_behind : (T : List Place) (xs : List ℕ) (q i : ℕ) (up : List ℕ) → Chain T (xs ++ q ∷ i ∷ up) → child_in (xs ++ q ∷ i ∷ up) i ≡ q
child_behind T [] q i up c = child_here q (i ∷ up) i refl
child_behind T (x ∷ []) q i up c = child_above x q (i ∷ up) i (not_among T q [] i up c.2) ∙ child_behind T [] q i up c.2
child_behind T (x ∷ y ∷ xs) q i up c =
    child_above x y (xs ++ q ∷ i ∷ up) i (not_among T y (xs ++ q ∷ []) i up (rw (append_assoc xs (q ∷ []) (i ∷ up)) c.2)) ∙ child_behind T (y ∷ xs) q i up c.2

pub up_to_leads : (f : Forest Node) (j q i : ℕ) (up : List ℕ) → Leads (preorder f) j q (i ∷ up) → up_to f j i ≡ q
unfolding up_to place
up_to_leads f j q i up g =
    let h = here f j (omega (arith, g.inside, length-preorder f)) in
    let c' : Chain (preorder f) (g.through ++ q ∷ i ∷ up) = subst (λ (xs : List ℕ). Chain (preorder f) xs) g.is (g.inside, refl, rw h.is h.chain) in
    subst (λ (xs : List ℕ). child_in xs i ≡ q) (sym g.is) (child_behind (preorder f) g.through q i up c')

-- what is come to is a child of the node above it
leads_under : (f : Forest Node) (j q i : ℕ) (up : List ℕ) → Leads (preorder f) j q (i ∷ up) → parent f q ≡ Some i
unfolding place
leads_under f j q i up g =
    let h = here f j (omega (arith, g.inside, length-preorder f)) in
    let c' : Chain (preorder f) (g.through ++ q ∷ i ∷ up) = subst (λ (xs : List ℕ). Chain (preorder f) xs) g.is (g.inside, refl, rw h.is h.chain) in
    ap first (chain_at (preorder f) g.through q (i ∷ up) c')

-- a step from a node towards the child of q that is above it
pub climbs : (f : Forest Node) (i p r q : ℕ) → i < size f → parent f (up_to f i q) ≡ Some q → (i ≡ 0 → parent f i ≡ None) → (0 < i → parent f i ≡ Some p) → (0 < i → parent f i ≡ Some r) → (r ≡ q → ⊥)
    → (p < size f) × (up_to f i q ≡ up_to f p q) × (length (place f p).above < length (place f i).above)
climbs f i p r q l under none some again ne =
    ⊎_elim
    (λ low.
    absurd (let z : None ≡ Some q = sym (none low) ∙ (rw (up_to_root f i q (none low)) at under) in cc))
    (λ high.
    let e = some (omega arith) in
    let z : Some r ≡ Some p = sym (again (omega arith)) ∙ e in
    let same : r ≡ p = cc in
    let k = parent_is f i p l e in
    (k.0, up_to_above f i p q l e (rw same at ne), omega (arith, ap length k.1)))
    (cases_eq i 0)

last_none : (b : ℕ) (f : Forest Node) → size f ≡ 0 → last (ids b f) ≡ None
last_none b Nil e = refl
last_none b (Cons x c r) e = absurd (omega arith)

pub last_child_some : (f : Forest Node) (i j : ℕ) → i < size f → 1 < (place f i).count → i + (place f i).count ≡ j + 1 → last_child f i ≡ Some (up_to f j i)
last_child_some f i j l m e =
    let h = here f i l in
    let e' : i + (1 + size h.below) ≡ j + 1 = rw (place_is f i h) at e in
    let r = right_end (preorder f) (i ∷ h.up) [] (i + 1) h.below j h.under (omega arith) (omega arith) in
    rw (place_is f i h) (rw (up_to_leads f j r.top i h.up r.leads) r.is)

pub last_child_under : (f : Forest Node) (i j : ℕ) → i < size f → 1 < (place f i).count → i + (place f i).count ≡ j + 1 → parent f (up_to f j i) ≡ Some i
last_child_under f i j l m e =
    let h = here f i l in
    let e' : i + (1 + size h.below) ≡ j + 1 = rw (place_is f i h) at e in
    let r = right_end (preorder f) (i ∷ h.up) [] (i + 1) h.below j h.under (omega arith) (omega arith) in
    rw (up_to_leads f j r.top i h.up r.leads) (leads_under f j r.top i h.up r.leads)

pub last_child_none : (f : Forest Node) (i : ℕ) → i < size f → (place f i).count ≤ 1 → last_child f i ≡ None
last_child_none f i l m =
    let h = here f i l in
    let k : 1 + size h.below ≤ 1 = rw (place_is f i h) at m in
    rw (place_is f i h) (last_none (i + 1) h.below (omega arith))

-- ---- the previous sibling
prev_some : (f : Forest Node) (i j p : ℕ) (up left : List ℕ) → Prior (preorder f) i up left → i ≡ j + 1 → first up ≡ Some p → (p ≡ j → ⊥) → first left ≡ Some (up_to f j p)
prev_some f i j p [] left prior e is n = cc
prev_some f i j p (q ∷ up) [] prior e is n = let same : q ≡ p = cc in absurd (n (omega (arith, prior)))
prev_some f i j p (k ∷ up) (q ∷ left) prior e is n =
    let same : prior.0 ≡ j = omega (arith, prior.1) in
    let parent_same : k ≡ p = cc in
    let u' : up_to f j p ≡ q = rw (same, parent_same) at (up_to_leads f prior.0 q k up prior.2) in
    ap Some (sym u')

prev_under : (f : Forest Node) (i j p : ℕ) (up left : List ℕ) → Prior (preorder f) i up left → i ≡ j + 1 → first up ≡ Some p → (p ≡ j → ⊥) → parent f (up_to f j p) ≡ Some p
prev_under f i j p [] left prior e is n = cc
prev_under f i j p (q ∷ up) [] prior e is n = let same : q ≡ p = cc in absurd (n (omega (arith, prior)))
prev_under f i j p (k ∷ up) (q ∷ left) prior e is n =
    let same : prior.0 ≡ j = omega (arith, prior.1) in
    let parent_same : k ≡ p = cc in
    let u' : up_to f j p ≡ q = rw (same, parent_same) at (up_to_leads f prior.0 q k up prior.2) in
    rw u' (leads_under f prior.0 q k up prior.2 ∙ ap Some parent_same)

prev_none : (f : Forest Node) (i j : ℕ) (up left : List ℕ) → Chain (preorder f) up → Prior (preorder f) i up left → i ≡ j + 1 → first up ≡ Some j → first left ≡ None
prev_none f i j up [] c p e n = refl
prev_none f i j up (q ∷ left) c p e n =
    let same : p.0 ≡ j = omega (arith, p.1) in
    let g : Leads (preorder f) j q up = rw same at p.2 in
    absurd (omega (arith, (ap length (above_parent (preorder f) up j c n).1), (ap length g.is), length-append g.through (q ∷ up)))

no_before : (f : Forest Node) (i : ℕ) (up left : List ℕ) → Prior (preorder f) i up left → i ≡ 0 → first left ≡ None
no_before f i up left p e = grind arith

pub prev_sibling_some : (f : Forest Node) (i j p : ℕ) → i < size f → i ≡ j + 1 → parent f i ≡ Some p → (p ≡ j → ⊥) → prev_sibling f i ≡ Some (up_to f j p)
prev_sibling_some f i j p l e = let h = here f i l in rw (place_is f i h) (prev_some f i j p h.up h.left h.prior e)

pub prev_sibling_under : (f : Forest Node) (i j p : ℕ) → i < size f → i ≡ j + 1 → parent f i ≡ Some p → (p ≡ j → ⊥) → parent f (up_to f j p) ≡ Some p
prev_sibling_under f i j p l e = let h = here f i l in rw (place_is f i h) (prev_under f i j p h.up h.left h.prior e)

pub prev_sibling_none : (f : Forest Node) (i j : ℕ) → i < size f → i ≡ j + 1 → parent f i ≡ Some j → prev_sibling f i ≡ None
prev_sibling_none f i j l e = let h = here f i l in rw (place_is f i h) (prev_none f i j h.up h.left h.chain h.prior e)

pub prev_sibling_root : (f : Forest Node) (i : ℕ) → i < size f → i ≡ 0 → prev_sibling f i ≡ None
prev_sibling_root f i l e = let h = here f i l in rw (place_is f i h) (no_before f i h.up h.left h.prior e)
