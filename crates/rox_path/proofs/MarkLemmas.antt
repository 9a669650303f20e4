-- Marks on the nodes of a subtree, and the nodes that steps lead to.
use Rattle.std.proofs.Common.{◌≡◌, inl, inr, ℕ, zero, suc, ◌+◌, ◌-◌, ◌<◌, ◌≤◌, Bool, true, false, cond, ◌&&◌, ◌||◌, nat_le, List, [], ◌∷◌, ◌++◌, map, Option, Some, None, length, get_or, refl, sym, ap, ◌∙◌, subst, arith, length-append, bytes_eq, take, append_assoc}
use Rattle.std.specs.List.{Contains, filter, list_any, range_with_len}
use Rattle.std.specs.Option.{option_eq}
use Rattle.std.proofs.lemmas.Bool.{cases_lt, and_parts, and_from, le-leb, leb-true, false≢true, cases_Bool, or_right}
use Rattle.std.proofs.lemmas.List.{get_or_past, take_more, map-append}
use Rattle.std.proofs.lemmas.Slice.Eq.{bytes_eq-Decides}
use Rattle.std.proofs.lemmas.Bool.Decides.{nat_tests}
use Rattle.rox_grammar.specs.Forest.{Forest, size}
use Rattle.rox_grammar.specs.Tree.{Node}
use Rattle.roxmltree.specs.DocumentView.{DocumentView}
use Rattle.roxmltree.specs.Places.{place, parent, first}
use Rattle.roxmltree.specs.NodeRef.{node_refs}
use Rattle.rox_path.specs.Steps.{Expanded, PathStep, child, descendant, step_of}
use Rattle.rox_path.specs.declared.steps.Step.{Step}
use Rattle.rox_path.specs.Match.{IsElementOf, Match, at_start, by_child, by_descendant, Ascends, Selects}
use Rattle.rox_path.specs.NodeMarks.{marks_by, is_marked, is_marked_node, is_one_marked, is_named, is_below, is_child, is_descendant, Laws}
use Rattle.rox_path.proofs.Around.{above_around, stays_inside, parent_above, behind, in_front, in_cons, count_some}

-- ---- marks as a list

mark_at : (f : DocumentView × ℕ → Bool) (doc : DocumentView) (top n k : ℕ) → k < n → get_or (marks_by f doc top n) k false ≡ f (doc, top + k)
mark_at f doc top zero k l = absurd (omega arith)
mark_at f doc top (suc n) zero l = let e : top + 0 ≡ top = omega arith in rw e refl
mark_at f doc top (suc n) (suc k) l = grind (arith, nat_tests, mark_at f doc (top + 1) n k (omega arith))

pub length-marks : (f : DocumentView × ℕ → Bool) (doc : DocumentView) (top n : ℕ) → length (marks_by f doc top n) ≡ n
length-marks f doc top zero = refl
length-marks f doc top (suc n) = ap suc (length-marks f doc (top + 1) n)

-- one more mark
pub marks_more : (f : DocumentView × ℕ → Bool) (doc : DocumentView) (top n : ℕ) → marks_by f doc top (n + 1) ≡ marks_by f doc top n ++ f (doc, top + n) ∷ []
marks_more f doc top zero = let e : top + 0 ≡ top = omega arith in rw e refl
marks_more f doc top (suc n) = grind (arith, nat_tests, marks_more f doc (top + 1) n)

-- inside, the mark of a node is what the test says
pub marked_inside : (f : DocumentView × ℕ → Bool) (doc : DocumentView) (top n id : ℕ) → top ≤ id → id < top + n → is_marked top (marks_by f doc top n) id ≡ f (doc, id)
marked_inside f doc top n id low high = grind (arith, nat_tests, nat_le, le-leb, mark_at)

-- outside, there is none
record IsInside (top n id : ℕ) : Type 0 where
  low : top ≤ id
  high : id < top + n

test_true : (b c : Bool) → (cond b c false) ≡ true → (b ≡ true) × (c ≡ true)
test_true b c e = grind (arith, nat_tests)

inside_if_marked : (f : DocumentView × ℕ → Bool) (doc : DocumentView) (top n id : ℕ) → is_marked top (marks_by f doc top n) id ≡ true → IsInside top n id
inside_if_marked f doc top n id e = grind (arith, nat_tests, test_true, nat_le, leb-true, false≢true, get_or_past, length-marks)

marked : (f : DocumentView × ℕ → Bool) (doc : DocumentView) (top n id : ℕ) → is_marked top (marks_by f doc top n) id ≡ true → f (doc, id) ≡ true
marked f doc top n id e = grind (arith, nat_tests, inside_if_marked, marked_inside)

-- ---- names
same_option : (a b : Option (List ℕ)) → option_eq bytes_eq a b ≡ true → a ≡ b
same_option a b e = grind (arith, nat_tests, false≢true, bytes_eq-Decides)

equal_option : (a : Option (List ℕ)) → option_eq bytes_eq a a ≡ true
equal_option a = grind (arith, nat_tests, bytes_eq-Decides)

named : (doc : DocumentView) (id : ℕ) (name : Expanded) → is_named name (doc, id) ≡ true → IsElementOf doc.tree id name
named doc id name e = grind (arith, nat_tests, and_parts, bytes_eq, same_option, bytes_eq-Decides)

has_name : (doc : DocumentView) (id : ℕ) (name : Expanded) → IsElementOf doc.tree id name → is_named name (doc, id) ≡ true
has_name doc id name is = grind (arith, nat_tests, and_from, bytes_eq, bytes_eq-Decides, equal_option)

-- ---- one of a list is marked
one_of : (p : ℕ → Bool) (xs : List ℕ) → list_any p xs ≡ true → (a : ℕ) × Contains xs a × (p a ≡ true)
one_of p [] e = absurd (false≢true e)
one_of p (x ∷ xs) e =
    elim (cases_Bool (p x)) [
      | inl t ↦ (x, in_front x xs, t)
      | inr f ↦ let r = one_of p xs (rw f at e) in (r.0, behind x r.0 xs r.1, r.2)
    ]

any_of : (p : ℕ → Bool) (xs : List ℕ) (a : ℕ) → Contains xs a → p a ≡ true → list_any p xs ≡ true
any_of p [] a h e = absurd (omega (arith, h.1))
any_of p (x ∷ xs) a (zero, l, same) e = let t : p x ≡ true = ap p same ∙ e in rw t refl
any_of p (x ∷ xs) a (suc k, l, same) e = or_right (p x) (list_any p xs) (any_of p xs a (k, omega arith, same) e)

-- ---- the last step
last_same : (xs ys : List PathStep) (x y : PathStep) → xs ++ x ∷ [] ≡ ys ++ y ∷ [] → (xs ≡ ys) × (x ≡ y)
last_same [] [] x y e = (refl, cc)
last_same [] (z ∷ ys) x y e = absurd (omega (arith, ap length e, length-append ys (y ∷ [])))
last_same (z ∷ xs) [] x y e = absurd (omega (arith, ap length e, length-append xs (x ∷ [])))
last_same (z ∷ xs) (w ∷ ys) x y e =
    let k = last_same xs ys x y cc in
    (let f = k.0 in cc, k.1)

match_nothing : (tree : Forest Node) (start : ℕ) (all : List PathStep) (id : ℕ) → Match tree start all id → all ≡ [] → id ≡ start
match_nothing tree start all id at_start e = refl
match_nothing tree start all id (by_child steps name _ p m pa el) e = absurd (omega (arith, ap length e, length-append steps (child name ∷ [])))
match_nothing tree start all id (by_descendant steps name _ a m h el) e = absurd (omega (arith, ap length e, length-append steps (descendant name ∷ [])))

record ChildOf (tree : Forest Node) (start : ℕ) (steps : List PathStep) (name : Expanded) (id : ℕ) : Type 0 where
  p : ℕ
  reached : Match tree start steps p
  is_parent : parent tree id ≡ Some p
  is : IsElementOf tree id name

match_child : (tree : Forest Node) (start : ℕ) (all : List PathStep) (id : ℕ) → Match tree start all id → (steps : List PathStep) (name : Expanded) → all ≡ steps ++ child name ∷ [] → ChildOf tree start steps name id
match_child tree start all id at_start steps name e = absurd (omega (arith, ap length e, length-append steps (child name ∷ [])))
match_child tree start all id (by_child before other _ p m pa el) steps name e = grind (arith, nat_tests, last_same)
match_child tree start all id (by_descendant before other _ a m h el) steps name e =
    let l = (last_same before steps (descendant other) (child name) e).1 in cc

record BelowOf (tree : Forest Node) (start : ℕ) (steps : List PathStep) (name : Expanded) (id : ℕ) : Type 0 where
  a : ℕ
  reached : Match tree start steps a
  above : Contains (place tree id).above a
  is : IsElementOf tree id name

match_descendant : (tree : Forest Node) (start : ℕ) (all : List PathStep) (id : ℕ) → Match tree start all id → (steps : List PathStep) (name : Expanded) → all ≡ steps ++ descendant name ∷ [] → BelowOf tree start steps name id
match_descendant tree start all id at_start steps name e = absurd (omega (arith, ap length e, length-append steps (descendant name ∷ [])))
match_descendant tree start all id (by_child before other _ p m pa el) steps name e =
    let l = (last_same before steps (child other) (descendant name) e).1 in cc
match_descendant tree start all id (by_descendant before other _ a m h el) steps name e = grind (arith, nat_tests, last_same)

-- ---- the marks are those of the nodes that the steps lead to
pub record Shows (tree : Forest Node) (start : ℕ) (steps : List PathStep) (marks : List Bool) : Type 0 where
  pub sound : (id : ℕ) → is_marked start marks id ≡ true → Match tree start steps id
  pub complete : (id : ℕ) → Match tree start steps id → is_marked start marks id ≡ true
  pub low : (id : ℕ) → Match tree start steps id → start ≤ id
  pub high : (id : ℕ) → Match tree start steps id → id < start + (place tree start).count

-- at first only the start is marked
only_first : (k : ℕ) → get_or (true ∷ []) k false ≡ true → k ≡ 0
only_first k e = grind (arith, nat_tests)

first_marked : (start : ℕ) → is_marked start (true ∷ []) start ≡ true
first_marked start = grind (arith, nat_tests)

pub start_shows : (doc : DocumentView) (start : ℕ) → start < size doc.tree → Shows doc.tree start [] (true ∷ [])
start_shows doc start l =
    let some = count_some doc.tree start l in
    record {
      sound = λ id e.
          let parts = test_true (nat_le start id) (get_or (true ∷ []) (id - start) false) e in
          let same : id ≡ start = omega (arith, leb-true start id parts.0, only_first (id - start) parts.1) in
          subst (λ (i : ℕ). Match doc.tree start [] i) (sym same) at_start;
      complete = λ id m. let same = match_nothing doc.tree start [] id m refl in rw same (first_marked start);
      low = λ id m. let same = match_nothing doc.tree start [] id m refl in omega arith;
      high = λ id m. let same = match_nothing doc.tree start [] id m refl in omega arith;
    }

one_marked : (top : ℕ) (marks : List Bool) (o : Option ℕ) → is_one_marked top marks o ≡ true → (p : ℕ) × (o ≡ Some p) × (is_marked top marks p ≡ true)
one_marked top marks o e = grind (arith, nat_tests)

pub shows_child : (doc : DocumentView) (start : ℕ) (steps : List PathStep) (name : Expanded) (marks : List Bool) → Laws doc.tree → start < size doc.tree → Shows doc.tree start steps marks
    → Shows doc.tree start (steps ++ child name ∷ []) (marks_by (is_child start marks name) doc start (place doc.tree start).count)
shows_child doc start steps name marks laws l shows =
    let n = (place doc.tree start).count in
    let test = is_child start marks name in
    let inside = λ (id : ℕ) (m : Match doc.tree start (steps ++ child name ∷ []) id).
    let c = match_child doc.tree start (steps ++ child name ∷ []) id m steps name refl in
    stays_inside doc.tree start c.p id laws l (shows.low c.p c.reached) (shows.high c.p c.reached) (parent_above doc.tree id c.p c.is_parent) in
    record {
      sound = λ id e.
          let parts = and_parts (is_one_marked start marks (parent doc.tree id)) (is_named name (doc, id)) (marked test doc start n id e) in
          let p = one_marked start marks (parent doc.tree id) parts.0 in
          by_child steps name id p.0 (shows.sound p.0 p.2) p.1 (named doc id name parts.1);
      complete = λ id m.
          let c = match_child doc.tree start (steps ++ child name ∷ []) id m steps name refl in
          let i = inside id m in
          let e = c.is_parent in
          let reached : is_one_marked start marks (parent doc.tree id) ≡ true = rw e (shows.complete c.p c.reached) in
          marked_inside test doc start n id (omega (arith, i.0)) i.1 ∙ and_from (is_one_marked start marks (parent doc.tree id)) (is_named name (doc, id)) reached (has_name doc id name c.is);
      low = λ id m. omega (arith, (inside id m).0);
      high = λ id m. (inside id m).1;
    }

pub shows_descendant : (doc : DocumentView) (start : ℕ) (steps : List PathStep) (name : Expanded) (marks : List Bool) → Laws doc.tree → start < size doc.tree → Shows doc.tree start steps marks
    → Shows doc.tree start (steps ++ descendant name ∷ []) (marks_by (is_descendant start marks name) doc start (place doc.tree start).count)
shows_descendant doc start steps name marks laws l shows =
    let n = (place doc.tree start).count in
    let test = is_descendant start marks name in
    let inside = λ (id : ℕ) (m : Match doc.tree start (steps ++ descendant name ∷ []) id).
    let b = match_descendant doc.tree start (steps ++ descendant name ∷ []) id m steps name refl in
    stays_inside doc.tree start b.a id laws l (shows.low b.a b.reached) (shows.high b.a b.reached) b.above in
    record {
      sound = λ id e.
          let parts = and_parts (is_below start marks (doc, id)) (is_named name (doc, id)) (marked test doc start n id e) in
          let a = one_of (is_marked start marks) (place doc.tree id).above parts.0 in
          by_descendant steps name id a.0 (shows.sound a.0 a.2) a.1 (named doc id name parts.1);
      complete = λ id m.
          let b = match_descendant doc.tree start (steps ++ descendant name ∷ []) id m steps name refl in
          let i = inside id m in
          let reached : is_below start marks (doc, id) ≡ true = any_of (is_marked start marks) (place doc.tree id).above b.a b.above (shows.complete b.a b.reached) in
          marked_inside test doc start n id (omega (arith, i.0)) i.1 ∙ and_from (is_below start marks (doc, id)) (is_named name (doc, id)) reached (has_name doc id name b.is);
      low = λ id m. omega (arith, (inside id m).0);
      high = λ id m. (inside id m).1;
    }

-- ---- whether a node above is marked, from the parent's

false_test : (b c : Bool) → (b ≡ true → ⊥) → cond b c false ≡ false
false_test b c h = grind (arith, nat_tests)

unmarked : (top id : ℕ) (marks : List Bool) → id < top → is_marked top marks id ≡ false
unmarked top id marks l = false_test (nat_le top id) (get_or marks (id - top) false) (λ e. absurd (omega (arith, leb-true top id e)))

-- nothing above a node that comes before the first is marked
none_before : (top p : ℕ) (marks : List Bool) → p < top → (xs : List ℕ) → ((a : ℕ) → Contains xs a → a < p) → list_any (is_marked top marks) xs ≡ false
none_before top p marks l [] h = refl
none_before top p marks l (x ∷ xs) h =
    let low = h x (in_front x xs) in
    rw (unmarked top x marks (omega arith)) (none_before top p marks l xs (λ a k. h a (behind x a xs k)))

none_above : (p : ℕ → Bool) (xs : List ℕ) → first xs ≡ None → list_any p xs ≡ false
none_above p [] e = refl
none_above p (x ∷ xs) e = cc

-- below a node's parent, what is marked so far says whether a node above that is marked
pub below_by_parent : (doc : DocumentView) (top id p : ℕ) (marks below : List Bool) → Laws doc.tree → id < size doc.tree → parent doc.tree id ≡ Some p → id ≡ top + length below
    → below ≡ marks_by (is_below top marks) doc top (length below) → (is_marked top marks p || is_marked top below p) ≡ is_below top marks (doc, id)
below_by_parent doc top id p marks below laws l e is by =
    let before = (above_around doc.tree id p (parent_above doc.tree id p e)).1 in
    let same : is_marked top below p ≡ is_below top marks (doc, p) = elim (cases_lt p top) [
      | inl outside ↦ unmarked top p below outside ∙ sym (none_before top p marks outside (place doc.tree p).above (λ a h. (above_around doc.tree p a h).1))
      | inr inside ↦ ap (λ (m : List Bool). is_marked top m p) by ∙ marked_inside (is_below top marks) doc top (length below) p inside (omega arith)
    ] in
    rw ((laws.parents id p l e), same) refl

pub none_without_parent : (doc : DocumentView) (top id : ℕ) (marks : List Bool) → parent doc.tree id ≡ None → is_below top marks (doc, id) ≡ false
none_without_parent doc top id marks e = none_above (is_marked top marks) (place doc.tree id).above e

-- ---- the nodes that are marked
filter_one : (b : Bool) (doc : DocumentView) (i : ℕ) (xs : List (DocumentView × ℕ)) (ids : List ℕ) → xs ≡ node_refs doc ids → cond b ((doc, i) ∷ xs) xs ≡ node_refs doc (cond b (i ∷ ids) ids)
filter_one b doc i xs ids e = grind (arith, nat_tests)

pub filter_spots : (top : ℕ) (marks : List Bool) (doc : DocumentView) (ids : List ℕ) → filter (is_marked_node top marks) (node_refs doc ids) ≡ node_refs doc (filter (is_marked top marks) ids)
filter_spots top marks doc [] = refl
filter_spots top marks doc (i ∷ ids) = filter_one (is_marked top marks i) doc i _ _ (filter_spots top marks doc ids)

in_range : (a n x : ℕ) → a ≤ x → x < a + n → Contains (range_with_len a n) x
in_range a zero x low high = absurd (omega arith)
in_range a (suc n) x low high =
    elim (cases_lt a x) [
      | inl l ↦ behind a x (range_with_len (a + 1) n) (in_range (a + 1) n x (omega arith) (omega arith))
      | inr g ↦ let same : a ≡ x = omega arith in subst (λ (i : ℕ). Contains (range_with_len a (suc n)) i) same (in_front a (range_with_len (a + 1) n))
    ]

range_low : (a n x : ℕ) → Contains (range_with_len a n) x → a ≤ x
range_low a zero x h = absurd (omega (arith, h.1))
range_low a (suc n) x (zero, l, e) = omega (arith, e)
range_low a (suc n) x (suc k, l, e) = omega (arith, range_low (a + 1) n x (k, omega arith, e))

kept : (p : ℕ → Bool) (xs : List ℕ) (x : ℕ) → Contains (filter p xs) x → Contains xs x × (p x ≡ true)
kept p [] x h = absurd (omega (arith, h.1))
kept p (y ∷ xs) x h =
    elim (cases_Bool (p y)) [
      | inl t ↦
          elim (in_cons y x (filter p xs) (rw t at h)) [
            | inl same ↦ rw same (in_front y xs, t)
            | inr rest ↦ let r = kept p xs x rest in (behind y x xs r.0, r.1)
          ]
      | inr f ↦ let r = kept p xs x (rw f at h) in (behind y x xs r.0, r.1)
    ]

keep_on : (b : Bool) (y : ℕ) (ys : List ℕ) (x : ℕ) → Contains ys x → Contains (cond b (y ∷ ys) ys) x
keep_on true y ys x h = behind y x ys h
keep_on false y ys x h = h

keeps : (p : ℕ → Bool) (xs : List ℕ) (x : ℕ) → Contains xs x → p x ≡ true → Contains (filter p xs) x
keeps p [] x h e = absurd (omega (arith, h.1))
keeps p (y ∷ xs) x (zero, l, same) e = let t : p y ≡ true = ap p same ∙ e in rw t (0, omega arith, same)
keeps p (y ∷ xs) x (suc k, l, same) e = keep_on (p y) y (filter p xs) x (keeps p xs x (k, omega arith, same) e)

ascend_one : (b : Bool) (a : ℕ) (ys : List ℕ) → ((j : ℕ) → Contains ys j → a < j) → Ascends ys → Ascends (cond b (a ∷ ys) ys)
ascend_one b a ys h r = grind (arith, nat_tests)

ascends : (p : ℕ → Bool) (a n : ℕ) → Ascends (filter p (range_with_len a n))
ascends p a zero = tt
ascends p a (suc n) =
    let rest = range_with_len (a + 1) n in
    ascend_one (p a) a (filter p rest) (λ j h. omega (arith, range_low (a + 1) n j (kept p rest j h).0)) (ascends p (a + 1) n)

pub selected : (doc : DocumentView) (start : ℕ) (steps : List PathStep) (marks : List Bool) → Shows doc.tree start steps marks
    → Selects doc.tree start steps (filter (is_marked start marks) (range_with_len start (place doc.tree start).count))
selected doc start steps marks shows =
    let n = (place doc.tree start).count in
    let p = is_marked start marks in
    record {
      in_order = ascends p start n;
      exactly = λ id. (
        λ h. shows.sound id (kept p (range_with_len start n) id h).1,
        λ m. keeps p (range_with_len start n) id (in_range start n id (shows.low id m) (shows.high id m)) (shows.complete id m),
      );
    }

-- ---- the nodes that are left
next_from : (doc : DocumentView) (a m : ℕ) (s : DocumentView × ℕ) (rest : List (DocumentView × ℕ)) → s ∷ rest ≡ node_refs doc (range_with_len a m) → (s ≡ (doc, a)) × (rest ≡ node_refs doc (range_with_len (a + 1) (m - 1)))
next_from doc a m s rest e = grind (arith, nat_tests)

pub next_place : (doc : DocumentView) (top n count : ℕ) (s : DocumentView × ℕ) (rest : List (DocumentView × ℕ)) → s ∷ rest ≡ node_refs doc (range_with_len (top + n) (count - n))
    → (s ≡ (doc, top + n)) × (rest ≡ node_refs doc (range_with_len (top + (n + 1)) (count - (n + 1))))
next_place doc top n count s rest e = grind (arith, nat_tests, next_from)

-- ---- what the functions answer

pub child_shows : (doc : DocumentView) (start : ℕ) (steps : List PathStep) (name : Expanded) (marks next : List Bool) → Laws doc.tree → start < size doc.tree → Shows doc.tree start steps marks
    → next ≡ map (is_child start marks name) (node_refs doc (place doc.tree start).descendants) → Shows doc.tree start (steps ++ child name ∷ []) next
child_shows doc start steps name marks next laws l shows e = grind (arith, nat_tests, map, shows_child)

pub descendant_shows : (doc : DocumentView) (start : ℕ) (steps : List PathStep) (name : Expanded) (marks next : List Bool) → Laws doc.tree → start < size doc.tree → Shows doc.tree start steps marks
    → next ≡ map (is_descendant start marks name) (node_refs doc (place doc.tree start).descendants) → Shows doc.tree start (steps ++ descendant name ∷ []) next
descendant_shows doc start steps name marks next laws l shows e = grind (arith, nat_tests, map, shows_descendant)

pub nodes_selected : (doc : DocumentView) (start : ℕ) (steps : List PathStep) (marks : List Bool) (nodes : List (DocumentView × ℕ)) → Laws doc.tree → start < size doc.tree → Shows doc.tree start steps marks
    → nodes ≡ filter (is_marked_node start marks) (node_refs doc (place doc.tree start).descendants) → (ids : List ℕ) × (nodes ≡ node_refs doc ids) × Selects doc.tree start steps ids
nodes_selected doc start steps marks nodes laws l shows e = grind (arith, nat_tests, filter_spots, selected)

pub one_more_step : (steps : List Step) (i : ℕ) (s d : Step) → i < length steps → get_or steps i d ≡ s → map step_of (take (i + 1) steps) ≡ map step_of (take i steps) ++ step_of s ∷ []
one_more_step steps i s d l is =
    ap (map step_of) (take_more steps i d l) ∙ map-append step_of (take i steps) (get_or steps i d ∷ []) ∙ ap (λ (t : Step). map step_of (take i steps) ++ step_of t ∷ []) is

-- ---- a node after the other

-- of two tests the first, or the second where the first is not true
pub by_first : (r a b c : Bool) → r ≡ true → r ≡ a → (a || b) ≡ c → r ≡ c
by_first r a b c h e k = let t : a ≡ true = sym e ∙ h in h ∙ (rw t at k)

pub by_second : (r s a b c : Bool) → r ≡ false → r ≡ a → s ≡ b → (a || b) ≡ c → s ≡ c
by_second r s a b c h e f k = let t : a ≡ false = sym e ∙ h in f ∙ (rw t at k)

-- a test and another, where the first is true, and where it is not
pub both_tests : (r a v b : Bool) → r ≡ true → r ≡ a → v ≡ b → v ≡ (a && b)
both_tests r a v b h e f = let t : a ≡ true = sym e ∙ h in rw t f

pub no_test : (r a v b : Bool) → r ≡ false → r ≡ a → v ≡ false → v ≡ (a && b)
no_test r a v b h e f = let t : a ≡ false = sym e ∙ h in rw t f

pub mark_pushed : (f : DocumentView × ℕ → Bool) (marks next : List Bool) (all : List Bool) (left rest : List (DocumentView × ℕ)) (s : DocumentView × ℕ) (v : Bool) → marks ++ map f left ≡ all → left ≡ s ∷ rest → v ≡ f s → next ≡ marks ++ v ∷ []
    → next ++ map f rest ≡ all
mark_pushed f marks next all left rest s v so_far is e by = grind (arith, nat_tests, map, append_assoc)

length_more : (xs ys : List Bool) (v : Bool) → ys ≡ xs ++ v ∷ [] → length ys ≡ length xs + 1
length_more xs ys v e = omega (arith, ap length e, length-append xs (v ∷ []))

pub below_pushed : (f : DocumentView × ℕ → Bool) (doc : DocumentView) (top : ℕ) (below next : List Bool) (s : DocumentView × ℕ) (v : Bool) → below ≡ marks_by f doc top (length below) → s ≡ (doc, top + length below) → v ≡ f s → next ≡ below ++ v ∷ []
    → next ≡ marks_by f doc top (length next)
below_pushed f doc top below next s v so_far is e by = grind (arith, nat_tests, length_more, marks_more)

pub left_pushed : (doc : DocumentView) (top count : ℕ) (below next : List Bool) (v : Bool) (rest : List (DocumentView × ℕ)) → rest ≡ node_refs doc (range_with_len (top + (length below + 1)) (count - (length below + 1))) → next ≡ below ++ v ∷ []
    → rest ≡ node_refs doc (range_with_len (top + length next) (count - length next))
left_pushed doc top count below next v rest is by = grind (arith, nat_tests, length_more)
