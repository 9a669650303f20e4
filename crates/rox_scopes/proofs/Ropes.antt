-- What rows of scopes list, as there are more of them.
use Rattle.std.proofs.Common.{◌≡◌, ℕ, zero, suc, ◌+◌, ◌-◌, ◌<◌, ◌≤◌, false, List, [], ◌∷◌, ◌++◌, length, map, take, drop, reverse, get_or, refl, sym, ap, subst, ◌∙◌, arith, length-append, append_assoc, Result, IfOk, Option, IfSome}
use Rattle.std.specs.List.{AllByRecursion, slice_range}
use Rattle.std.proofs.lemmas.Grind.{reverse_onto}
use Rattle.std.proofs.Math.Seq.{get_or-append_seam}
use Rattle.std.proofs.lemmas.List.{append-nil, length-map, length-reverse, map-append, take-append-drop, take-append-le, get_or_append_left, get_or_default}
use Rattle.rox_grammar.specs.Written.{NamespaceDecl}
use Rattle.rox_grammar.proofs.Stretches.{range_length}
use Rattle.rox_scopes.specs.declared.stored_scope.Concat.{Concat}
use Rattle.rox_scopes.specs.declared.stored_scope.Scope.{Scope}
use Rattle.rox_scopes.specs.declared.stored_scope.Scope.TheVariants as scope
use Rattle.rox_grammar.specs.AtIndex.{namespace_at, scope_at}
use Rattle.rox_scopes.specs.ScopeRows.{listed_at, made, places_on, places_of, lists_of, count_of, count_at, IsRow, AreRows, EndsWithin, AreScopes}
use Rattle.rox_scopes.specs.Scopes.{entries, places_in, is_few_at, ArePlaces}
use Rattle.rox_scopes.specs.Ropes.{IsRope}
use Rattle.rox_scopes.specs.declared.stored_scope.Stretch.{Stretch}
use Rattle.rox_scopes.proofs.Leaves.{range_get, back_get}
use Rattle.rox_grammar.proofs.Lists.{all_append, all_slice, all_weaker, map_same}
use Rattle.rox_grammar.proofs.AtIndex.{namespace_at-append}

-- ---- lists of places

pub listed_at-append : (ls more : List (List ℕ)) (i : ℕ) → i < length ls → listed_at (ls ++ more) i ≡ listed_at ls i
listed_at-append [] more i h = absurd (omega arith)
listed_at-append (l ∷ ls) more zero h = refl
listed_at-append (l ∷ ls) more (suc i) h = listed_at-append ls more i (omega arith)

listed_at-seam : (ls : List (List ℕ)) (l : List ℕ) (more : List (List ℕ)) (i : ℕ) → i ≡ length ls → listed_at (ls ++ l ∷ more) i ≡ l
listed_at-seam [] l more i e = rw e refl
listed_at-seam (x ∷ ls) l more zero e = absurd (omega arith)
listed_at-seam (x ∷ ls) l more (suc i) e = listed_at-seam ls l more i (omega arith)

-- ---- rows behind others

-- what rows list stays in front of what those behind list
places_front : (listed : List ℕ) (done : List (List ℕ)) (ss : List Scope) → (more : List (List ℕ)) × (places_on listed done ss ≡ done ++ more) × (length more ≡ length ss)
places_front listed done [] = ([], sym (append-nil done), refl)
places_front listed done (s ∷ ss) =
    let m = made listed done s in
    let r = places_front listed (done ++ m ∷ []) ss in
    (m ∷ r.0, r.1 ∙ append_assoc done (m ∷ []) r.0, ap (λ n. suc n) r.2)

places_on-append : (listed : List ℕ) (done : List (List ℕ)) (xs ys : List Scope) → places_on listed done (xs ++ ys) ≡ places_on listed (places_on listed done xs) ys
places_on-append listed done [] ys = refl
places_on-append listed done (x ∷ xs) ys = places_on-append listed (done ++ made listed done x ∷ []) xs ys

pub places-grown : (listed : List ℕ) (scopes more : List Scope) → (rest : List (List ℕ)) × (places_of listed (scopes ++ more) ≡ places_of listed scopes ++ rest)
places-grown listed scopes more = let f = places_front listed (places_of listed scopes) more in (f.0, places_on-append listed [] scopes more ∙ f.1)

pub length-places : (listed : List ℕ) (scopes : List Scope) → length (places_of listed scopes) ≡ length scopes
length-places listed scopes = let f = places_front listed [] scopes in ap length f.1 ∙ f.2

-- how many there are
pub length-lists : (namespaces : List NamespaceDecl) (ls : List ℕ) (scopes : List Scope) → length (lists_of namespaces ls scopes) ≡ length scopes
length-lists namespaces ls scopes = length-map (places_of ls scopes) (map (namespace_at namespaces)) ∙ length-places ls scopes

pub lists-grown : (namespaces : List NamespaceDecl) (ls : List ℕ) (scopes more : List Scope) → (rest : List (List NamespaceDecl)) × (lists_of namespaces ls (scopes ++ more) ≡ lists_of namespaces ls scopes ++ rest)
lists-grown namespaces ls scopes more =
    let g = places-grown ls scopes more in
    (map (map (namespace_at namespaces)) g.0, ap (map (map (namespace_at namespaces))) g.1 ∙ map-append (map (namespace_at namespaces)) (places_of ls scopes) g.0)

pub places_in-grown : (ls : List ℕ) (scopes more : List Scope) (i : ℕ) → i < length scopes → places_in ls (scopes ++ more) i ≡ places_in ls scopes i
places_in-grown ls scopes more i h =
    let g = places-grown ls scopes more in
    let n = length-places ls scopes in
    ap (λ xs. listed_at xs i) g.1 ∙ listed_at-append (places_of ls scopes) g.0 i (omega arith)

-- what a scope lists stands at its places
pub scope_places : (namespaces : List NamespaceDecl) (ls : List ℕ) (scopes : List Scope) (i : ℕ) → scope_at (lists_of namespaces ls scopes) i ≡ entries namespaces (places_in ls scopes i)
scope_places namespaces ls scopes i = each (places_of ls scopes) i
  where
    each : (ps : List (List ℕ)) (i : ℕ) → scope_at (map (map (namespace_at namespaces)) ps) i ≡ entries namespaces (listed_at ps i)
    each [] i = refl
    each (p ∷ ps) zero = refl
    each (p ∷ ps) (suc i) = each ps i

-- ---- a row

row_made : (ls : List ℕ) (done : List (List ℕ)) (ss : List Scope) (i k : ℕ) (s : Scope) → k ≡ length done + i → i < length ss → s ≡ get_or ss i s
    → listed_at (places_on ls done ss) k ≡ made ls (places_on ls done (take i ss)) s
row_made ls done [] i k s n h e = absurd (omega arith)
row_made ls done (x ∷ ss) zero k s n h e =
    let m = made ls done x in
    let f = places_front ls (done ++ m ∷ []) ss in
    ap (λ xs. listed_at xs k) (f.1 ∙ append_assoc done (m ∷ []) f.0) ∙ listed_at-seam done m f.0 k (omega arith) ∙ ap (made ls done) (sym e)
row_made ls done (x ∷ ss) (suc i) k s n h e =
    let m = made ls done x in
    let l = length-append done (m ∷ []) in
    row_made ls (done ++ m ∷ []) ss i k s (omega arith) (omega arith) e

made-grown : (ls : List ℕ) (done more : List (List ℕ)) (scopes : List Scope) (i : ℕ) (s : Scope) → i ≤ length done → IsRow scopes i s → made ls (done ++ more) s ≡ made ls done s
made-grown ls done more scopes i s n h = grind (arith, listed_at-append)

-- what it lists
pub row_places : (ls : List ℕ) (scopes : List Scope) (i : ℕ) (s : Scope) → AreRows scopes → i < length scopes → s ≡ get_or scopes i s → places_in ls scopes i ≡ made ls (places_of ls scopes) s
row_places ls scopes i s rows h e =
    let g = places-grown ls (take i scopes) (drop i scopes) in
    let whole : places_of ls scopes ≡ places_of ls (take i scopes) ++ g.0 = ap (places_of ls) (sym (take-append-drop i scopes)) ∙ g.1 in
    let n = length-places ls (take i scopes) in
    let m = taken i scopes (omega arith) in
    row_made ls [] scopes i i s (omega arith) h e
    ∙ sym (ap (λ d. made ls d s) whole ∙ made-grown ls (places_of ls (take i scopes)) g.0 scopes i s (omega arith) (rows.each i s h e))
  where
    taken : (i : ℕ) (xs : List Scope) → i ≤ length xs → length (take i xs) ≡ i
    taken zero xs h = refl
    taken (suc i) [] h = absurd (omega arith)
    taken (suc i) (x ∷ xs) h = let t = taken i xs (omega arith) in omega arith

pub count_row : (scopes : List Scope) (i : ℕ) (s : Scope) → i < length scopes → s ≡ get_or scopes i s → count_at scopes i ≡ count_of s
count_row [] i s h e = absurd (omega arith)
count_row (x ∷ ss) zero s h e = ap count_of (sym e)
count_row (x ∷ ss) (suc i) s h e = count_row ss i s (omega arith) e

ends_at : (n : ℕ) (scopes : List Scope) (i : ℕ) (s : Scope) → AllByRecursion (EndsWithin n) scopes → i < length scopes → s ≡ get_or scopes i s → EndsWithin n s
ends_at n [] i s h lt e = absurd (omega arith)
ends_at n (x ∷ ss) zero s (p, h) lt e = subst (EndsWithin n) (sym e) p
ends_at n (x ∷ ss) (suc i) s (p, h) lt e = ends_at n ss i s h (omega arith) e

-- the row at this place, where it is known which it is
pub record RowIs (ls : List ℕ) (scopes : List Scope) (i : ℕ) (s : Scope) : Type 0 where
  pub lists : places_in ls scopes i ≡ made ls (places_of ls scopes) s
  pub row : IsRow scopes i s
  pub count : count_at scopes i ≡ count_of s

pub row_is : (ls : List ℕ) (scopes : List Scope) (i : ℕ) (s t : Scope) → AreRows scopes → i < length scopes → s ≡ get_or scopes i s → s ≡ t → RowIs ls scopes i t
row_is ls scopes i s t rows h e is = subst (RowIs ls scopes i) is (record { lists = row_places ls scopes i s rows h e; row = rows.each i s h e; count = count_row scopes i s h e })

pub row_ends : (n : ℕ) (scopes : List Scope) (i : ℕ) (s t : Scope) → AreScopes n scopes → i < length scopes → s ≡ get_or scopes i s → s ≡ t → EndsWithin n t
row_ends n scopes i s t h lt e is = subst (EndsWithin n) is (ends_at n scopes i s h.within lt e)

abbrev pub no_row : Scope
no_row = scope.Few (record { from = 0; until = 0 })

pub row_found : (ls : List ℕ) (scopes : List Scope) (i : ℕ) (t : Scope) → AreRows scopes → i < length scopes → get_or scopes i no_row ≡ t → RowIs ls scopes i t
row_found ls scopes i t rows h is = row_is ls scopes i (get_or scopes i no_row) t rows h (get_or_default scopes i no_row (get_or scopes i no_row) h) is

pub ends_found : (n : ℕ) (scopes : List Scope) (i : ℕ) (t : Scope) → AreScopes n scopes → i < length scopes → get_or scopes i no_row ≡ t → EndsWithin n t
ends_found n scopes i t h lt is = row_ends n scopes i (get_or scopes i no_row) t h lt (get_or_default scopes i no_row (get_or scopes i no_row) lt) is

-- how many a row lists
count_one : (ls : List ℕ) (scopes : List Scope) (i : ℕ) (s : Scope) → AreScopes (length ls) scopes → i < length scopes → s ≡ get_or scopes i s
    → ((j : ℕ) → j < i → count_at scopes j ≡ length (places_in ls scopes j)) → count_at scopes i ≡ length (places_in ls scopes i)
count_one ls scopes i (scope.Few s) h lt e before =
    let r = row_is ls scopes i (scope.Few s) (scope.Few s) h.rows lt e refl in
    let w : s.until ≤ length ls = row_ends (length ls) scopes i (scope.Few s) (scope.Few s) h lt e refl in
    r.count ∙ sym (ap length r.lists ∙ range_length ls s.from s.until r.row w)
count_one ls scopes i (scope.Back s) h lt e before =
    let r = row_is ls scopes i (scope.Back s) (scope.Back s) h.rows lt e refl in
    let w : s.until ≤ length ls = row_ends (length ls) scopes i (scope.Back s) (scope.Back s) h lt e refl in
    r.count ∙ sym (ap length r.lists ∙ length-reverse (slice_range ls s.from s.until) ∙ range_length ls s.from s.until r.row w)
count_one ls scopes i (scope.Concat b) h lt e before = grind (arith, row_is ls scopes i (scope.Concat b) (scope.Concat b) h.rows lt e refl, length-append (places_in ls scopes b.first) (places_in ls scopes b.rest))

pub count_places : (ls : List ℕ) (scopes : List Scope) (i : ℕ) → AreScopes (length ls) scopes → i < length scopes → count_at scopes i ≡ length (places_in ls scopes i)
count_places ls scopes i h lt = below (i + 1) i (omega arith) lt
  where
    below : (n i : ℕ) → i < n → i < length scopes → count_at scopes i ≡ length (places_in ls scopes i)
    below zero i less lt = absurd (omega arith)
    below (suc n) i less lt =
        count_one ls scopes i (get_or scopes i no_row) h lt (get_or_default scopes i no_row (get_or scopes i no_row) lt) (λ j l. below n j (omega arith) (omega arith))

-- ---- a row more

count_at-append : (scopes more : List Scope) (i : ℕ) → i < length scopes → count_at (scopes ++ more) i ≡ count_at scopes i
count_at-append [] more i h = absurd (omega arith)
count_at-append (s ∷ ss) more zero h = refl
count_at-append (s ∷ ss) more (suc i) h = count_at-append ss more i (omega arith)

row-grown : (scopes more : List Scope) (i : ℕ) (s : Scope) → i ≤ length scopes → IsRow scopes i s → IsRow (scopes ++ more) i s
row-grown scopes more i s n h = grind (arith, count_at-append)

pub rows_push : (scopes after : List Scope) (s : Scope) → after ≡ scopes ++ s ∷ [] → AreRows scopes → IsRow scopes (length scopes) s → AreRows after
rows_push scopes after s push h r = grind (arith, length-append, get_or-append_seam, row-grown, get_or_append_left)

pub ends_push : (n : ℕ) (scopes after : List Scope) (s : Scope) → after ≡ scopes ++ s ∷ [] → AllByRecursion (EndsWithin n) scopes → EndsWithin n s → AllByRecursion (EndsWithin n) after
ends_push n scopes after s push h e = rw push (all_append (EndsWithin n) scopes (s ∷ []) h (e, tt))

pub scopes_push : (n : ℕ) (scopes after : List Scope) (s : Scope) → after ≡ scopes ++ s ∷ [] → AreScopes n scopes → IsRow scopes (length scopes) s → EndsWithin n s → AreScopes n after
scopes_push n scopes after s push h r e = record { rows = rows_push scopes after s push h.rows r; within = ends_push n scopes after s push h.within e }

ends_more : (n m : ℕ) (s : Scope) → n ≤ m → EndsWithin n s → EndsWithin m s
ends_more n m s le h = grind arith

-- as more places are listed
pub scopes_more : (n m : ℕ) (scopes : List Scope) → n ≤ m → AreScopes n scopes → AreScopes m scopes
scopes_more n m scopes le h = record { rows = h.rows; within = all_weaker (EndsWithin n) (EndsWithin m) scopes (λ s e. ends_more n m s le e) h.within }

-- what a row lists that was put behind others
pub pushed_places : (ls : List ℕ) (scopes after : List Scope) (s : Scope) (i : ℕ) → after ≡ scopes ++ s ∷ [] → i ≡ length scopes → places_in ls after i ≡ made ls (places_of ls scopes) s
pushed_places ls scopes after s i push last = grind (arith, places_on-append, listed_at-seam, length-places)

-- ---- more places, and more namespaces

slice-stays : (xs ys : List ℕ) (i j : ℕ) → j ≤ length xs → slice_range (xs ++ ys) i j ≡ slice_range xs i j
slice-stays xs ys zero j h = take-append-le (j - 0) xs ys (omega arith)
slice-stays [] ys (suc i) j h = let e : j - suc i ≡ 0 = omega arith in rw e refl
slice-stays (x ∷ xs) ys (suc i) zero h = let e : 0 - suc i ≡ 0 = omega arith in rw e refl
slice-stays (x ∷ xs) ys (suc i) (suc j) h = let e : suc j - suc i ≡ j - i = omega arith in rw e (slice-stays xs ys i j (omega arith))

made-listed : (ls more : List ℕ) (done : List (List ℕ)) (s : Scope) → EndsWithin (length ls) s → made (ls ++ more) done s ≡ made ls done s
made-listed ls more done s h = grind (arith, slice-stays)

places-listed : (ls more : List ℕ) (done : List (List ℕ)) (ss : List Scope) → AllByRecursion (EndsWithin (length ls)) ss → places_on (ls ++ more) done ss ≡ places_on ls done ss
places-listed ls more done [] h = refl
places-listed ls more done (s ∷ ss) (p, h) = ap (λ x. places_on (ls ++ more) (done ++ x ∷ []) ss) (made-listed ls more done s p) ∙ places-listed ls more (done ++ made ls done s ∷ []) ss h

-- what scopes list stays as more places are listed
pub places_in-listed : (ls more : List ℕ) (scopes : List Scope) (i : ℕ) → AreScopes (length ls) scopes → places_in (ls ++ more) scopes i ≡ places_in ls scopes i
places_in-listed ls more scopes i h = ap (λ xs. listed_at xs i) (places-listed ls more [] scopes h.within)

pub lists-listed : (namespaces : List NamespaceDecl) (ls more : List ℕ) (scopes : List Scope) → AreScopes (length ls) scopes → lists_of namespaces (ls ++ more) scopes ≡ lists_of namespaces ls scopes
lists-listed namespaces ls more scopes h = ap (map (map (namespace_at namespaces))) (places-listed ls more [] scopes h.within)

pub all_reverse : (n : ℕ) (xs : List ℕ) → ArePlaces n xs → ArePlaces n (reverse xs)
all_reverse n [] h = tt
all_reverse n (x ∷ xs) (p, h) = rw (reverse_onto xs x []) (all_append (λ i. i < n) (reverse xs) (x ∷ []) (all_reverse n xs h) (p, tt))

all_at : (n : ℕ) (ps : List (List ℕ)) (i : ℕ) → AllByRecursion (ArePlaces n) ps → ArePlaces n (listed_at ps i)
all_at n [] i h = tt
all_at n (p ∷ ps) zero (a, h) = a
all_at n (p ∷ ps) (suc i) (a, h) = all_at n ps i h

made_places : (n : ℕ) (ls : List ℕ) (done : List (List ℕ)) (s : Scope) → ArePlaces n ls → AllByRecursion (ArePlaces n) done → ArePlaces n (made ls done s)
made_places n ls done s h k = grind (arith, all_slice, all_reverse, all_append, all_at)

places_on_places : (n : ℕ) (ls : List ℕ) (done : List (List ℕ)) (ss : List Scope) → ArePlaces n ls → AllByRecursion (ArePlaces n) done → AllByRecursion (ArePlaces n) (places_on ls done ss)
places_on_places n ls done [] h k = k
places_on_places n ls done (s ∷ ss) h k = places_on_places n ls (done ++ made ls done s ∷ []) ss h (all_append (ArePlaces n) done (made ls done s ∷ []) k (made_places n ls done s h k, tt))

-- there are no places if there is nothing
pub none_below : (xs : List ℕ) → ArePlaces 0 xs → xs ≡ []
none_below [] h = refl
none_below (x ∷ xs) (less, h) = absurd (omega arith)

-- places that scopes list are places
pub all_places : (n : ℕ) (ls : List ℕ) (scopes : List Scope) (i : ℕ) → ArePlaces n ls → ArePlaces n (places_in ls scopes i)
all_places n ls scopes i h = all_at n (places_of ls scopes) i (places_on_places n ls [] scopes h tt)

-- what scopes list stays as the table of namespaces grows
lists-namespaces : (namespaces more : List NamespaceDecl) (ls : List ℕ) (scopes : List Scope) → ArePlaces (length namespaces) ls → lists_of (namespaces ++ more) ls scopes ≡ lists_of namespaces ls scopes
lists-namespaces namespaces more ls scopes h = grind (arith, map_same, namespace_at-append, places_on_places)

pub lists-append : (namespaces more : List NamespaceDecl) (ls moreL : List ℕ) (scopes : List Scope) → ArePlaces (length namespaces) ls → AreScopes (length ls) scopes
    → lists_of (namespaces ++ more) (ls ++ moreL) scopes ≡ lists_of namespaces ls scopes
lists-append namespaces more ls moreL scopes all h = lists-listed (namespaces ++ more) ls moreL scopes h ∙ lists-namespaces namespaces more ls scopes all

-- ---- rows made from others

pub if_ok : {E : Type 0} {P Q : ℕ → Type 0} (r : Result ℕ E) → IfOk r P → ((s : ℕ) → P s → Q s) → IfOk r Q
if_ok r h f = grind arith

-- two that are put one behind the other are there
pub two_put : (scopes one two : List Scope) (x y : Scope) (i j : ℕ) → one ≡ scopes ++ x ∷ [] → i ≡ length scopes → two ≡ one ++ y ∷ [] → j ≡ length one → (i < length two) × (j < length two)
two_put scopes one two x y i j a b c d = grind (arith, length-append)

-- one that is there
pub rope_same : (scopes : List Scope) (i : ℕ) (list : List ℕ → List ℕ) → AreRows scopes → i < length scopes → ((listed : List ℕ) → AreScopes (length listed) scopes → places_in listed scopes i ≡ list listed)
    → IsRope scopes scopes i list
rope_same scopes i list rows within lists = record { more = []; grown = sym (append-nil scopes); rows = rows; ends = λ n h. h; within = within; lists = lists }

-- a row of two
pub rope_pushed : (old new : List Scope) (b : Concat) (i : ℕ) → new ≡ old ++ scope.Concat b ∷ [] → i ≡ length old → b.first < length old → b.rest < length old → b.count ≡ count_at old b.first + count_at old b.rest
    → AreRows old → IsRope old new i (λ listed. places_in listed old b.first ++ places_in listed old b.rest)
rope_pushed old new b i push last first rest count rows =
    let n = ap length push ∙ length-append old (scope.Concat b ∷ []) in
    record {
      more = scope.Concat b ∷ [];
      grown = push;
      rows = rows_push old new (scope.Concat b) push rows (first, rest, count);
      ends = λ n h. ends_push n old new (scope.Concat b) push h tt;
      within = omega arith;
      lists = λ listed h. pushed_places listed old new (scope.Concat b) i push last;
    }

-- a leaf
pub rope_leaf : (old new : List Scope) (s : Scope) (i : ℕ) → new ≡ old ++ s ∷ [] → i ≡ length old → IsRow old (length old) s → ((n : ℕ) → AllByRecursion (EndsWithin n) old → EndsWithin n s)
    → AreRows old → IsRope old new i (λ listed. made listed (places_of listed old) s)
rope_leaf old new s i push last row end rows =
    let n = ap length push ∙ length-append old (s ∷ []) in
    record {
      more = s ∷ [];
      grown = push;
      rows = rows_push old new s push rows row;
      ends = λ n h. ends_push n old new s push h (end n h);
      within = omega arith;
      lists = λ listed h. pushed_places listed old new s i push last;
    }

-- one made behind another, whatever it lists
pub rope_then : (old mid new : List Scope) (a b : ℕ) (f g h : List ℕ → List ℕ) → IsRope old mid a f → IsRope mid new b g
    → ((listed : List ℕ) → AreScopes (length listed) old → g listed ≡ h listed) → IsRope old new b h
rope_then old mid new a b f g h x y e = record {
  more = x.more ++ y.more;
  grown = y.grown ∙ ap (λ xs. xs ++ y.more) x.grown ∙ append_assoc old x.more y.more;
  rows = y.rows;
  ends = λ n k. y.ends n (x.ends n k);
  within = y.within;
  lists = λ listed k. y.lists listed (record { rows = x.rows; within = x.ends (length listed) k.within }) ∙ e listed k;
}

-- what a row lists that was there before
pub rope_kept : (old mid : List Scope) (a : ℕ) (f : List ℕ → List ℕ) (listed : List ℕ) (i : ℕ) → IsRope old mid a f → i < length old → places_in listed mid i ≡ places_in listed old i
rope_kept old mid a f listed i x h = ap (λ ss. places_in listed ss i) x.grown ∙ places_in-grown listed old x.more i h

-- it is one in front of another
pub rope_first : (old mid new : List Scope) (a b rest : ℕ) (f h : List ℕ → List ℕ) → IsRope old mid a f → IsRope mid new b (λ l. places_in l mid a ++ places_in l mid rest) → rest < length old
    → ((listed : List ℕ) → AreScopes (length listed) old → f listed ++ places_in listed old rest ≡ h listed) → IsRope old new b h
rope_first old mid new a b rest f h x y lt e = grind (arith, rope_then, rope_kept)

-- or behind it
pub rope_rest : (old mid new : List Scope) (a b first : ℕ) (f h : List ℕ → List ℕ) → IsRope old mid a f → IsRope mid new b (λ l. places_in l mid first ++ places_in l mid a) → first < length old
    → ((listed : List ℕ) → AreScopes (length listed) old → places_in listed old first ++ f listed ≡ h listed) → IsRope old new b h
rope_rest old mid new a b first f h x y lt e = grind (arith, rope_then, rope_kept)

-- the two parts of a pair of pairs
pub rope_two : (old mid next new : List Scope) (a b c : ℕ) (p q r s : ℕ) (h : List ℕ → List ℕ) → IsRope old mid a (λ l. places_in l old p ++ places_in l old q)
    → IsRope mid next b (λ l. places_in l mid r ++ places_in l mid s) → IsRope next new c (λ l. places_in l next a ++ places_in l next b) → r < length old → s < length old
    → ((l : List ℕ) → AreScopes (length l) old → (places_in l old p ++ places_in l old q) ++ (places_in l old r ++ places_in l old s) ≡ h l) → IsRope old new c h
rope_two old mid next new a b c p q r s h x y z lr ls e =
    let g : List ℕ → List ℕ = λ l. places_in l mid r ++ places_in l mid s in
    let xy : IsRope old next b (λ l. places_in l old r ++ places_in l old s) = grind (arith, rope_then, rope_kept) in
    grind (arith, rope_then, rope_kept)

none : (xs : List ℕ) → 0 ≡ length xs → xs ≡ []
none [] h = refl
none (x ∷ xs) h = absurd (omega arith)

-- where the one lists nothing it is the other
pub rope_none_first : (scopes : List Scope) (first rest : ℕ) → AreRows scopes → first < length scopes → rest < length scopes → count_at scopes first ≡ 0
    → IsRope scopes scopes rest (λ l. places_in l scopes first ++ places_in l scopes rest)
rope_none_first scopes first rest rows f r z =
    rope_same scopes rest (λ l. places_in l scopes first ++ places_in l scopes rest) rows r
    (λ l k. ap (λ xs. xs ++ places_in l scopes rest) (sym (none (places_in l scopes first) (sym z ∙ count_places l scopes first k f))))

pub rope_none_rest : (scopes : List Scope) (first rest : ℕ) → AreRows scopes → first < length scopes → rest < length scopes → count_at scopes rest ≡ 0
    → IsRope scopes scopes first (λ l. places_in l scopes first ++ places_in l scopes rest)
rope_none_rest scopes first rest rows f r z =
    rope_same scopes first (λ l. places_in l scopes first ++ places_in l scopes rest) rows f
    (λ l k. sym (append-nil (places_in l scopes first)) ∙ ap (λ xs. places_in l scopes first ++ xs) (sym (none (places_in l scopes rest) (sym z ∙ count_places l scopes rest k r))))

-- two that were made, the one in front of the other
pub rope_join : (old mid next new : List Scope) (a b c : ℕ) (f g h : List ℕ → List ℕ) → IsRope old mid a f → IsRope mid next b g → IsRope next new c (λ l. places_in l next a ++ places_in l next b)
    → ((l : List ℕ) → AreScopes (length l) old → f l ++ g l ≡ h l) → IsRope old new c h
rope_join old mid next new a b c f g h x y z e =
    let xy : IsRope old next b g = rope_then old mid next a b f g g x y (λ l k. refl) in
    grind (arith, rope_then, rope_kept)

-- the same list in other words
pub rope_is : (old new : List Scope) (a : ℕ) (f h : List ℕ → List ℕ) → IsRope old new a f → ((l : List ℕ) → AreScopes (length l) old → f l ≡ h l) → IsRope old new a h
rope_is old new a f h x e = record { more = x.more; grown = x.grown; rows = x.rows; ends = x.ends; within = x.within; lists = λ l k. x.lists l k ∙ e l k }

-- ---- what is at an index

pub few_at : (ls : List ℕ) (scopes : List Scope) (i : ℕ) (s : Stretch) (k : ℕ) → AreScopes (length ls) scopes → i < length scopes → get_or scopes i no_row ≡ scope.Few s → k < length (places_in ls scopes i)
    → (s.from + k < s.until) × (s.until ≤ length ls) × (get_or ls (s.from + k) 0 ≡ get_or (places_in ls scopes i) k 0)
few_at ls scopes i s k h lt is less =
    let r = row_found ls scopes i (scope.Few s) h.rows lt is in
    let w : s.until ≤ length ls = ends_found (length ls) scopes i (scope.Few s) h lt is in
    let n : length (places_in ls scopes i) ≡ s.until - s.from = ap length r.lists ∙ range_length ls s.from s.until r.row w in
    (omega arith, w, sym (ap (λ xs. get_or xs k 0) r.lists ∙ range_get ls s.from s.until k 0 (omega arith)))

pub back_at : (ls : List ℕ) (scopes : List Scope) (i : ℕ) (s : Stretch) (k : ℕ) → AreScopes (length ls) scopes → i < length scopes → get_or scopes i no_row ≡ scope.Back s → k < length (places_in ls scopes i)
    → (s.from + k < s.until) × (s.until ≤ length ls) × (get_or ls (s.until - 1 - k) 0 ≡ get_or (places_in ls scopes i) k 0)
back_at ls scopes i s k h lt is less =
    let r = row_found ls scopes i (scope.Back s) h.rows lt is in
    let w : s.until ≤ length ls = ends_found (length ls) scopes i (scope.Back s) h lt is in
    let n : length (places_in ls scopes i) ≡ s.until - s.from = ap length r.lists ∙ length-reverse (slice_range ls s.from s.until) ∙ range_length ls s.from s.until r.row w in
    (omega arith, w, sym (ap (λ xs. get_or xs k 0) r.lists ∙ back_get ls s.from s.until k 0 r.row w (omega arith)))

pub both_at : (ls : List ℕ) (scopes : List Scope) (i : ℕ) (b : Concat) → AreScopes (length ls) scopes → i < length scopes → get_or scopes i no_row ≡ scope.Concat b
    → (b.first < i) × (b.rest < i) × (count_at scopes b.first ≡ length (places_in ls scopes b.first)) × (places_in ls scopes i ≡ places_in ls scopes b.first ++ places_in ls scopes b.rest)
both_at ls scopes i b h lt is =
    let r = row_found ls scopes i (scope.Concat b) h.rows lt is in
    (r.row.0, r.row.1, count_places ls scopes b.first h (omega arith), r.lists)

pub if_some : {P Q : ℕ → Type 0} (o : Option ℕ) → IfSome o P → ((i : ℕ) → P i → Q i) → IfSome o Q
if_some o h f = grind arith

-- ---- two leaves

ends_before : (n : ℕ) (old mid : List Scope) (s : Scope) → mid ≡ old ++ s ∷ [] → AllByRecursion (EndsWithin n) mid → AllByRecursion (EndsWithin n) old
ends_before n old mid s push h = front old (subst (AllByRecursion (EndsWithin n)) push h)
  where
    front : (xs : List Scope) → AllByRecursion (EndsWithin n) (xs ++ s ∷ []) → AllByRecursion (EndsWithin n) xs
    front [] h = tt
    front (x ∷ xs) (p, h) = (p, front xs h)

pub leaves_rows : (old mid next : List Scope) (x y : Scope) → mid ≡ old ++ x ∷ [] → IsRow old (length old) x → next ≡ mid ++ y ∷ [] → IsRow mid (length mid) y → AreRows old → AreRows next
leaves_rows old mid next x y p r q s rows = rows_push mid next y q (rows_push old mid x p rows r) s

pub rope_leaves : (old mid next new : List Scope) (x y : Scope) (a b c : ℕ) (h : List ℕ → List ℕ) → mid ≡ old ++ x ∷ [] → a ≡ length old → IsRow old (length old) x
    → ((n : ℕ) → AllByRecursion (EndsWithin n) old → EndsWithin n x) → next ≡ mid ++ y ∷ [] → b ≡ length mid → IsRow mid (length mid) y → ((n : ℕ) → AllByRecursion (EndsWithin n) old → EndsWithin n y)
    → AreRows old → IsRope next new c (λ l. places_in l next a ++ places_in l next b)
    → ((l : List ℕ) → AreScopes (length l) old → made l (places_of l old) x ++ made l (places_of l mid) y ≡ h l) → IsRope old new c h
rope_leaves old mid next new x y a b c h p la r ex q lb s ey rows z e =
    let one : IsRope old mid a (λ l. made l (places_of l old) x) = rope_leaf old mid x a p la r ex rows in
    let two : IsRope mid next b (λ l. made l (places_of l mid) y) = rope_leaf mid next y b q lb s (λ n k. ey n (ends_before n old mid x p k)) one.rows in
    rope_join old mid next new a b c (λ l. made l (places_of l old) x) (λ l. made l (places_of l mid) y) h one two z e

-- a row that is not of few
pub few_not : (scopes : List Scope) (i : ℕ) → i < length scopes → ((s : Stretch) → get_or scopes i no_row ≡ scope.Few s → ⊥) → is_few_at scopes i ≡ false
few_not [] i lt h = absurd (omega arith)
few_not (scope.Few s ∷ ss) zero lt h = absurd (h s refl)
few_not (scope.Back s ∷ ss) zero lt h = refl
few_not (scope.Concat b ∷ ss) zero lt h = refl
few_not (x ∷ ss) (suc i) lt h = few_not ss i (omega arith) h
