-- A table of pairs and a map of their places: what is found in it, and what stays of it as the table grows.
use Rattle.std.proofs.Common.{◌≡◌, ℕ, suc, ◌<◌, Bool, true, false, cond, List, [], ◌∷◌, ◌++◌, length, length-append, map, take, drop, zero, ◌+◌, ◌≤◌, refl, sym, ap, ◌∙◌, subst, arith, Option, Some, None, Result, Ok, Err, IfOk, OnOk, ◌⊎◌, inl, inr}
use Rattle.std.specs.Option.{option_map, IfSome, IfNone, option_cmp}
use Rattle.std.specs.Map.{lookup}
use Rattle.std.specs.BTreeMap.{insert_entry, is_at}
use Rattle.std.specs.declared.cmp.Ordering.{Ordering}
use Rattle.std.specs.declared.cmp.Ordering.TheVariants.{Less, Equal, Greater}
use Rattle.std.specs.Ordering.{is_eq, match_ordering, nat_cmp}
use Rattle.std.specs.Cmp.{both_tied}
use Rattle.std.specs.Cmp.Lexicographic.{slice_cmp, texts_ties}
use Rattle.std.proofs.lemmas.List.{length-map, length-drop, map-append, take-map, drop_all, drop-append-le}
use Rattle.std.proofs.lemmas.Bool.{cases_lt, or_right, or_parts}
use Rattle.rox_grammar.specs.Written.{NamespaceDecl}
use Rattle.rox_grammar.specs.Tree.{same_prefix}
use Rattle.rox_grammar.specs.Document.{same_pair}
use Rattle.rox_grammar.specs.Counts.{has_pair}
use Rattle.rox_grammar.proofs.PairLemmas.{same_pair-true}
use Rattle.rox_scopes.specs.declared.namespace_table.Key.{Key}
use Rattle.rox_scopes.specs.declared.namespace.Namespace.{Namespace}
use Rattle.rox_grammar.specs.AtIndex.{namespace_at}
use Rattle.rox_scopes.specs.NamespaceViews.{namespace_view}
use Rattle.rox_scopes.specs.PairIndex.{pair_cmp, key_cmp, few_pairs, place_of, place_behind, place_among}

-- ---- the order

prefix_ties : (p q : Option (List ℕ)) → same_prefix p q ≡ is_eq (option_cmp (slice_cmp nat_cmp) p q)
prefix_ties None None = refl
prefix_ties None (Some q) = refl
prefix_ties (Some p) None = refl
prefix_ties (Some p) (Some q) = texts_ties p q

pair_ties : (d e : NamespaceDecl) → same_pair d e ≡ is_eq (pair_cmp d e)
pair_ties d e = both_tied _ _ _ (slice_cmp nat_cmp d.uri e.uri) (prefix_ties d.prefix e.prefix) (texts_ties d.uri e.uri)

-- ---- the places of a table

placed : (namespaces : List NamespaceDecl) (d : NamespaceDecl) → IfSome (place_of namespaces d) (λ i. (i < length namespaces) × (namespace_at namespaces i ≡ d) × (has_pair namespaces d ≡ true))
placed [] d = tt
placed (n ∷ namespaces) d = by (same_pair n d) refl (place_of namespaces d) (placed namespaces d)
  where
    by : (b : Bool) → same_pair n d ≡ b → (o : Option ℕ) → IfSome o (λ i. (i < length namespaces) × (namespace_at namespaces i ≡ d) × (has_pair namespaces d ≡ true))
        → IfSome (cond b (Some 0) (option_map suc o)) (λ i. (i < suc (length namespaces)) × (namespace_at (n ∷ namespaces) i ≡ d) × (has_pair (n ∷ namespaces) d ≡ true))
    by true e o h = (omega arith, same_pair-true n d e, rw e refl)
    by false e None h = tt
    by false e (Some i) (lt, is, has) = (omega arith, is, or_right (same_pair n d) _ has)

unplaced : (namespaces : List NamespaceDecl) (d : NamespaceDecl) → IfNone (place_of namespaces d) (has_pair namespaces d ≡ false)
unplaced [] d = refl
unplaced (n ∷ namespaces) d = by (same_pair n d) refl (place_of namespaces d) (unplaced namespaces d)
  where
    by : (b : Bool) → same_pair n d ≡ b → (o : Option ℕ) → IfNone o (has_pair namespaces d ≡ false) → IfNone (cond b (Some 0) (option_map suc o)) (has_pair (n ∷ namespaces) d ≡ false)
    by true e o h = tt
    by false e None h = rw (e, h) refl
    by false e (Some i) h = tt

pub placed_row : (rows : List Namespace) (d : NamespaceDecl) (i : ℕ) → Some i ≡ place_of (map namespace_view rows) d
    → (i < length rows) × (namespace_at (map namespace_view rows) i ≡ d) × (has_pair (map namespace_view rows) d ≡ true)
placed_row rows d i e =
    let namespaces = map namespace_view rows in
    let p = subst (λ (o : Option ℕ). IfSome o (λ i. (i < length namespaces) × (namespace_at namespaces i ≡ d) × (has_pair namespaces d ≡ true))) (sym e) (placed namespaces d) in
    let l = length-map rows namespace_view in
    (omega arith, p.1, p.2)

pub unplaced_row : (rows : List Namespace) (d : NamespaceDecl) → None ≡ place_of (map namespace_view rows) d → has_pair (map namespace_view rows) d ≡ false
unplaced_row rows d e = subst (λ (o : Option ℕ). IfNone o (has_pair (map namespace_view rows) d ≡ false)) (sym e) (unplaced (map namespace_view rows) d)

absent_place : (namespaces : List NamespaceDecl) (d : NamespaceDecl) → has_pair namespaces d ≡ false → place_of namespaces d ≡ None
absent_place [] d h = refl
absent_place (n ∷ namespaces) d h = let (one, rest) = or_parts (same_pair n d) (has_pair namespaces d) h in rw (one, absent_place namespaces d rest) refl

-- ---- the first few of a table, and those behind them

inner_none : (o : Option ℕ) → option_map suc o ≡ None → o ≡ None
inner_none o h = grind arith

-- the first that is the same
pub place_here : (namespaces : List NamespaceDecl) (k : ℕ) (d : NamespaceDecl) → k < length namespaces → place_of (take k namespaces) d ≡ None → same_pair (namespace_at namespaces k) d ≡ true → place_of namespaces d ≡ Some k
place_here [] k d lt none same = absurd (omega arith)
place_here (n ∷ namespaces) zero d lt none same = rw same refl
place_here (n ∷ namespaces) (suc k) d lt none same = by (same_pair n d) refl (λ inner. place_here namespaces k d (omega arith) inner same)
  where
    by : (b : Bool) → same_pair n d ≡ b → (place_of (take k namespaces) d ≡ None → place_of namespaces d ≡ Some k) → place_of (n ∷ namespaces) d ≡ Some (suc k)
    by true e more = cc (rw e at none)
    by false e more = rw (e, more (inner_none (place_of (take k namespaces) d) (rw e at none))) refl

-- one more that is another
pub place_on : (namespaces : List NamespaceDecl) (k : ℕ) (d : NamespaceDecl) → k < length namespaces → place_of (take k namespaces) d ≡ None → same_pair (namespace_at namespaces k) d ≡ false → place_of (take (suc k) namespaces) d ≡ None
place_on [] k d lt none other = absurd (omega arith)
place_on (n ∷ namespaces) zero d lt none other = rw other refl
place_on (n ∷ namespaces) (suc k) d lt none other = by (same_pair n d) refl (λ inner. place_on namespaces k d (omega arith) inner other)
  where
    by : (b : Bool) → same_pair n d ≡ b → (place_of (take k namespaces) d ≡ None → place_of (take (suc k) namespaces) d ≡ None) → place_of (take (suc (suc k)) (n ∷ namespaces)) d ≡ None
    by true e more = cc (rw e at none)
    by false e more = rw (e, more (inner_none (place_of (take k namespaces) d) (rw e at none))) refl

pub place_front : (k : ℕ) (namespaces : List NamespaceDecl) (d : NamespaceDecl) (i : ℕ) → place_of (take k namespaces) d ≡ Some i → place_of namespaces d ≡ Some i
place_front zero namespaces d i h = cc h
place_front (suc k) [] d i h = h
place_front (suc k) (n ∷ namespaces) d i h = by (same_pair n d) refl (place_of (take k namespaces) d) refl (λ j is. place_front k namespaces d j is)
  where
    by : (b : Bool) → same_pair n d ≡ b → (o : Option ℕ) → place_of (take k namespaces) d ≡ o → ((j : ℕ) → place_of (take k namespaces) d ≡ Some j → place_of namespaces d ≡ Some j) → place_of (n ∷ namespaces) d ≡ Some i
    by true e o is more = rw e (rw e at h)
    by false e None is more = cc (rw (e, is) at h)
    by false e (Some j) is more = rw (e, more j is) (rw (e, is) at h)

pub place_back : (k : ℕ) (namespaces : List NamespaceDecl) (d : NamespaceDecl) → place_of (take k namespaces) d ≡ None → place_of namespaces d ≡ option_map (λ i. k + i) (place_of (drop k namespaces) d)
place_back zero namespaces d h = grind arith
place_back (suc k) [] d h = refl
place_back (suc k) (n ∷ namespaces) d h = by (same_pair n d) refl (place_of (take k namespaces) d) refl (λ is. place_back k namespaces d is)
  where
    next : (o : Option ℕ) → option_map suc (option_map (λ i. k + i) o) ≡ option_map (λ i. suc k + i) o
    next None = refl
    next (Some i) = ap Some (omega arith)

    by : (b : Bool) → same_pair n d ≡ b → (o : Option ℕ) → place_of (take k namespaces) d ≡ o → (place_of (take k namespaces) d ≡ None → place_of namespaces d ≡ option_map (λ i. k + i) (place_of (drop k namespaces) d))
        → place_of (n ∷ namespaces) d ≡ option_map (λ i. suc k + i) (place_of (drop k namespaces) d)
    by true e o is more = cc (rw e at h)
    by false e None is more = rw (e, more is) (next (place_of (drop k namespaces) d))
    by false e (Some j) is more = cc (rw (e, is) at h)

-- where nothing stands behind the first few
pub none_behind : (namespaces : List NamespaceDecl) (d : NamespaceDecl) → length namespaces ≤ few_pairs → place_behind namespaces d ≡ None
none_behind namespaces d few = ap (λ ds. option_map (λ i. few_pairs + i) (place_of ds d)) (drop_all few_pairs namespaces few)

-- where few are looked for one after another, and the others behind them

pub row_in : (rows : List Namespace) (d : NamespaceDecl) (i k : ℕ) → Some i ≡ place_of (map namespace_view (take k rows)) d
    → (i < length rows) × (namespace_at (map namespace_view rows) i ≡ d) × (has_pair (map namespace_view rows) d ≡ true)
row_in rows d i k e = placed_row rows d i (sym (place_front k (map namespace_view rows) d i (ap (λ ds. place_of ds d) (take-map namespace_view k rows) ∙ sym e)))

not_in : (rows : List Namespace) (d : NamespaceDecl) (k : ℕ) → k ≤ few_pairs → (k < few_pairs → length rows ≤ k) → None ≡ place_of (map namespace_view (take k rows)) d
    → place_of (map namespace_view rows) d ≡ place_behind (map namespace_view rows) d
not_in rows d k few all none = by (cases_lt k few_pairs)
  where
    namespaces : List NamespaceDecl
    namespaces = map namespace_view rows

    front : place_of (take k namespaces) d ≡ None
    front = ap (λ ds. place_of ds d) (take-map namespace_view k rows) ∙ sym none

    by : (k < few_pairs) ⊎ (few_pairs ≤ k) → place_of namespaces d ≡ place_behind namespaces d
    by (inl lt) =
        let l = length-map rows namespace_view in
        place_back k namespaces d front ∙ ap (λ ds. option_map (λ i. k + i) (place_of ds d)) (drop_all k namespaces (omega arith)) ∙ sym (none_behind namespaces d (omega arith))
    by (inr ge) = let same : k ≡ few_pairs = omega arith in subst (λ n. place_of namespaces d ≡ option_map (λ i. n + i) (place_of (drop n namespaces) d)) same (place_back k namespaces d front)

pub row_behind : (rows : List Namespace) (d : NamespaceDecl) (k : ℕ) (o : Option ℕ) → k ≤ few_pairs → (k < few_pairs → length rows ≤ k) → None ≡ place_of (map namespace_view (take k rows)) d
    → o ≡ place_behind (map namespace_view rows) d
    → IfSome o (λ i. (i < length rows) × (namespace_at (map namespace_view rows) i ≡ d) × (has_pair (map namespace_view rows) d ≡ true))
row_behind rows d k o few all none is = grind (arith, placed_row, not_in)

pub row_nowhere : (rows : List Namespace) (d : NamespaceDecl) (k : ℕ) (o : Option ℕ) → k ≤ few_pairs → (k < few_pairs → length rows ≤ k) → None ≡ place_of (map namespace_view (take k rows)) d
    → o ≡ place_behind (map namespace_view rows) d → IfNone o (has_pair (map namespace_view rows) d ≡ false)
row_nowhere rows d k o few all none is = grind (arith, unplaced_row, not_in)

-- ---- a new pair

place_push : (namespaces : List NamespaceDecl) (e d : NamespaceDecl) → has_pair namespaces e ≡ false → place_of (namespaces ++ e ∷ []) d ≡ cond (same_pair e d) (Some (length namespaces)) (place_of namespaces d)
place_push [] e d h = refl
place_push (n ∷ namespaces) e d h = by (same_pair n d) refl (same_pair e d) refl (place_push namespaces e d)
  where
    parts : (same_pair n e ≡ false) × (has_pair namespaces e ≡ false)
    parts = or_parts (same_pair n e) (has_pair namespaces e) h

    by : (a : Bool) → same_pair n d ≡ a → (b : Bool) → same_pair e d ≡ b → (has_pair namespaces e ≡ false → place_of (namespaces ++ e ∷ []) d ≡ cond (same_pair e d) (Some (length namespaces)) (place_of namespaces d))
        → cond a (Some 0) (option_map suc (place_of (namespaces ++ e ∷ []) d)) ≡ cond b (Some (suc (length namespaces))) (cond a (Some 0) (option_map suc (place_of namespaces d)))
    by true x true y more = let again : same_pair n e ≡ true = subst (λ (v : NamespaceDecl). same_pair n v ≡ true) (sym (same_pair-true e d y)) x in cc (parts.0, again)
    by true x false y more = refl
    by false x true y more = ap (option_map suc) (rw y at (more parts.1))
    by false x false y more = ap (option_map suc) (rw y at (more parts.1))

lookup_same : (f g : Key → Bool) (es : List (Key × ℕ)) → ((k : Key) → f k ≡ g k) → lookup f es ≡ lookup g es
lookup_same f g es h = grind arith

-- what a look-up in the map says
pub looked : (k : Key) (es : List (Key × ℕ)) → lookup (is_at (key_cmp k)) es ≡ place_among es (namespace_view k.namespace)
looked k es = lookup_same (is_at (key_cmp k)) (λ x. same_pair (namespace_view k.namespace) (namespace_view x.namespace)) es (λ x. sym (pair_ties (namespace_view k.namespace) (namespace_view x.namespace)))

among_inserted : (k : Key) (v : ℕ) (d : NamespaceDecl) (es : List (Key × ℕ)) → place_among es (namespace_view k.namespace) ≡ None
    → place_among (insert_entry key_cmp es k v) d ≡ cond (same_pair d (namespace_view k.namespace)) (Some v) (place_among es d)
among_inserted k v d [] h = refl
among_inserted k v d (e ∷ es) h = at_first (same_pair (namespace_view k.namespace) (namespace_view e.0.namespace)) refl (key_cmp k e.0) refl (among_inserted k v d es)
  where
    mine : NamespaceDecl
    mine = namespace_view k.namespace

    its : NamespaceDecl
    its = namespace_view e.0.namespace

    rest_none : same_pair mine its ≡ false → place_among es mine ≡ None
    rest_none x = rw x at h

    apart : same_pair mine its ≡ false → (a : Bool) → same_pair d its ≡ a → (b : Bool) → same_pair d mine ≡ b
        → cond a (Some e.1) (cond b (Some v) (place_among es d)) ≡ cond b (Some v) (cond a (Some e.1) (place_among es d))
    apart x true p true q = let again : same_pair mine its ≡ true = subst (λ (w : NamespaceDecl). same_pair w its ≡ true) (same_pair-true d mine q) p in cc (x, again)
    apart x true p false q = refl
    apart x false p b q = refl

    at_first : (c : Bool) → same_pair mine its ≡ c → (o : Ordering) → key_cmp k e.0 ≡ o
        → (place_among es mine ≡ None → place_among (insert_entry key_cmp es k v) d ≡ cond (same_pair d mine) (Some v) (place_among es d))
        → place_among (match_ordering o ((k, v) ∷ e ∷ es) ((e.0, v) ∷ es) (e ∷ insert_entry key_cmp es k v)) d ≡ cond (same_pair d mine) (Some v) (place_among (e ∷ es) d)
    at_first true x o is more = cc (rw x at h)
    at_first false x Less is more = refl
    at_first false x Equal is more = let tie : same_pair mine its ≡ true = pair_ties mine its ∙ ap is_eq is in cc (x, tie)
    at_first false x Greater is more = rw (more (rest_none x)) (apart x (same_pair d its) refl (same_pair d mine) refl)

-- none of those behind is a pair that is new
absent_behind : (k : ℕ) (namespaces : List NamespaceDecl) (d : NamespaceDecl) → has_pair namespaces d ≡ false → has_pair (drop k namespaces) d ≡ false
absent_behind zero namespaces d h = h
absent_behind (suc k) [] d h = refl
absent_behind (suc k) (n ∷ namespaces) d h = absent_behind k namespaces d (or_parts (same_pair n d) (has_pair namespaces d) h).1

-- the map of a table with one more behind the first few
pub found_more : (rows : List Namespace) (row : Namespace) (es : List (Key × ℕ)) (k : Key) → few_pairs ≤ length rows → ((d : NamespaceDecl) → place_among es d ≡ place_behind (map namespace_view rows) d)
    → has_pair (map namespace_view rows) (namespace_view k.namespace) ≡ false → namespace_view row ≡ namespace_view k.namespace
    → (d : NamespaceDecl) → place_among (insert_entry key_cmp es k (length rows)) d ≡ place_behind (map namespace_view (rows ++ row ∷ [])) d
found_more rows row es k many h absent same d =
    let namespaces = map namespace_view rows in
    let mine = namespace_view k.namespace in
    let behind = drop few_pairs namespaces in
    let l = length-map rows namespace_view in
    let gone = absent_behind few_pairs namespaces mine absent in
    let none : place_among es mine ≡ None = h mine ∙ ap (option_map (λ i. few_pairs + i)) (absent_place behind mine gone) in
    let rest : few_pairs + length behind ≡ length rows = let r = length-drop few_pairs namespaces in omega arith in
    among_inserted k (length rows) d es none
    ∙ ap (λ o. cond (same_pair d mine) (Some (length rows)) o) (h d)
    ∙ rw (same_pair-sym d mine, sym rest) (inside (same_pair mine d) (length behind) (place_of behind d))
    ∙ sym (ap (option_map (λ i. few_pairs + i)) (place_push behind mine d gone))
    ∙ ap (λ ds. option_map (λ i. few_pairs + i) (place_of ds d)) (sym (drop-append-le few_pairs namespaces (mine ∷ []) (omega arith)))
    ∙ ap (λ ds. place_behind ds d) (sym (map-append namespace_view rows (row ∷ []) ∙ ap (λ x. namespaces ++ x ∷ []) same))
  where
    inside : (b : Bool) (i : ℕ) (o : Option ℕ) → cond b (Some (few_pairs + i)) (option_map (λ j. few_pairs + j) o) ≡ option_map (λ j. few_pairs + j) (cond b (Some i) o)
    inside true i o = refl
    inside false i o = refl

    same_pair-sym : (x y : NamespaceDecl) → same_pair x y ≡ same_pair y x
    same_pair-sym x y = by (same_pair x y) refl (same_pair y x) refl
      where
        by : (a : Bool) → same_pair x y ≡ a → (b : Bool) → same_pair y x ≡ b → a ≡ b
        by true p true q = refl
        by false p false q = refl
        by true p false q = let e = same_pair-true x y p in let again : same_pair y x ≡ true = subst (λ (w : NamespaceDecl). same_pair w x ≡ true) e (subst (λ (w : NamespaceDecl). same_pair x w ≡ true) (sym e) p) in cc (q, again)
        by false p true q = let e = same_pair-true y x q in let again : same_pair x y ≡ true = subst (λ (w : NamespaceDecl). same_pair w y ≡ true) e (subst (λ (w : NamespaceDecl). same_pair y w ≡ true) (sym e) q) in cc (p, again)

-- the row that was put at the end, where memory did not run out
pub row_last : {E : Type 0} (r : Result ℕ E) (rows new : List Namespace) (d : NamespaceDecl) → OnOk r (map namespace_view new ≡ map namespace_view rows ++ d ∷ []) → IfOk r (λ i. i ≡ length rows)
    → IfOk r (λ i. (i < length new) × (namespace_at (map namespace_view new) i ≡ d))
row_last (Err e) rows new d more last = tt
row_last (Ok i) rows new d more last =
    let l = length-map rows namespace_view in
    let m = length-map new namespace_view in
    let n = ap length more ∙ length-append (map namespace_view rows) (d ∷ []) in
    (omega arith, rw (more, last, ← l) (namespace_at-last (map namespace_view rows) d))
  where
    namespace_at-last : (namespaces : List NamespaceDecl) (d : NamespaceDecl) → namespace_at (namespaces ++ d ∷ []) (length namespaces) ≡ d
    namespace_at-last [] d = refl
    namespace_at-last (n ∷ namespaces) d = namespace_at-last namespaces d
