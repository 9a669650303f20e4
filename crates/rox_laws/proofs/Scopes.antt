-- What an element lists for a prefix, in terms of the declarations as written of it and of the elements above it.
use Rattle.std.proofs.Common.{◌≡◌, ◌≢◌, ℕ, zero, suc, ◌||◌, Bool, true, false, cond, not, List, [], ◌∷◌, ◌++◌, Option, Some, None, filter, refl, sym, ap, ◌∙◌, arith, Contains}
use Rattle.std.proofs.lemmas.Bool.{or_parts, or_from, false_from_ne_true}
use Rattle.std.proofs.lemmas.List.Folds.{list_any-append}
use Rattle.rox_grammar.specs.Written.{NamespaceDecl, Item}
use Rattle.rox_grammar.specs.Tree.{same_prefix, is_declared, listed, uri_of, scope_in}
use Rattle.rox_grammar.specs.WellNamed.{ItemWellNamed}
use Rattle.rox_grammar.proofs.NamesApart.{DeclarableBehind, declarable_behind}
use Rattle.rox_laws.specs.NearestDeclaration.{declared_at, xml}
use Rattle.rox_scopes.proofs.Pairs.{same_prefix-true, same_prefix-refl}
use Rattle.rox_laws.proofs.Once.{some_none}

-- ---- one row of declarations

-- it says nothing of a prefix that it does not declare
pub undeclared : (p : Option (List ℕ)) (ds : List NamespaceDecl) → is_declared p ds ≡ false → uri_of ds p ≡ None
undeclared p [] h = refl
undeclared p (d ∷ ds) h =
    let n = or_parts (same_prefix d.prefix p) (is_declared p ds) h in
    rw n.0 (undeclared p ds n.1)

-- and something of one that it declares
pub declared : (p : Option (List ℕ)) (ds : List NamespaceDecl) → is_declared p ds ≡ true → uri_of ds p ≡ None → ⊥
declared p [] h e = cc h
declared p (d ∷ ds) h e = by_test (declared p ds) (same_prefix d.prefix p) refl
  where
    by_test : (is_declared p ds ≡ true → uri_of ds p ≡ None → ⊥) → (x : Bool) → same_prefix d.prefix p ≡ x → ⊥
    by_test rest true s = let k : Some d.uri ≡ None = rw s at e in cc k
    by_test rest false s = rest (rw s at h) (rw s at e)

pub declared_if_some : (p : Option (List ℕ)) (u : List ℕ) (ds : List NamespaceDecl) → uri_of ds p ≡ Some u → is_declared p ds ≡ true
declared_if_some p u ds e = grind (arith, undeclared)

-- what it says is declared
pub says_declared : (p : Option (List ℕ)) (u : List ℕ) (ds : List NamespaceDecl) → uri_of ds p ≡ Some u → Contains ds (record { prefix = p; uri = u })
says_declared p u [] e = cc e
says_declared p u (d ∷ ds) e = by_test (says_declared p u ds) (same_prefix d.prefix p) refl
  where
    found : NamespaceDecl
    found = record { prefix = p; uri = u }

    later : Contains ds found → Contains (d ∷ ds) found
    later (k, l, e) = (suc k, omega arith, e)

    by_test : (uri_of ds p ≡ Some u → Contains ds found) → (x : Bool) → same_prefix d.prefix p ≡ x → Contains (d ∷ ds) found
    by_test rest true s =
        let k : Some d.uri ≡ Some u = rw s at e in
        let uri : d.uri ≡ u = cc k in
        let prefix : d.prefix ≡ p = same_prefix-true d.prefix p s in
        let first : d ≡ found = ap (λ (q : Option (List ℕ)). let x : NamespaceDecl = record { prefix = q; uri = d.uri } in x) prefix ∙ ap (λ (v : List ℕ). let x : NamespaceDecl = record { prefix = p; uri = v } in x) uri in
        (0, omega arith, first)
    by_test rest false s = later (rest (rw s at e))

-- where each prefix is declared once, none before it is that of one of these
none_before : (p : Option (List ℕ)) (u : List ℕ) (before ds : List NamespaceDecl) → DeclarableBehind before ds → Contains ds (record { prefix = p; uri = u }) → is_declared p before ≡ false
none_before p u before [] h (k, l, e) = absurd (omega arith)
none_before p u before (d ∷ ds) h (zero, l, e) = let same : d.prefix ≡ p = ap (λ (d : NamespaceDecl). d.prefix) e in rw same at h.1
none_before p u before (d ∷ ds) h (suc k, l, e) = grind (arith, none_before p u (before ++ d ∷ []) ds h.2 (k, omega arith, e), list_any-append)

-- so it says what is declared
pub declared_says : (p : Option (List ℕ)) (u : List ℕ) (before ds : List NamespaceDecl) → DeclarableBehind before ds → Contains ds (record { prefix = p; uri = u }) → uri_of ds p ≡ Some u
declared_says p u before [] h (k, l, e) = absurd (omega arith)
declared_says p u before (d ∷ ds) h (zero, l, e) = grind (arith, same_prefix-refl)
declared_says p u before (d ∷ ds) h (suc k, l, e) =
    let n = none_before p u (before ++ d ∷ []) ds h.2 (k, omega arith, e) in
    let m = or_parts (is_declared p before) (is_declared p (d ∷ [])) (sym (list_any-append (λ (d : NamespaceDecl). same_prefix d.prefix p) before (d ∷ [])) ∙ n) in
    rw ((or_parts (same_prefix d.prefix p) false m.1).0) (declared_says p u (before ++ d ∷ []) ds h.2 (k, omega arith, e))

-- each item declares what may be declared
pub item_declares : (scope : List NamespaceDecl) (item : Item) → ItemWellNamed scope item → DeclarableBehind [] (declared_at item)
item_declares scope item h = grind (arith, declarable_behind)

-- ---- two rows, and some of a row

-- of two rows the first that declares it
first_row : (p : Option (List ℕ)) (xs ys : List NamespaceDecl) → uri_of (xs ++ ys) p ≡ cond (is_declared p xs) (uri_of xs p) (uri_of ys p)
first_row p [] ys = refl
first_row p (d ∷ ds) ys = grind (arith, first_row p ds ys)

-- the test is true of all of this prefix
abbrev Keeps : (NamespaceDecl → Bool) → Option (List ℕ) → Type 0
Keeps test p = (d : NamespaceDecl) → same_prefix d.prefix p ≡ true → test d ≡ true

-- such a choice of a row declares it where the row does
some_declare : (p : Option (List ℕ)) (test : NamespaceDecl → Bool) (ds : List NamespaceDecl) → Keeps test p → is_declared p (filter test ds) ≡ is_declared p ds
some_declare p test [] k = refl
some_declare p test (d ∷ ds) k = by_test (some_declare p test ds k) (test d) (same_prefix d.prefix p) refl refl
  where
    by_test : is_declared p (filter test ds) ≡ is_declared p ds → (x y : Bool) → test d ≡ x → same_prefix d.prefix p ≡ y → is_declared p (filter test (d ∷ ds)) ≡ is_declared p (d ∷ ds)
    by_test rest true y e s = rw e (ap (λ (z : Bool). same_prefix d.prefix p || z) rest)
    by_test rest false true e s = let b : true ≡ false = sym (k d s) ∙ e in cc b
    by_test rest false false e s = rw (e, s) rest

-- as the same URI
some_say : (p : Option (List ℕ)) (test : NamespaceDecl → Bool) (ds : List NamespaceDecl) → Keeps test p → uri_of (filter test ds) p ≡ uri_of ds p
some_say p test [] k = refl
some_say p test (d ∷ ds) k = by_test (some_say p test ds k) (test d) (same_prefix d.prefix p) refl refl
  where
    by_test : uri_of (filter test ds) p ≡ uri_of ds p → (x y : Bool) → test d ≡ x → same_prefix d.prefix p ≡ y → uri_of (filter test (d ∷ ds)) p ≡ uri_of (d ∷ ds) p
    by_test rest true y e s = rw e (ap (λ (z : Option (List ℕ)). cond (same_prefix d.prefix p) (Some d.uri) z) rest)
    by_test rest false true e s = let b : true ≡ false = sym (k d s) ∙ e in cc b
    by_test rest false false e s = rw (e, s) rest

-- ---- rows upwards

-- the URI of the first row that declares the prefix
abbrev pub nearest : Option (List ℕ) → List (List NamespaceDecl) → Option (List ℕ)
nearest p [] = None
nearest p (own ∷ above) = cond (is_declared p own) (uri_of own p) (nearest p above)

-- what is listed is what the rows say, of each prefix but `xml`
abbrev pub Agree : List NamespaceDecl → List (List NamespaceDecl) → Type 0
Agree scope rows = (p : Option (List ℕ)) → p ≢ xml → uri_of scope p ≡ nearest p rows

-- those that are not of `xml`
abbrev listable : NamespaceDecl → Bool
listable d = not (same_prefix d.prefix xml)

-- those that are not declared again
abbrev left_by : List NamespaceDecl → NamespaceDecl → Bool
left_by own d = not (is_declared d.prefix own)

keeps_listable : (p : Option (List ℕ)) → p ≢ xml → Keeps listable p
keeps_listable p n d s =
    let e : same_prefix d.prefix xml ≡ false = false_from_ne_true (same_prefix d.prefix xml) (λ h. n (sym (same_prefix-true d.prefix p s) ∙ same_prefix-true d.prefix xml h)) in
    ap not e

keeps_left : (p : Option (List ℕ)) (own : List NamespaceDecl) → is_declared p own ≡ false → Keeps (left_by own) p
keeps_left p own n d s = let e : is_declared d.prefix own ≡ false = ap (λ (q : Option (List ℕ)). is_declared q own) (same_prefix-true d.prefix p s) ∙ n in ap not e

-- its own declarations come first
own_first : (above own : List NamespaceDecl) (p : Option (List ℕ)) → p ≢ xml → uri_of (listed above own) p ≡ cond (is_declared p own) (uri_of own p) (uri_of above p)
own_first above own p n =
    first_row p (filter listable own) (filter (left_by own) above) ∙ rw (some_declare p listable own k, some_say p listable own k) (by_test (is_declared p own) refl)
  where
    k : Keeps listable p
    k = keeps_listable p n

    by_test : (x : Bool) → is_declared p own ≡ x → cond (is_declared p own) (uri_of own p) (uri_of (filter (left_by own) above) p) ≡ cond (is_declared p own) (uri_of own p) (uri_of above p)
    by_test true e = rw e refl
    by_test false e = rw e (some_say p (left_by own) above (keeps_left p own e))

-- so one more row agrees
pub agree_more : (above : List NamespaceDecl) (rows : List (List NamespaceDecl)) (item : Item) → Agree above rows → Agree (scope_in above item) (declared_at item ∷ rows)
agree_more above rows item h = grind (arith, own_first)

-- ---- `xml`

-- it is not among these
abbrev pub HasNoXml : List NamespaceDecl → Type 0
HasNoXml scope = is_declared xml scope ≡ false

-- the listable are others
listable_no_xml : (ds : List NamespaceDecl) → HasNoXml (filter listable ds)
listable_no_xml [] = refl
listable_no_xml (d ∷ ds) = by_test (listable_no_xml ds) (same_prefix d.prefix xml) refl
  where
    by_test : HasNoXml (filter listable ds) → (x : Bool) → same_prefix d.prefix xml ≡ x → HasNoXml (filter listable (d ∷ ds))
    by_test rest true e = rw e rest
    by_test rest false e = rw e (rw e rest)

listed_no_xml : (above own : List NamespaceDecl) → HasNoXml above → HasNoXml (listed above own)
listed_no_xml above own h =
    list_any-append (λ (d : NamespaceDecl). same_prefix d.prefix xml) (filter listable own) (filter (left_by own) above)
    ∙ or_from (is_declared xml (filter listable own)) (is_declared xml (filter (left_by own) above)) (listable_no_xml own) (some_none xml (left_by own) above h)

pub scope_no_xml : (above : List NamespaceDecl) (item : Item) → HasNoXml above → HasNoXml (scope_in above item)
scope_no_xml above item h = grind (arith, listed_no_xml)
