-- A declaration of a start tag, step by step.
use Rattle.std.proofs.Common.{◌≡◌, ℕ, zero, suc, get_or, subst, map, ◌+◌, ◌<◌, ◌≤◌, ◌||◌, ◌&&◌, not, Option, Bool, true, false, List, [], ◌∷◌, ◌++◌, length, drop, refl, sym, ap, ◌∙◌, arith, Result, Ok, Err, length-append, append_assoc, le-ltb, lt-ltb, slice_range, is_ok}
use Rattle.std.proofs.lemmas.List.{append-nil, map-append, length-map, drop-append-le}
use Rattle.std.proofs.lemmas.List.Elements.{filter-append}
use Rattle.std.proofs.lemmas.List.Folds.{list_any-append}
use mathlib.Core.Bool.{or-true, or-false}
use Rattle.std.proofs.lemmas.Bool.{or_parts, or_right}
use Rattle.rox_grammar.specs.declared.fault.Fault.{Fault}
use Rattle.rox_grammar.specs.declared.fault.Fault.TheVariants as fault
use Rattle.rox_grammar.specs.Written.{Attribute, NamespaceDecl, namespace_decl_of}
use Rattle.rox_grammar.specs.NameParts.{local_span}
use Rattle.rox_grammar.specs.Tree.{is_declared, listed, is_xml, listable_of, same_prefix}
use Rattle.rox_grammar.specs.Document.{most_pairs}
use Rattle.rox_grammar.specs.Counts.{has_pair, with_new}
use Rattle.rox_reading.specs.Tags.{TagSoFar, uri_tested, declared}
use Rattle.rox_grammar.specs.Failures.{Fails}
use Rattle.rox_grammar.specs.declared.failure.Failure.{Failure}
use Rattle.rox_grammar.specs.declared.failure.Failure.TheVariants as failure
use Rattle.rox_grammar.proofs.PairLemmas.{with_new-more, with_new-append}
use Rattle.rox_scopes.specs.declared.namespace.Namespace.{Namespace}
use Rattle.rox_grammar.specs.AtIndex.{namespace_at}
use Rattle.rox_scopes.specs.ScopeRows.{lists_of, AreScopes}
use Rattle.rox_scopes.specs.NamespaceViews.{namespace_view}
use Rattle.rox_scopes.specs.PrefixSet.{IsPrefixSet}
use Rattle.rox_scopes.specs.Scopes.{entries, others, ArePlaces, PrefixesOnce}
use Rattle.rox_names.specs.TagDeclarations.{declares_xml, Declares, Declared}
use Rattle.rox_scopes.specs.declared.stored_scope.Scope.{Scope}
use Rattle.rox_scopes.specs.Bindings.{AreBindingsOf}
use Rattle.rox_scopes.specs.declared.bindings.PrefixBindings.{PrefixBindings}
use Rattle.rox_scopes.proofs.Presenting.{keeps_grown}
use Rattle.rox_scopes.proofs.Remembering.{Key, remembers_same}
use Rattle.rox_scopes.proofs.Listing.{with_new-front, listed-others, is_declared-own}
use Rattle.rox_scopes.proofs.Hiding.{once_more}
use Rattle.rox_grammar.proofs.Stretches.{slice-rest}
use Rattle.rox_grammar.proofs.Lists.{all_append, all_drop, all_weaker, map_same}
use Rattle.rox_grammar.proofs.AtIndex.{namespace_at-append}
use Rattle.rox_scopes.proofs.Ropes.{lists-append, scopes_more}

-- the URI is refused
pub uri_refused : (known : List NamespaceDecl) (a : Attribute) (h : TagSoFar) (f : Fault) → uri_tested a ≡ Err f → declared known a h ≡ Err f
unfolding declared
uri_refused known a h f e = rw e refl

-- the prefix is declared already
pub declared_again : (known : List NamespaceDecl) (a : Attribute) (h : TagSoFar) → uri_tested a ≡ Ok tt → is_declared (namespace_decl_of a).prefix h.own ≡ true
    → declared known a h ≡ Err (fault.DuplicatedNamespace (local_span a.name a.name_end) a.start)
unfolding declared
declared_again known a h e again = rw (e, again) refl

-- there are too many pairs
pub declared_many : (known : List NamespaceDecl) (a : Attribute) (h : TagSoFar) → uri_tested a ≡ Ok tt → is_declared (namespace_decl_of a).prefix h.own ≡ false
    → most_pairs < length (with_new known (listable_of (h.own ++ namespace_decl_of a ∷ []))) → declared known a h ≡ Err fault.NamespacesLimitReached
unfolding declared
declared_many known a h e new many = let k = lt-ltb _ _ many in rw (e, new, k) refl

pub declared_new : (known : List NamespaceDecl) (a : Attribute) (h : TagSoFar) → uri_tested a ≡ Ok tt → is_declared (namespace_decl_of a).prefix h.own ≡ false
    → length (with_new known (listable_of (h.own ++ namespace_decl_of a ∷ []))) ≤ most_pairs
    → declared known a h ≡ Ok (record { own = h.own ++ namespace_decl_of a ∷ []; attributes = h.attributes })
unfolding declared
declared_new known a h e new few = let k = le-ltb _ _ few in rw (e, new, k) refl

listable-push : (own : List NamespaceDecl) (d : NamespaceDecl) → listable_of (own ++ d ∷ []) ≡ listable_of own ++ listable_of (d ∷ [])
listable-push own d = filter-append (λ d. not (is_xml d.prefix)) own (d ∷ [])

listable-xml : (d : NamespaceDecl) → is_xml d.prefix ≡ true → listable_of (d ∷ []) ≡ []
listable-xml d h = rw h refl

listable-other : (d : NamespaceDecl) → is_xml d.prefix ≡ false → listable_of (d ∷ []) ≡ d ∷ []
listable-other d h = rw h refl

xml-push : (own : List NamespaceDecl) (d : NamespaceDecl) (b : Bool) → is_xml d.prefix ≡ b → declares_xml (own ++ d ∷ []) ≡ (declares_xml own || b)
xml-push own d b h = list_any-append (λ d. is_xml d.prefix) own (d ∷ []) ∙ ap (λ x. declares_xml own || x) (ap (λ b. b || false) h ∙ or-false b)

-- the declaration of `xml`
pub declares_prefix_xml : (known : List NamespaceDecl) (before : List ℕ) (namespaces : List NamespaceDecl) (listed : List ℕ) (xml : Bool) (a : Attribute) (h : TagSoFar) → Declares known before namespaces listed xml h.own
    → uri_tested a ≡ Ok tt → is_declared (namespace_decl_of a).prefix h.own ≡ false → is_xml (namespace_decl_of a).prefix ≡ true
    → Declared known before namespaces listed (Ok true) h (declared known a h)
declares_prefix_xml known before namespaces listed xml a h d uri new is =
    let one = namespace_decl_of a in
    let same : listable_of (h.own ++ one ∷ []) ≡ listable_of h.own = listable-push h.own one ∙ ap (λ xs. listable_of h.own ++ xs) (listable-xml one is) ∙ append-nil (listable_of h.own) in
    let pairs : with_new known (listable_of (h.own ++ one ∷ [])) ≡ namespaces = ap (with_new known) same ∙ sym d.names_are in (
      h.own ++ one ∷ [],
      declared_new known a h uri new (rw pairs d.few),
      record {
        names_are = sym pairs;
        few = d.few;
        xml_is = sym (or-true (declares_xml h.own)) ∙ sym (xml-push h.own one true is);
        mine = d.mine;
        listed_are = d.listed_are;
        places = d.places;
        same = d.same ∙ sym same;
      },
    )

-- another one, whose place is pushed onto the listed places
pub declares_other : (known : List NamespaceDecl) (before : List ℕ) (namespaces next : List NamespaceDecl) (listed after : List ℕ) (xml : Bool) (a : Attribute) (h : TagSoFar) (place : ℕ)
    → Declares known before namespaces listed xml h.own → uri_tested a ≡ Ok tt → is_declared (namespace_decl_of a).prefix h.own ≡ false → is_xml (namespace_decl_of a).prefix ≡ false
    → next ≡ with_new namespaces (namespace_decl_of a ∷ []) → length next ≤ most_pairs → place < length next → namespace_at next place ≡ namespace_decl_of a → after ≡ listed ++ place ∷ []
    → Declared known before next after (Ok xml) h (declared known a h)
declares_other known before namespaces next listed after xml a h place d uri new is grown few here at push =
    let one = namespace_decl_of a in
    let more : listable_of (h.own ++ one ∷ []) ≡ listable_of h.own ++ one ∷ [] = listable-push h.own one ∙ ap (λ xs. listable_of h.own ++ xs) (listable-other one is) in
    let pairs : with_new known (listable_of (h.own ++ one ∷ [])) ≡ next = grind (arith, with_new-append) in
    let front = with_new-front namespaces (one ∷ []) in
    let next_is : next ≡ namespaces ++ front.0 = grown ∙ front.1 in
    let long : length next ≡ length namespaces + length front.0 = ap length next_is ∙ length-append namespaces front.0 in
    let stays : entries next d.mine ≡ entries namespaces d.mine =
    ap (λ ns. entries ns d.mine) next_is ∙ map_same (namespace_at (namespaces ++ front.0)) (namespace_at namespaces) (λ i. i < length namespaces) d.mine (namespace_at-append namespaces front.0) d.places in (
      h.own ++ one ∷ [],
      declared_new known a h uri new (rw pairs few),
      record {
        names_are = sym pairs;
        few = few;
        xml_is = d.xml_is ∙ sym (or-false (declares_xml h.own)) ∙ sym (xml-push h.own one false is);
        mine = d.mine ++ place ∷ [];
        listed_are = push ∙ ap (λ xs. xs ++ place ∷ []) d.listed_are ∙ append_assoc before d.mine (place ∷ []);
        places = all_append (λ i. i < length next) d.mine (place ∷ []) (all_weaker (λ i. i < length namespaces) (λ i. i < length next) d.mine (λ i h. omega arith) d.places) (here, tt);
        same = entries-push next d.mine place ∙ ap (λ xs. xs ++ namespace_at next place ∷ []) (stays ∙ d.same) ∙ ap (λ x. listable_of h.own ++ x ∷ []) at ∙ sym more;
      },
    )
  where
    entries-push : (namespaces : List NamespaceDecl) (places : List ℕ) (p : ℕ) → entries namespaces (places ++ p ∷ []) ≡ entries namespaces places ++ namespace_at namespaces p ∷ []
    entries-push namespaces [] p = refl
    entries-push namespaces (x ∷ xs) p = ap (λ ys. namespace_at namespaces x ∷ ys) (entries-push namespaces xs p)

-- what is listed from where the tag began
pub own_places : (before listed mine : List ℕ) (own : ℕ) → own ≡ length before → listed ≡ before ++ mine → drop own listed ≡ mine
own_places before listed mine own o l = ap (drop own) l ∙ ap (λ n. drop n (before ++ mine)) o ∙ dropped before mine
  where
    dropped : (xs ys : List ℕ) → drop (length xs) (xs ++ ys) ≡ ys
    dropped [] ys = refl
    dropped (x ∷ xs) ys = dropped xs ys

-- those listed from where the tag began are what it declares
pub own_listed : (known : List NamespaceDecl) (before : List ℕ) (namespaces seen_names : List NamespaceDecl) (listed seen : List ℕ) (xml : Bool) (ds : List NamespaceDecl) (own : ℕ)
    → own ≡ length before → seen_names ≡ namespaces → seen ≡ listed → Declares known before namespaces listed xml ds
    → entries seen_names (slice_range seen own (length seen)) ≡ listable_of ds
own_listed known before namespaces seen_names listed seen xml ds own o n s d = grind (arith, slice-rest, own_places)

-- whether it declares this prefix already
pub own_declares : (namespaces : List NamespaceDecl) (own : List ℕ) (p : Option (List ℕ)) (xml : Bool) (ds : List NamespaceDecl) (found : Bool)
    → found ≡ (is_declared p (entries namespaces own) || (xml && is_xml p)) → xml ≡ declares_xml ds → entries namespaces own ≡ listable_of ds → found ≡ is_declared p ds
own_declares namespaces own p xml ds found is xml_is own_is = grind (arith, is_declared-own)

pub fails_by : {X Y : Type 0} (e : Failure) (r : Result X Failure) (read : Result Y Fault) → r ≡ Err e → ((f : Fault) → r ≡ Err (failure.Fault f) → read ≡ Err f) → Fails e read
fails_by e r read is go = grind arith

-- one pair too many
pub many_pairs : (known : List NamespaceDecl) (before : List ℕ) (namespaces : List NamespaceDecl) (listed : List ℕ) (xml : Bool) (a : Attribute) (h : TagSoFar)
    → Declares known before namespaces listed xml h.own → is_xml (namespace_decl_of a).prefix ≡ false → most_pairs < length (with_new namespaces (namespace_decl_of a ∷ []))
    → most_pairs < length (with_new known (listable_of (h.own ++ namespace_decl_of a ∷ [])))
many_pairs known before namespaces listed xml a h d is many = grind (arith, listable-push, with_new-append)

-- what the scope that it makes lists
pub scope_declared : (known : List NamespaceDecl) (before : List ℕ) (namespaces : List NamespaceDecl) (old : List ℕ) (xml : Bool) (ds above lists : List NamespaceDecl) (own : ℕ) → own ≡ length before → Declares known before namespaces old xml ds
    → lists ≡ entries namespaces (drop own old) ++ others (entries namespaces (drop own old)) xml above → lists ≡ listed above ds
scope_declared known before namespaces old xml ds above lists own o d is = grind (arith, own_places, listed-others)

-- the listed places with one more, where the table has a pair more or is as before
pub places_after : (old rows : List Namespace) (listed after : List ℕ) (d : NamespaceDecl) (place : ℕ) → map namespace_view rows ≡ with_new (map namespace_view old) (d ∷ []) → place < length rows
    → after ≡ listed ++ place ∷ [] → ArePlaces (length old) listed → ArePlaces (length rows) after
places_after old rows listed after d place grown here push ok =
    let long = length-map rows namespace_view in
    let was = length-map old namespace_view in
    let more : length old ≤ length rows = omega (arith, with_new-more (map namespace_view old) (d ∷ []), ap length grown) in
    rw push (all_append (λ i. i < length rows) listed (place ∷ []) (all_weaker (λ i. i < length old) (λ i. i < length rows) listed (λ i h. omega arith) ok) (here, tt))

-- the set of prefixes, where the table has a pair more
pub remembers_after : (old rows : List Namespace) (listed : List ℕ) (d : NamespaceDecl) (own : ℕ) (keys : List Key) → map namespace_view rows ≡ with_new (map namespace_view old) (d ∷ [])
    → ArePlaces (length old) listed → IsPrefixSet (map namespace_view old) (drop own listed) keys → IsPrefixSet (map namespace_view rows) (drop own listed) keys
remembers_after old rows listed d own keys grown ok h = grind (arith, length-map, all_drop, map_same, namespace_at-append, remembers_same)

-- each prefix is listed once, where one more is listed
pub once_after : (old rows : List Namespace) (listed after : List ℕ) (d : NamespaceDecl) (place own : ℕ) → map namespace_view rows ≡ with_new (map namespace_view old) (d ∷ [])
    → after ≡ listed ++ place ∷ [] → own ≤ length listed → ArePlaces (length old) listed → namespace_at (map namespace_view rows) place ≡ d
    → is_declared d.prefix (entries (map namespace_view old) (drop own listed)) ≡ false → PrefixesOnce (entries (map namespace_view old) (drop own listed)) → PrefixesOnce (entries (map namespace_view rows) (drop own after))
once_after old rows listed after d place own grown push own_in ok is absent once =
    let namespaces = map namespace_view old in
    let front = with_new-front namespaces (d ∷ []) in
    let mine : ArePlaces (length namespaces) (drop own listed) = rw (length-map old namespace_view) (all_drop (λ i. i < length old) own listed ok) in
    let stays : entries (map namespace_view rows) (drop own listed) ≡ entries namespaces (drop own listed) =
    ap (λ ns. entries ns (drop own listed)) (grown ∙ front.1) ∙ map_same (namespace_at (namespaces ++ front.0)) (namespace_at namespaces) (λ i. i < length namespaces) (drop own listed) (namespace_at-append namespaces front.0) mine in
    subst PrefixesOnce (sym (grind (arith, drop-append-le, map-append))) (once_more (entries namespaces (drop own listed)) d once absent)

-- nothing is listed yet
pub once_none : (namespaces : List NamespaceDecl) (listed : List ℕ) (own : ℕ) → own ≡ length listed → PrefixesOnce (entries namespaces (drop own listed))
once_none namespaces listed own e = subst (λ n. PrefixesOnce (entries namespaces (drop n listed))) (sym e) (all listed)
  where
    all : (xs : List ℕ) → PrefixesOnce (entries namespaces (drop (length xs) xs))
    all [] = tt
    all (x ∷ xs) = all xs

-- the places of prefixes, where the table has a pair more
pub kept_after : (old rows : List Namespace) (lists : List (List NamespaceDecl)) (d : NamespaceDecl) (x : PrefixBindings) → map namespace_view rows ≡ with_new (map namespace_view old) (d ∷ [])
    → AreBindingsOf (map namespace_view old) lists x → AreBindingsOf (map namespace_view rows) lists x
kept_after old rows lists d x grown h =
    let front = with_new-front (map namespace_view old) (d ∷ []) in
    keeps_grown (map namespace_view old) (map namespace_view rows) lists lists x front.0 [] (grown ∙ front.1) (sym (append-nil lists)) h

-- what scopes list, where the table has a pair more and one more is listed
pub lists_after : (old rows : List Namespace) (listed after : List ℕ) (d : NamespaceDecl) (place own : ℕ) (scopes : List Scope) → map namespace_view rows ≡ with_new (map namespace_view old) (d ∷ [])
    → after ≡ listed ++ place ∷ [] → own ≤ length listed → ArePlaces (length old) listed → AreScopes own scopes
    → lists_of (map namespace_view rows) after scopes ≡ lists_of (map namespace_view old) listed scopes
lists_after old rows listed after d place own scopes grown push here ok h =
    let front = with_new-front (map namespace_view old) (d ∷ []) in
    ap (λ ns. lists_of ns after scopes) (grown ∙ front.1) ∙ ap (λ ls. lists_of (map namespace_view old ++ front.0) ls scopes) push
    ∙ lists-append (map namespace_view old) front.0 listed (place ∷ []) scopes (rw (length-map old namespace_view) ok) (scopes_more own (length listed) scopes here h)

-- ---- a prefix that no pair has

-- the row at this place has the prefix
pub declared_at : (rows : List Namespace) (i : ℕ) (d : Namespace) (p : Option (List ℕ)) → i < length rows → same_prefix (namespace_view (get_or rows i d)).prefix p ≡ true → is_declared p (map namespace_view rows) ≡ true
declared_at [] i d p lt same = absurd (omega arith)
declared_at (r ∷ rows) zero d p lt same = rw same refl
declared_at (r ∷ rows) (suc i) d p lt same = or_right (same_prefix (namespace_view r).prefix p) _ (declared_at rows i d p (omega arith) same)

-- its pair is new
absent_pair : (ds : List NamespaceDecl) (d : NamespaceDecl) → is_declared d.prefix ds ≡ false → has_pair ds d ≡ false
absent_pair [] d h = refl
absent_pair (e ∷ ds) d h = rw ((or_parts (same_prefix e.prefix d.prefix) _ h).0, absent_pair ds d (or_parts (same_prefix e.prefix d.prefix) _ h).1) refl

pub absent_row : (rows : List Namespace) (d : NamespaceDecl) → is_declared d.prefix (map namespace_view rows) ≡ false → has_pair (map namespace_view rows) d ≡ false
absent_row rows d h = absent_pair (map namespace_view rows) d h

-- and none is listed
pub absent_listed : (ds : List NamespaceDecl) (places : List ℕ) (p : Option (List ℕ)) → is_declared p ds ≡ false → ArePlaces (length ds) places → is_declared p (entries ds places) ≡ false
absent_listed ds [] p h ok = refl
absent_listed ds (i ∷ places) p h (lt, ok) = rw (at ds i h lt, absent_listed ds places p h ok) refl
  where
    at : (es : List NamespaceDecl) (k : ℕ) → is_declared p es ≡ false → k < length es → same_prefix (namespace_at es k).prefix p ≡ false
    at [] k h lt = absurd (omega arith)
    at (e ∷ es) zero h lt = (or_parts (same_prefix e.prefix p) _ h).0
    at (e ∷ es) (suc k) h lt = at es k (or_parts (same_prefix e.prefix p) _ h).1 (omega arith)

-- the table with a pair that is new
pub with_absent : (ds : List NamespaceDecl) (d : NamespaceDecl) → has_pair ds d ≡ false → ds ++ d ∷ [] ≡ with_new ds (d ∷ [])
with_absent ds d h = rw h refl

-- a URI that was tested
pub passed_uri : (a : Attribute) (r : Result (Unit {0}) Fault) → r ≡ uri_tested a → is_ok r ≡ true → uri_tested a ≡ Ok tt
passed_uri a r is h = grind arith
