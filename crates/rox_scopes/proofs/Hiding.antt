-- Lists that have each prefix once, and what is left of them where one is hidden.
use Rattle.std.proofs.Common.{◌≡◌, ℕ, zero, suc, ◌+◌, ◌<◌, ◌&&◌, ◌||◌, not, filter, Bool, true, false, List, [], ◌∷◌, ◌++◌, Option, Some, if◌then◌else◌, length, get_or, refl, sym, ap, ◌∙◌, arith}
use Rattle.std.proofs.lemmas.List.Folds.{list_any-append}
use mathlib.Core.Bool.{or-false}
use Rattle.std.proofs.lemmas.Bool.{or_parts, or_right}
use Rattle.rox_grammar.specs.Written.{NamespaceDecl}
use Rattle.rox_grammar.specs.Tree.{same_prefix, is_declared, is_xml, uri_of}
use Rattle.rox_grammar.specs.FixedTexts.{word_text}
use Rattle.rox_grammar.specs.declared.fault.Word.TheVariants.{Xml}
use Rattle.rox_grammar.specs.AtIndex.{namespace_at}
use Rattle.rox_scopes.specs.Scopes.{entries, others, PrefixesOnce, unlisted}
use Rattle.rox_scopes.proofs.Leaves.{cut}
use Rattle.rox_scopes.proofs.Listing.{same_prefix-sym}
use Rattle.rox_scopes.proofs.Pairs.{same_prefix-true, same_prefix-refl}

-- nothing is left out where the prefix is not declared
pub unlisted_none : (p : Option (List ℕ)) (ds : List NamespaceDecl) → is_declared p ds ≡ false → unlisted p ds ≡ ds
unlisted_none p [] h = refl
unlisted_none p (d ∷ ds) h = let o = or_parts (same_prefix d.prefix p) (is_declared p ds) h in rw o.0 (ap (λ xs. d ∷ xs) (unlisted_none p ds o.1))

-- a prefix that is not declared is not among those that are left
pub filtered_none : (f : NamespaceDecl → Bool) (p : Option (List ℕ)) (ds : List NamespaceDecl) → is_declared p ds ≡ false → is_declared p (filter f ds) ≡ false
filtered_none f p [] h = refl
filtered_none f p (d ∷ ds) h =
    one (f d) (filtered_none f p ds (or_parts (same_prefix d.prefix p) (is_declared p ds) h).1)
  where
    one : (b : Bool) → is_declared p (filter f ds) ≡ false → is_declared p (if b then d ∷ filter f ds else filter f ds) ≡ false
    one true r = rw (or_parts (same_prefix d.prefix p) (is_declared p ds) h).0 r
    one false r = r

pub once_filtered : (f : NamespaceDecl → Bool) (ds : List NamespaceDecl) → PrefixesOnce ds → PrefixesOnce (filter f ds)
once_filtered f [] h = tt
once_filtered f (d ∷ ds) (n, h) = one (f d) (filtered_none f d.prefix ds n) (once_filtered f ds h)
  where
    one : (b : Bool) → is_declared d.prefix (filter f ds) ≡ false → PrefixesOnce (filter f ds) → PrefixesOnce (if b then d ∷ filter f ds else filter f ds)
    one true m r = (m, r)
    one false m r = r

-- one behind which none has its prefix has another than each of them
apart_behind : (namespaces : List NamespaceDecl) (x : ℕ) (xs : List ℕ) (i : ℕ) (p : Option (List ℕ)) → is_declared (namespace_at namespaces x).prefix (entries namespaces xs) ≡ false → i < length xs
    → same_prefix (namespace_at namespaces (get_or xs i 0)).prefix p ≡ true → same_prefix (namespace_at namespaces x).prefix p ≡ false
apart_behind namespaces x [] i p n lt s = absurd (omega arith)
apart_behind namespaces x (y ∷ ys) zero p n lt s =
    let same : (namespace_at namespaces y).prefix ≡ p = same_prefix-true _ _ s in
    ap (same_prefix (namespace_at namespaces x).prefix) (sym same) ∙ same_prefix-sym (namespace_at namespaces x).prefix (namespace_at namespaces y).prefix ∙ (or_parts _ _ n).0
apart_behind namespaces x (y ∷ ys) (suc i) p n lt s = apart_behind namespaces x ys i p (or_parts _ _ n).1 (omega arith) s

-- any place with this prefix is the one that is looked up
pub uri_once : (namespaces : List NamespaceDecl) (places : List ℕ) (i : ℕ) (p : Option (List ℕ)) → PrefixesOnce (entries namespaces places) → i < length places
    → same_prefix (namespace_at namespaces (get_or places i 0)).prefix p ≡ true → uri_of (entries namespaces places) p ≡ Some (namespace_at namespaces (get_or places i 0)).uri
uri_once namespaces [] i p h lt s = absurd (omega arith)
uri_once namespaces (x ∷ xs) zero p h lt s = rw s refl
uri_once namespaces (x ∷ xs) (suc i) p (n, h) lt s = rw (apart_behind namespaces x xs i p n (omega arith) s) (uri_once namespaces xs i p h (omega arith) s)

-- the one with this prefix is left out alone
pub unlisted_one : (namespaces : List NamespaceDecl) (places : List ℕ) (i : ℕ) (p : Option (List ℕ)) → PrefixesOnce (entries namespaces places) → i < length places → same_prefix (namespace_at namespaces (get_or places i 0)).prefix p ≡ true
    → entries namespaces (cut i places) ≡ unlisted p (entries namespaces places)
unlisted_one namespaces [] i p h lt s = absurd (omega arith)
unlisted_one namespaces (x ∷ xs) zero p (n, h) lt s =
    rw s (sym (unlisted_none p (entries namespaces xs) (ap (λ q. is_declared q (entries namespaces xs)) (sym (same_prefix-true _ _ s)) ∙ n)))
unlisted_one namespaces (x ∷ xs) (suc i) p (n, h) lt s =
    let next : suc i + 1 ≡ suc (i + 1) = omega arith in
    rw ((apart_behind namespaces x xs i p n (omega arith) s), next) (ap (λ ys. namespace_at namespaces x ∷ ys) (unlisted_one namespaces xs i p h (omega arith) s))

-- one more that is not declared yet
pub once_more : (ds : List NamespaceDecl) (d : NamespaceDecl) → PrefixesOnce ds → is_declared d.prefix ds ≡ false → PrefixesOnce (ds ++ d ∷ [])
once_more [] d h n = (refl, tt)
once_more (e ∷ ds) d (m, h) n =
    let o = or_parts (same_prefix e.prefix d.prefix) (is_declared d.prefix ds) n in
    (list_any-append (λ x. same_prefix x.prefix e.prefix) ds (d ∷ []) ∙ rw (m, same_prefix-sym d.prefix e.prefix, o.0) refl, once_more ds d h o.1)

filter_both : (f g h : NamespaceDecl → Bool) (ds : List NamespaceDecl) → ((d : NamespaceDecl) → h d ≡ (f d && g d)) → filter f (filter g ds) ≡ filter h ds
filter_both f g h [] e = refl
filter_both f g h (d ∷ ds) e = one (g d) (f d) refl refl (filter_both f g h ds e)
  where
    one : (b c : Bool) → g d ≡ b → f d ≡ c → filter f (filter g ds) ≡ filter h ds → filter f (filter g (d ∷ ds)) ≡ filter h (d ∷ ds)
    one true true x y r = rw (x, y, e d, x, y) (ap (λ xs. d ∷ xs) r)
    one true false x y r = rw (x, y, e d, x, y) r
    one false true x y r = rw (x, e d, x, y) r
    one false false x y r = rw (x, e d, x, y) r

not_both : (a s : Bool) → not (a || s) ≡ (not s && not a)
not_both a s = grind arith

-- one more is hidden
pub others_more : (own : List NamespaceDecl) (d : NamespaceDecl) (ds : List NamespaceDecl) → unlisted d.prefix (others own false ds) ≡ others (own ++ d ∷ []) false ds
others_more own d ds =
    filter_both (λ e. not (same_prefix e.prefix d.prefix)) (λ e. not (is_declared e.prefix own || (false && is_xml e.prefix))) (λ e. not (is_declared e.prefix (own ++ d ∷ []) || (false && is_xml e.prefix))) ds
    (λ e. ap not (or-false (is_declared e.prefix (own ++ d ∷ [])) ∙ list_any-append (λ x. same_prefix x.prefix e.prefix) own (d ∷ [])
    ∙ ap (λ b. is_declared e.prefix own || b) (or-false (same_prefix d.prefix e.prefix) ∙ same_prefix-sym d.prefix e.prefix))
    ∙ not_both (is_declared e.prefix own) (same_prefix e.prefix d.prefix) ∙ ap (λ b. not (same_prefix e.prefix d.prefix) && not b) (sym (or-false (is_declared e.prefix own))))

pub others_none : (ds : List NamespaceDecl) → others [] false ds ≡ ds
others_none [] = refl
others_none (d ∷ ds) = ap (λ xs. d ∷ xs) (others_none ds)

-- what is left has each prefix once, and not one that was not declared
pub once_others : (own : List NamespaceDecl) (xml : Bool) (ds : List NamespaceDecl) → PrefixesOnce ds → PrefixesOnce (others own xml ds)
once_others own xml ds h = once_filtered (λ d. not (is_declared d.prefix own || (xml && is_xml d.prefix))) ds h

pub absent_others : (own : List NamespaceDecl) (xml : Bool) (p : Option (List ℕ)) (ds : List NamespaceDecl) → is_declared p ds ≡ false → is_declared p (others own xml ds) ≡ false
absent_others own xml p ds h = filtered_none (λ d. not (is_declared d.prefix own || (xml && is_xml d.prefix))) p ds h

-- `xml` is hidden too
pub others_xml : (own ds : List NamespaceDecl) → unlisted (Some (word_text Xml)) (others own false ds) ≡ others own true ds
others_xml own ds = grind (arith, filter_both)

-- what is declared is not among the others
others_own : (own : List NamespaceDecl) (xml : Bool) (p : Option (List ℕ)) (ds : List NamespaceDecl) → is_declared p own ≡ true → is_declared p (others own xml ds) ≡ false
others_own own xml p [] h = refl
others_own own xml p (d ∷ ds) h = one (is_declared d.prefix own || (xml && is_xml d.prefix)) refl (others_own own xml p ds h)
  where
    apart : (s : Bool) → same_prefix d.prefix p ≡ s → is_declared d.prefix own ≡ false → s ≡ false
    apart true e n = sym (sym n ∙ ap (λ q. is_declared q own) (same_prefix-true d.prefix p e) ∙ h)
    apart false e n = refl

    one : (b : Bool) → (is_declared d.prefix own || (xml && is_xml d.prefix)) ≡ b → is_declared p (others own xml ds) ≡ false → is_declared p (if not b then d ∷ others own xml ds else others own xml ds) ≡ false
    one true e r = r
    one false e r =
        let other : same_prefix d.prefix p ≡ false = apart (same_prefix d.prefix p) refl (or_parts (is_declared d.prefix own) (xml && is_xml d.prefix) e).0 in
        rw other r

once_append : (xs ys : List NamespaceDecl) → PrefixesOnce xs → PrefixesOnce ys → ((p : Option (List ℕ)) → is_declared p xs ≡ true → is_declared p ys ≡ false) → PrefixesOnce (xs ++ ys)
once_append [] ys h k apart = k
once_append (x ∷ xs) ys (n, h) k apart =
    let here : is_declared x.prefix ys ≡ false = apart x.prefix (rw (same_prefix-refl x.prefix) refl) in (
      list_any-append (λ d. same_prefix d.prefix x.prefix) xs ys ∙ rw (n, here) refl,
      once_append xs ys h k (λ p s. apart p (or_right (same_prefix x.prefix p) (is_declared p xs) s)),
    )

-- what an element lists that declares each prefix once
pub once_both : (own : List NamespaceDecl) (xml : Bool) (ds : List NamespaceDecl) → PrefixesOnce own → PrefixesOnce ds → PrefixesOnce (own ++ others own xml ds)
once_both own xml ds h k = once_append own (others own xml ds) h (once_others own xml ds k) (λ p s. others_own own xml p ds s)
