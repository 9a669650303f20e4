-- The table of pairs.
use Rattle.std.proofs.Common.{◌≡◌, ℕ, zero, suc, ◌+◌, ◌<◌, ◌||◌, Bool, true, false, cond, List, [], ◌∷◌, ◌++◌, length, map, take, drop, get_or, drop-cons, is_some, refl, ap, ◌∙◌, arith, Option, Some, None, inl, inr}
use Rattle.std.proofs.lemmas.Bool.{cases_Bool}
use Rattle.std.proofs.lemmas.List.{take_more, map-append, take-append-drop}
use Rattle.rox_grammar.specs.Written.{NamespaceDecl}
use Rattle.rox_grammar.specs.Tree.{same_prefix, is_declared, uri_of}
pub use Rattle.rox_grammar.proofs.PairLemmas.{same_prefix-true, same_prefix-refl}
use Rattle.rox_scopes.specs.declared.namespace.Namespace.{Namespace}
use Rattle.rox_grammar.specs.AtIndex.{namespace_at}
use Rattle.rox_scopes.specs.NamespaceViews.{namespace_view}
use Rattle.rox_scopes.specs.Scopes.{entries, ArePlaces}

-- the entry of a row of the table
pub namespace_at-get : (rows : List Namespace) (i : ℕ) (d : Namespace) → i < length rows → namespace_at (map namespace_view rows) i ≡ namespace_view (get_or rows i d)
namespace_at-get [] i d h = absurd (omega arith)
namespace_at-get (r ∷ rows) zero d h = refl
namespace_at-get (r ∷ rows) (suc i) d h = namespace_at-get rows i d (omega arith)

-- ---- look-ups in a scope

pub place_at : (n : ℕ) (places : List ℕ) (k d : ℕ) → ArePlaces n places → k < length places → get_or places k d < n
place_at n [] k d h lt = absurd (omega arith)
place_at n (p ∷ ps) zero d (a, h) lt = a
place_at n (p ∷ ps) (suc k) d (a, h) lt = place_at n ps k d h (omega arith)

pub uri_of-append : (xs ys : List NamespaceDecl) (p : Option (List ℕ)) → uri_of xs p ≡ None → uri_of (xs ++ ys) p ≡ uri_of ys p
uri_of-append [] ys p h = refl
uri_of-append (x ∷ xs) ys p h =
    elim (cases_Bool (same_prefix x.prefix p)) [ inl here ↦ cc (rw here at h) | inr other ↦ rw other (uri_of-append xs ys p (rw other at h)) ]

-- the first of those from i on, where those before have another prefix
pub uri_here : (namespaces : List NamespaceDecl) (places : List ℕ) (i d : ℕ) (p : Option (List ℕ)) → i < length places → uri_of (entries namespaces (take i places)) p ≡ None
    → same_prefix (namespace_at namespaces (get_or places i d)).prefix p ≡ true → uri_of (entries namespaces places) p ≡ Some (namespace_at namespaces (get_or places i d)).uri
uri_here namespaces places i d p lt none same =
    let parts : places ≡ take i places ++ get_or places i d ∷ drop (i + 1) places = grind (arith, take-append-drop, drop-cons) in
    let m : entries namespaces places ≡ entries namespaces (take i places) ++ (namespace_at namespaces (get_or places i d) ∷ entries namespaces (drop (i + 1) places)) = grind (arith, map-append) in
    grind (arith, uri_of-append)

pub uri_none_more : (namespaces : List NamespaceDecl) (places : List ℕ) (i d : ℕ) (p : Option (List ℕ)) → i < length places → uri_of (entries namespaces (take i places)) p ≡ None
    → same_prefix (namespace_at namespaces (get_or places i d)).prefix p ≡ false → uri_of (entries namespaces (take (i + 1) places)) p ≡ None
uri_none_more namespaces places i d p lt none other =
    let m : entries namespaces (take (i + 1) places) ≡ entries namespaces (take i places) ++ namespace_at namespaces (get_or places i d) ∷ [] =
    ap (entries namespaces) (take_more places i d lt) ∙ map-append (namespace_at namespaces) (take i places) (get_or places i d ∷ []) in
    ap (λ xs. uri_of xs p) m ∙ uri_of-append (entries namespaces (take i places)) (namespace_at namespaces (get_or places i d) ∷ []) p none ∙ rw other refl

-- a prefix is declared exactly where it has a URI
pub declared-uri : (ds : List NamespaceDecl) (p : Option (List ℕ)) → is_declared p ds ≡ is_some (uri_of ds p)
declared-uri [] p = refl
declared-uri (d ∷ ds) p = by_cases (same_prefix d.prefix p) (declared-uri ds p)
  where
    by_cases : (b : Bool) → is_declared p ds ≡ is_some (uri_of ds p) → (b || is_declared p ds) ≡ is_some (cond b (Some d.uri) (uri_of ds p))
    by_cases true h = refl
    by_cases false h = h

pub declared_some : (ds : List NamespaceDecl) (p : Option (List ℕ)) (u : List ℕ) → uri_of ds p ≡ Some u → is_declared p ds ≡ true
declared_some ds p u h = declared-uri ds p ∙ ap is_some h

pub declared_none : (ds : List NamespaceDecl) (p : Option (List ℕ)) → uri_of ds p ≡ None → is_declared p ds ≡ false
declared_none ds p h = declared-uri ds p ∙ ap is_some h
