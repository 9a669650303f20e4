-- A set of expanded names.
use Rattle.std.proofs.Common.{◌≡◌, ℕ, ◌||◌, ◌&&◌, Bool, false, List, [], ◌∷◌, refl, sym, ap, ◌∙◌, Option, Some, None, Bor, bytes_eq, ◌++◌, map, drop, length, subst, arith}
use Rattle.std.specs.List.{list_any}
use Rattle.std.specs.declared.cmp.Ordering.{Ordering}
use Rattle.std.specs.Ordering.{is_eq, match_ordering, nat_cmp, ordering_then}
use Rattle.std.specs.Option.{option_cmp}
use Rattle.std.specs.Cmp.{both_tied}
use Rattle.std.specs.Cmp.Lexicographic.{slice_cmp, texts_ties}
use Rattle.std.specs.BTreeMap.{is_at}
use Rattle.std.specs.BTreeSet.{insert_key}
use Rattle.rox_grammar.specs.Tree.{same_prefix}
use Rattle.rox_scopes.specs.Scopes.{prefix_view}
use Rattle.rox_scopes.proofs.Listing.{same_prefix-sym}
use Rattle.rox_names.specs.ExpandedNames.{Key, is_key, has_key, HasExpandedNames}
use Rattle.std.proofs.Math.ListN.{drop_of_length-le}
use Rattle.std.proofs.Math.Seq.{drop-append_seam}
use Rattle.std.proofs.lemmas.List.{append_assoc, map-append}
use Rattle.std.proofs.lemmas.List.Folds.{list_any-append}
use mathlib.Core.Bool.{and_comm, or_comm}
use Rattle.std.proofs.lemmas.Bool.{or_parts}
use Rattle.rox_grammar.specs.Written.{NamespaceDecl}
use Rattle.rox_rows.specs.Rows.{attribute_uri, AttributeRow}
use Rattle.rox_seen.specs.SeenNames.{has_expanded}
use Rattle.rox_rows.specs.declared.row.AttributeNamespace.{AttributeNamespace}
use Rattle.rox_rows.specs.declared.row.AttributeData.{AttributeData}

-- the order of keys
abbrev pub key_cmp : Key → Key → Ordering
key_cmp x y = ordering_then (slice_cmp nat_cmp x.0.now y.0.now) (option_cmp (λ a b. slice_cmp nat_cmp a.now b.now) x.1 y.1)

uri_ties : (p q : Option (Bor (List ℕ))) → same_prefix (prefix_view p) (prefix_view q) ≡ is_eq (option_cmp (λ a b. slice_cmp nat_cmp a.now b.now) p q)
uri_ties None None = refl
uri_ties None (Some q) = refl
uri_ties (Some p) None = refl
uri_ties (Some p) (Some q) = texts_ties p.now q.now

key_ties : (k x : Key) → is_key k.0.now (prefix_view k.1) x ≡ is_at (key_cmp k) x
key_ties k x =
    ap (λ b. b && bytes_eq x.0.now k.0.now) (same_prefix-sym (prefix_view x.1) (prefix_view k.1))
    ∙ ap (λ b. same_prefix (prefix_view k.1) (prefix_view x.1) && b) (same_prefix-sym (Some x.0.now) (Some k.0.now))
    ∙ and_comm (same_prefix (prefix_view k.1) (prefix_view x.1)) (bytes_eq k.0.now x.0.now) ∙ both_tied _ _ _ _ (texts_ties k.0.now x.0.now) (uri_ties k.1 x.1)

-- whether a set has a key
pub has_is : (ks : List Key) (k : Key) → has_key k.0.now (prefix_view k.1) ks ≡ list_any (is_at (key_cmp k)) ks
has_is ks k = grind (arith, key_ties)

one_more : {K : Type 0} (cmp : K → K → Ordering) (P : K → Bool) (xs : List K) (x k : K) (o : Ordering) → o ≡ cmp k x → is_eq (cmp k x) ≡ false
    → list_any P (insert_key cmp xs k) ≡ (list_any P xs || P k)
    → list_any P (match_ordering o (k ∷ x ∷ xs) (x ∷ xs) (x ∷ insert_key cmp xs k)) ≡ ((P x || list_any P xs) || P k)
one_more cmp P xs x k o is apart more = grind arith

-- what some key of a set passes that has one more
pub any_inserted : {K : Type 0} (cmp : K → K → Ordering) (P : K → Bool) (ks : List K) (k : K) → list_any (is_at (cmp k)) ks ≡ false
    → list_any P (insert_key cmp ks k) ≡ (list_any P ks || P k)
any_inserted cmp P [] k h = or_comm (P k) false
any_inserted cmp P (x ∷ xs) k h = one_more cmp P xs x k (cmp k x) refl (or_parts _ _ h).0 (any_inserted cmp P xs k (or_parts _ _ h).1)

-- no attribute, no key
pub sees_none : (namespaces : List NamespaceDecl) (keys : List Key) → keys ≡ [] → HasExpandedNames namespaces keys []
unfolding HasExpandedNames
sees_none namespaces keys e = λ local uri. ap (has_key local uri) e

-- what a set answers of a name
pub sees_is : (namespaces : List NamespaceDecl) (keys : List Key) (done : List AttributeData) (s : AttributeNamespace) (local : List ℕ) (uri : Option (List ℕ)) → HasExpandedNames namespaces keys done → uri ≡ attribute_uri namespaces s
    → has_key local uri keys ≡ list_any (has_expanded namespaces s local) done
unfolding HasExpandedNames
sees_is namespaces keys done s local uri h is = h local uri ∙ ap (λ (u : Option (List ℕ)). list_any (λ a. same_prefix (attribute_uri namespaces a.namespace) u && bytes_eq a.local.now local) done) is

-- one more
pub sees_more : (namespaces : List NamespaceDecl) (keys more : List Key) (done : List AttributeData) (a : AttributeData) (k : Key) → HasExpandedNames namespaces keys done
    → ((l : List ℕ) (u : Option (List ℕ)) → has_key l u more ≡ (has_key l u keys || is_key l u k))
    → prefix_view k.1 ≡ attribute_uri namespaces a.namespace → k.0.now ≡ a.local.now
    → HasExpandedNames namespaces more (done ++ a ∷ [])
unfolding HasExpandedNames
sees_more namespaces keys more done a k h grown uri local = λ l u.
    let test : AttributeData → Bool = λ b. same_prefix (attribute_uri namespaces b.namespace) u && bytes_eq b.local.now l in
    grown l u ∙ ap (λ b. b || is_key l u k) (h l u)
    ∙ ap (λ b. list_any test done || b) (ap (λ v. same_prefix v u && bytes_eq k.0.now l) uri ∙ ap (λ v. same_prefix (attribute_uri namespaces a.namespace) u && bytes_eq v l) local ∙ sym (or_comm (test a) false ∙ refl))
    ∙ sym (list_any-append test done (a ∷ []))

-- ---- the rows behind those of other tags

abbrev pub data_of : (old table : List AttributeRow) → List AttributeData
data_of old table = map (λ (r : AttributeRow). r.0) (drop (length old) table)

pub sees_start : (namespaces : List NamespaceDecl) (keys : List Key) (old : List AttributeRow) → keys ≡ [] → HasExpandedNames namespaces keys (data_of old old)
sees_start namespaces keys old e =
    subst (HasExpandedNames namespaces keys) (ap (map (λ (r : AttributeRow). r.0)) (sym (drop_of_length-le old (omega arith)))) (sees_none namespaces keys e)

pub sees_next : (namespaces : List NamespaceDecl) (keys more : List Key) (old done : List AttributeRow) (table new : List AttributeRow) (row : AttributeRow)
    → table ≡ old ++ done → new ≡ table ++ row ∷ [] → HasExpandedNames namespaces keys (data_of old table)
    → (HasExpandedNames namespaces keys (data_of old table) → HasExpandedNames namespaces more (data_of old table ++ row.0 ∷ []))
    → HasExpandedNames namespaces more (data_of old new)
sees_next namespaces keys more old done table new row is grown h step = grind (arith, drop-append_seam, append_assoc, map-append)
