-- The first namespace of a prefix: in two lists, the one behind the other, and from one place of a stretch to the next.
use Rattle.std.proofs.Common.{◌≡◌, ℕ, ◌+◌, ◌<◌, Bool, true, false, cond, List, [], ◌∷◌, ◌++◌, length, get_or, drop, Option, Some, None, refl, option_map, arith}
use Rattle.std.proofs.lemmas.List.{drop_more}
use Rattle.rox_grammar.specs.Written.{NamespaceDecl}
use Rattle.rox_grammar.specs.Tree.{same_prefix, uri_of}
use Rattle.rox_grammar.specs.AtIndex.{namespace_at}
use Rattle.rox_scopes.specs.Scopes.{entries}
use Rattle.rox_lists.specs.ExpandedNames.{first_with_prefix}

-- what is first in the first list is first in both
pub first_front : (xs ys : List NamespaceDecl) (p : Option (List ℕ)) (d : NamespaceDecl) → Some d ≡ first_with_prefix p xs → Some d ≡ first_with_prefix p (xs ++ ys)
first_front [] ys p d h = cc h
first_front (x ∷ xs) ys p d h = chosen (same_prefix x.prefix p) h (first_front xs ys p d)
  where
    chosen : (b : Bool) → Some d ≡ cond b (Some x) (first_with_prefix p xs) → (Some d ≡ first_with_prefix p xs → Some d ≡ first_with_prefix p (xs ++ ys)) → Some d ≡ cond b (Some x) (first_with_prefix p (xs ++ ys))
    chosen true h more = h
    chosen false h more = more h

-- if the first list has none, it is the first of the second
pub first_behind : (xs ys : List NamespaceDecl) (p : Option (List ℕ)) → None ≡ first_with_prefix p xs → first_with_prefix p (xs ++ ys) ≡ first_with_prefix p ys
first_behind [] ys p h = refl
first_behind (x ∷ xs) ys p h = chosen (same_prefix x.prefix p) h (first_behind xs ys p)
  where
    chosen : (b : Bool) → None ≡ cond b (Some x) (first_with_prefix p xs) → (None ≡ first_with_prefix p xs → first_with_prefix p (xs ++ ys) ≡ first_with_prefix p ys) → cond b (Some x) (first_with_prefix p (xs ++ ys)) ≡ first_with_prefix p ys
    chosen true h more = cc h
    chosen false h more = more h

-- the namespace at a place has the prefix
pub first_here : (namespaces : List NamespaceDecl) (places : List ℕ) (k : ℕ) (p : Option (List ℕ)) → k < length places → same_prefix (namespace_at namespaces (get_or places k 0)).prefix p ≡ true
    → first_with_prefix p (entries namespaces (drop k places)) ≡ Some (namespace_at namespaces (get_or places k 0))
first_here namespaces places k p l h = grind (arith, drop_more)

-- it does not
pub first_next : (namespaces : List NamespaceDecl) (places : List ℕ) (k : ℕ) (p : Option (List ℕ)) → k < length places → same_prefix (namespace_at namespaces (get_or places k 0)).prefix p ≡ false
    → first_with_prefix p (entries namespaces (drop k places)) ≡ first_with_prefix p (entries namespaces (drop (k + 1) places))
first_next namespaces places k p l h = grind (arith, drop_more)

-- its URI is the one that is listed for the prefix
pub uri_of_first : (ds : List NamespaceDecl) (p : Option (List ℕ)) → option_map (λ d. d.uri) (first_with_prefix p ds) ≡ uri_of ds p
uri_of_first [] p = refl
uri_of_first (d ∷ ds) p = chosen (same_prefix d.prefix p) (uri_of_first ds p)
  where
    chosen : (b : Bool) → option_map (λ e. e.uri) (first_with_prefix p ds) ≡ uri_of ds p → option_map (λ e. e.uri) (cond b (Some d) (first_with_prefix p ds)) ≡ cond b (Some d.uri) (uri_of ds p)
    chosen true h = refl
    chosen false h = h
