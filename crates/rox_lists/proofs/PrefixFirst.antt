-- The prefix of the first of a URI, from one place of a stretch to the next.
use Rattle.std.proofs.Common.{◌≡◌, ℕ, ◌+◌, ◌<◌, true, false, List, length, get_or, drop, bytes_eq, arith}
use Rattle.std.proofs.lemmas.List.{drop_more}
use Rattle.rox_grammar.specs.Written.{NamespaceDecl}
use Rattle.rox_grammar.specs.AtIndex.{namespace_at}
use Rattle.rox_scopes.specs.Scopes.{entries}
use Rattle.rox_lists.specs.ExpandedNames.{first_prefix}

-- the namespace at a place is of the URI
pub prefix_here : (namespaces : List NamespaceDecl) (places : List ℕ) (k : ℕ) (uri : List ℕ) → k < length places → bytes_eq (namespace_at namespaces (get_or places k 0)).uri uri ≡ true
    → first_prefix uri (entries namespaces (drop k places)) ≡ (namespace_at namespaces (get_or places k 0)).prefix
prefix_here namespaces places k uri l h = grind (arith, drop_more)

-- it is not
pub prefix_next : (namespaces : List NamespaceDecl) (places : List ℕ) (k : ℕ) (uri : List ℕ) → k < length places → bytes_eq (namespace_at namespaces (get_or places k 0)).uri uri ≡ false
    → first_prefix uri (entries namespaces (drop k places)) ≡ first_prefix uri (entries namespaces (drop (k + 1) places))
prefix_next namespaces places k uri l h = grind (arith, drop_more)
