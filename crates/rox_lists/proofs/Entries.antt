-- Rows of namespaces and of attributes, and what they name.
use Rattle.std.proofs.Common.{◌≡◌, ℕ, zero, suc, ◌<◌, ◌≤◌, List, [], ◌∷◌, length, get_or, map, ap, arith}
use Rattle.rox_storage.specs.Storage.{storage_bytes}
use Rattle.rox_grammar.specs.AtIndex.{namespace_at}
use Rattle.rox_rows.specs.Rows.{NamespaceWithin}
use Rattle.rox_scopes.specs.NamespaceViews.{namespace_view}
use Rattle.rox_scopes.specs.declared.namespace.Namespace.{Namespace}
use Rattle.rox_rows.specs.declared.row.AttributeNamespace.{AttributeNamespace}
use Rattle.rox_lists.specs.NamespaceBound.{namespace_bound}

-- a namespace's row is the entry of its place
pub entry_is : (ns : List Namespace) (i : ℕ) (x : Namespace) → i < length ns → x ≡ get_or ns i x → namespace_view x ≡ namespace_at (map namespace_view ns) i
entry_is [] i x l e = absurd (omega arith)
entry_is (n ∷ ns) zero x l e = ap namespace_view e
entry_is (n ∷ ns) (suc i) x l e = entry_is ns i x (omega arith) e

pub entry_uri : (ns : List Namespace) (i : ℕ) (x : Namespace) → i < length ns → x ≡ get_or ns i x → storage_bytes x.uri ≡ (namespace_at (map namespace_view ns) i).uri
entry_uri ns i x l e = ap (λ d. d.uri) (entry_is ns i x l e)

-- what is named in a table is within its length
pub reach_within : (n : ℕ) (s : AttributeNamespace) → NamespaceWithin n s → namespace_bound s ≤ n
reach_within n s h = grind arith
