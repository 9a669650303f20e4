-- A scope without the prefixes that a tag declares, and what a tag declares in reverse order.
use Rattle.std.specs.Prelude.{◌≡◌, ℕ, false, List, ◌++◌, Option, None, length, map, drop, reverse}
use Rattle.rox_grammar.specs.Tree.{is_declared}
use Rattle.rox_grammar.specs.Written.{NamespaceDecl}
use Rattle.rox_scopes.specs.NamespaceViews.{namespace_view}
use Rattle.rox_scopes.specs.Bindings.{bound_place}
use Rattle.rox_scopes.specs.Scopes.{entries, places_in, PrefixesOnce}
use Rattle.rox_scopes.specs.Ropes.{IsListed, IsScopeOf}
use Rattle.rox_scopes.specs.declared.hidden.PrefixTables.{PrefixTables}
use Rattle.rox_scopes.specs.declared.stored_scope.Scope.{Scope}

-- The declarations that the scope at the index `i` lists.
abbrev pub listed_by : PrefixTables → List Scope → ℕ → List NamespaceDecl
listed_by t scopes i = entries (map namespace_view t.namespaces.now) (places_in t.listed.now scopes i)

-- Rows may be appended, and the row `scope` lists the declarations `ds`.
abbrev pub AddsRows : PrefixTables → (old new : List Scope) → ℕ → List NamespaceDecl → Type 0
AddsRows t old new scope ds = IsListed (map namespace_view t.namespaces.now) t.listed.now old t.listed.now new scope ds

-- What is listed from `first` on is listed once more, in reverse order. The new row `scope` reads it in the original order.
pub record AddsBack (listed : List ℕ) (scopes : List Scope) (after : List ℕ) (rows : List Scope) (first scope : ℕ) : Type 0 where
  pub value : (namespaces : List NamespaceDecl) → IsListed namespaces listed scopes after rows scope (entries namespaces (drop first listed))
  pub own : after ≡ listed ++ reverse (drop first listed)

-- The scope at the index `i` lists each prefix once, and does not list `prefix` if that has no place.
pub record MayHide (t : PrefixTables) (scopes : List Scope) (i : ℕ) (prefix : Option (List ℕ)) : Type 0 where
  pub scope : IsScopeOf (length t.namespaces.now) t.listed.now scopes i
  pub once : PrefixesOnce (listed_by t scopes i)
  pub absent : bound_place t.present.now prefix ≡ None → is_declared prefix (listed_by t scopes i) ≡ false
