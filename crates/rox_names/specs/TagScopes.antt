-- The scope of an element, in the tables.
use Rattle.std.specs.Prelude.{◌≡◌, ℕ, ◌<◌, ◌≤◌, Bool, false, List, ◌++◌, Option, length, map, drop, slice_index_or}
use Rattle.std.specs.Borrow.{Bor}
use Rattle.rox_grammar.specs.Written.{NamespaceDecl}
use Rattle.rox_grammar.specs.AtIndex.{scope_at}
use Rattle.rox_scopes.specs.ScopeRows.{lists_of, AreScopes}
use Rattle.rox_scopes.specs.NamespaceViews.{namespace_view}
use Rattle.rox_scopes.specs.Bindings.{AreBindingsOf, IsBound, bound_place}
use Rattle.rox_scopes.specs.Scopes.{entries, ArePlaces, PrefixesOnce, others, is_few_at}
use Rattle.rox_scopes.specs.PrefixSet.{IsPrefixSet}
use Rattle.rox_names.specs.declared.tables.ElementTables.{ElementTables}
use Rattle.rox_scopes.specs.declared.stored_scope.Scope.TheVariants as row
use Rattle.rox_scopes.specs.declared.stored_scope.Stretch.{Stretch}

-- The declarations that each scope lists.
abbrev pub lists_in : ElementTables → List (List NamespaceDecl)
lists_in t = lists_of (map namespace_view t.namespaces.items.items) t.listed.items t.scopes.items

-- The bindings of prefixes are those of scopes in these tables.
abbrev pub HasBindings : ElementTables → Type 0
HasBindings t = AreBindingsOf (map namespace_view t.namespaces.items.items) (lists_in t) t.present

-- The bindings of prefixes are those of what this scope lists, unless it lists few.
unfoldable pub HasBindingsOf : ElementTables → ℕ → Type 0
HasBindingsOf t scope = is_few_at t.scopes.items scope ≡ false → IsBound (map namespace_view t.namespaces.items.items) (bound_place t.present) (scope_at (lists_in t) scope)

-- A start tag is read whose parent has the scope `above`. What it declares is listed from `own` on, each prefix once.
pub record HasOpenTag (t : ElementTables) (above own : ℕ) : Type 0 where
  pub places : ArePlaces (length t.namespaces.items.items) t.listed.items
  pub own_within : own ≤ length t.listed.items
  pub scopes : AreScopes own t.scopes.items
  pub above_within : above < length t.scopes.items
  pub once : PrefixesOnce (scope_at (lists_in t) above)
  pub own_once : PrefixesOnce (entries (map namespace_view t.namespaces.items.items) (drop own t.listed.items))
  pub kept : HasBindings t

-- A start tag is read as in `HasOpenTag`, and the keys are its prefixes if there are more than 16.
pub record HasTagPrefixes (t : ElementTables) (keys : List (Option (Bor (List ℕ)))) (above own : ℕ) : Type 0 where
  pub tag : HasOpenTag t above own
  pub prefix_set : IsPrefixSet (map namespace_view t.namespaces.items.items) (drop own t.listed.items) keys

-- The scope `scope` is that of an element whose parent has the scope `above`. Its declarations are those listed from `own` on,
-- and `xml` if the flag is true.
pub record HasScope (old new : ElementTables) (above own : ℕ) (xml : Bool) (scope : ℕ) : Type 0 where
  pub namespaces : new.namespaces ≡ old.namespaces
  pub attributes : new.attributes ≡ old.attributes
  pub more : List (List NamespaceDecl)
  pub lists_more : lists_in new ≡ lists_in old ++ more
  pub places : ArePlaces (length new.namespaces.items.items) new.listed.items
  pub scopes : AreScopes (length new.listed.items) new.scopes.items
  pub within : scope < length new.scopes.items
  pub lists : scope_at (lists_in new) scope
      ≡ entries (map namespace_view old.namespaces.items.items) (drop own old.listed.items)
      ++ others (entries (map namespace_view old.namespaces.items.items) (drop own old.listed.items)) xml (scope_at (lists_in old) above)
  pub once : PrefixesOnce (scope_at (lists_in new) scope)
  pub kept : HasBindings new
  pub present : HasBindingsOf new scope

-- The scope `above` is the stretch `stretch` of few.
pub record HasFewAbove (t : ElementTables) (keys : List (Option (Bor (List ℕ)))) (above own : ℕ) (stretch : Stretch) : Type 0 where
  pub prefixes : HasTagPrefixes t keys above own
  pub few : row.Few stretch ≡ slice_index_or t.scopes.items above (row.Few stretch)

-- The namespaces that the scope at the index `i` lists.
abbrev pub scope_in_tables : ElementTables → ℕ → List NamespaceDecl
scope_in_tables t i = scope_at (lists_in t) i
