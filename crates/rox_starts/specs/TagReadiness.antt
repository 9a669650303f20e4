-- What is required where a start tag is read.
use Rattle.std.specs.Prelude.{◌<◌, ◌≤◌, ◌^◌, ℕ, length}
use Rattle.rox_grammar.specs.Document.{most_pairs, most_attributes}
use Rattle.rox_rows.specs.Rows.{attribute_rows}
use Rattle.rox_scopes.specs.ScopeRows.{AreScopes}
use Rattle.rox_scopes.specs.Scopes.{ArePlaces, PrefixesOnce}
use Rattle.rox_names.specs.TagScopes.{HasBindings, HasBindingsOf, scope_in_tables}
use Rattle.rox_names.specs.declared.tables.ElementTables.{ElementTables}

-- A start tag whose parent has the scope `scope` may be read into the tables `t`.
pub record MayReadBelow (t : ElementTables) (scope : ℕ) : Type 0 where
  pub places : ArePlaces (length t.namespaces.items.items) t.listed.items
  pub few : length t.namespaces.items.items ≤ most_pairs
  pub few_attributes : length (attribute_rows t.attributes) ≤ most_attributes
  pub scopes : AreScopes (length t.listed.items) t.scopes.items
  pub above : scope < length t.scopes.items
  pub once : PrefixesOnce (scope_in_tables t scope)
  pub kept : HasBindings t

-- The tables have the scope `scope`, and `present` has its bindings. The names of an element at `at` and of its attributes can be
-- resolved in it, and the attributes put into their table.
pub record MayResolve (t : ElementTables) (scope at : ℕ) : Type 0 where
  pub places : ArePlaces (length t.namespaces.items.items) t.listed.items
  pub scopes : AreScopes (length t.listed.items) t.scopes.items
  pub within : scope < length t.scopes.items
  pub present : HasBindingsOf t scope
  pub few : length (attribute_rows t.attributes) ≤ most_attributes
  pub few_names : length t.namespaces.items.items ≤ most_pairs
  pub small : at < 2 ^ 63
