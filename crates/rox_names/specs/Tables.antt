-- The tree that the tables of a document hold.
use Rattle.std.specs.Prelude.{◌≡◌, ◌^◌, ◌<◌, List, length, map}
use Rattle.std.specs.List.{AllByRecursion}
use Rattle.rox_grammar.specs.Forest.{Forest}
use Rattle.rox_grammar.specs.Written.{NamespaceDecl}
use Rattle.rox_grammar.specs.Tree.{Node}
use Rattle.rox_names.specs.declared.tables.Tables.{Tables}
use Rattle.rox_rows.specs.Rows.{node_rows, RowView, preorder_rows, attribute_rows, row_view, NamespaceWithin, KindWithin}
use Rattle.rox_scopes.specs.NamespaceViews.{namespace_view}
use Rattle.rox_scopes.specs.ScopeRows.{lists_of, AreScopes}

-- Each row names only what the tables have.
pub record Sound (t : Tables) : Type 0 where
  pub nodes : AllByRecursion (λ row. KindWithin (length (attribute_rows t.attributes)) (length t.namespaces.items) (length t.scopes.items) row.kind) (node_rows t.nodes)
  pub attributes : AllByRecursion (λ a. NamespaceWithin (length t.namespaces.items) a.0.namespace) (attribute_rows t.attributes)
  pub listed : AllByRecursion (λ i. i < length t.namespaces.items) t.listed.items
  pub scopes : AreScopes (length t.listed.items) t.scopes.items

abbrev pub names_of : Tables → List NamespaceDecl
names_of t = map namespace_view t.namespaces.items

abbrev pub scopes_of : Tables → List (List NamespaceDecl)
scopes_of t = lists_of (names_of t) t.listed.items t.scopes.items

abbrev pub row_views : Tables → List RowView
row_views t = map (row_view (attribute_rows t.attributes) (names_of t) (scopes_of t)) (node_rows t.nodes)

-- The tables hold the tree.
pub record HoldsTree (t : Tables) (tree : Forest Node) : Type 0 where
  pub rows : row_views t ≡ preorder_rows 0 0 tree
  pub sound : Sound t
  pub few : length (node_rows t.nodes) < 2 ^ 32
