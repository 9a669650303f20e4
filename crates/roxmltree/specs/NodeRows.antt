-- The row of a node, in tables that hold its document's tree.
use Rattle.std.specs.Prelude.{◌≡◌, ℕ, List, Option, Some, None, get_or, refl}
use Rattle.std.specs.Coded.{Coded, Coded-set, code_by, coded×, coded_ℕ, coded_list, coded_bool, Unit-prop, le_prop}
use Rattle.rox_grammar.specs.Forest.{Forest}
use Rattle.rox_grammar.specs.Tree.{Node}
use Rattle.rox_rows.specs.Rows.{RowView, NamespaceWithin, KindWithin}
use Rattle.rox_grammar.specs.AtIndex.{OptionWithin}
use Rattle.rox_names.specs.Tables.{HoldsTree}
use Rattle.rox_scopes.specs.ScopeRows.{IsRow, EndsWithin}
use Rattle.rox_names.specs.declared.tables.Tables.{Tables}
use Rattle.rox_rows.specs.declared.row.AttributeNamespace.{AttributeNamespace}
use Rattle.rox_rows.specs.declared.row.AttributeNamespace.TheVariants as space
use Rattle.rox_rows.specs.declared.row.NodeKind.{NodeKind}
use Rattle.rox_rows.specs.declared.row.NodeKind.TheVariants as kind
use Rattle.rox_scopes.specs.declared.stored_scope.Scope.{Scope}
use Rattle.rox_scopes.specs.declared.stored_scope.Scope.TheVariants as scope
use Rattle.rox_rows.specs.declared.stored_node.StoredNode.{StoredNode}
use Rattle.roxmltree.specs.TreeCodes.{node_code}
use Rattle.std.proofs.Props.{props}

-- The tables hold this tree, and the row is that of the node of this id.
pub record IsRowOf (tables : Tables) (tree : Forest Node) (id : ℕ) (row : StoredNode) : Type 0 where
  pub holds : HoldsTree tables tree
  pub here : row ≡ get_or tables.nodes.rows.items id row

-- A code of rows, by which they are compared.
abbrev row_view_code : Coded RowView
row_view_code =
    code_by (ℕ × (ℕ × Node)) (coded× coded_ℕ (coded× coded_ℕ node_code))
    (λ r. (r.parent, (r.subtree_end, r.node))) (λ p. record { parent = p.0; subtree_end = p.1.0; node = p.1.1 }) (λ _. refl)

views-prop : (xs ys : List RowView) → IsProp (xs ≡ ys)
views-prop xs ys = Coded-set (coded_list row_view_code) xs ys

NamespaceWithin-prop : (n : ℕ) (s : AttributeNamespace) → IsProp (NamespaceWithin n s)
NamespaceWithin-prop n space.None = Unit-prop
NamespaceWithin-prop n space.Xml = Unit-prop
NamespaceWithin-prop n (space.Listed i) = le_prop

OptionWithin-prop : (n : ℕ) (o : Option ℕ) → IsProp (OptionWithin n o)
OptionWithin-prop n None = Unit-prop
OptionWithin-prop n (Some i) = le_prop

KindWithin-prop : (attributes namespaces scopes : ℕ) (k : NodeKind) → IsProp (KindWithin attributes namespaces scopes k)
KindWithin-prop attributes namespaces scopes kind.Root = Unit-prop
KindWithin-prop attributes namespaces scopes (kind.Element e) = Prim.hlevel (OptionWithin-prop, le_prop)
KindWithin-prop attributes namespaces scopes (kind.Text text) = Unit-prop
KindWithin-prop attributes namespaces scopes (kind.Comment text) = Coded-set coded_bool _ _
KindWithin-prop attributes namespaces scopes (kind.PI pi) = Unit-prop

EndsWithin-prop : (listed : ℕ) (s : Scope) → IsProp (EndsWithin listed s)
EndsWithin-prop listed (scope.Few s) = le_prop
EndsWithin-prop listed (scope.Back s) = le_prop
EndsWithin-prop listed (scope.Concat b) = Unit-prop

same_number-prop : (m n : ℕ) → IsProp (m ≡ n)
same_number-prop m n = Coded-set coded_ℕ m n

IsRow-prop : (scopes : List Scope) (i : ℕ) (s : Scope) → IsProp (IsRow scopes i s)
IsRow-prop scopes i (scope.Few s) = le_prop
IsRow-prop scopes i (scope.Back s) = le_prop
IsRow-prop scopes i (scope.Concat b) = Prim.hlevel (le_prop, same_number-prop)

-- There is one proof at most, which a ghost field needs. It has a name, so that types of nodes stay small.
pub IsRowOf-prop : (tables : Tables) (tree : Forest Node) (id : ℕ) (row : StoredNode) → IsProp (IsRowOf tables tree id row)
IsRowOf-prop tables tree id row = Prim.hlevel (views-prop, NamespaceWithin-prop, KindWithin-prop, EndsWithin-prop, IsRow-prop, props)
