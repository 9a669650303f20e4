-- The rows of a tree, and the tree that the tables hold.
use Rattle.std.specs.Prelude.{◌≡◌, true, ℕ, ◌+◌, ◌<◌, ◌≤◌, List, [], ◌∷◌, ◌++◌, Option, Some, None, map, slice_range, option_map}
use Rattle.rox_grammar.specs.Forest.{Forest, Nil, Cons, size}
use Rattle.rox_grammar.specs.Written.{NamespaceDecl}
use Rattle.rox_grammar.specs.Tree as tree
use Rattle.rox_grammar.specs.Tree.{Node, xml_uri}
use Rattle.rox_grammar.specs.AtIndex.{namespace_at, scope_at, OptionWithin}
use Rattle.rox_storage.specs.Storage.{storage_bytes, is_borrowed}
use Rattle.rox_rows.specs.StoredAttributes.{row_in}
use Rattle.rox_rows.specs.declared.row.AttributeNamespace.{AttributeNamespace}
use Rattle.rox_rows.specs.declared.row.AttributeNamespace.TheVariants as space
use Rattle.rox_rows.specs.declared.row.AttributeData.{AttributeData}
use Rattle.rox_rows.specs.declared.row.AttributePlaces.{AttributePlaces}
use Rattle.rox_rows.specs.declared.attributes.AttributeTable.{AttributeTable}
use Rattle.rox_rows.specs.declared.row.NodeKind.{NodeKind}
use Rattle.rox_rows.specs.declared.row.NodeKind.TheVariants as kind
use Rattle.rox_rows.specs.declared.row.NodeData.{NodeData}
use Rattle.rox_rows.specs.StoredNodes.{whole_rows}
use Rattle.rox_rows.specs.declared.node_table.NodeTable.{NodeTable}

-- The rows of the nodes.
abbrev pub node_rows : NodeTable → List NodeData
node_rows t = whole_rows t.instructions.items t.high.items t.rows.items

-- One row: the id of the parent, the id after the last descendant, and the node.
pub record RowView : Type 0 where
  pub parent : ℕ
  pub subtree_end : ℕ
  pub node : Node

-- The rows of siblings and of their descendants, in preorder. Their parent is `parent`, and the first of them has the id `at`.
abbrev pub preorder_rows : ℕ → ℕ → Forest Node → List RowView
preorder_rows parent at Nil = []
preorder_rows parent at (Cons node children rest) =
    record { parent = parent; subtree_end = at + 1 + size children; node = node }
    ∷ (preorder_rows at (at + 1) children ++ preorder_rows parent (at + 1 + size children) rest)

abbrev pub attribute_uri : List NamespaceDecl → AttributeNamespace → Option (List ℕ)
attribute_uri namespaces space.None = None
attribute_uri namespaces space.Xml = Some xml_uri
attribute_uri namespaces (space.Listed i) = Some (namespace_at namespaces i).uri

-- An attribute's row: its content and its offsets.
abbrev pub AttributeRow : Type 0
AttributeRow = AttributeData × AttributePlaces

abbrev pub attribute_rows : AttributeTable → List AttributeRow
attribute_rows t = map (row_in t.explicit.items) t.items.items

abbrev pub attribute : List NamespaceDecl → AttributeRow → tree.Attribute
attribute namespaces a = record {
  start = a.1.start;
  name_end = a.1.name_end;
  value_start = a.1.value_start;
  end = a.1.end;
  namespace = attribute_uri namespaces a.0.namespace;
  local = a.0.local.now;
  value = storage_bytes a.0.value;
  borrowed = is_borrowed a.0.value;
}

-- The index in the table of namespaces that a number of an element's row names: one less, or `None` for 0.
abbrev pub numbered_place : ℕ → Option ℕ
numbered_place Prim.Native.Nat.zero = None
numbered_place (Prim.Native.Nat.suc i) = Some i

-- The node of a row. The tables give its attributes, the namespaces, and the lists of the scopes.
abbrev pub node : List AttributeRow → List NamespaceDecl → List (List NamespaceDecl) → (start end : ℕ) → NodeKind → Node
node attributes namespaces lists start end kind.Root = tree.Root end
node attributes namespaces lists start end (kind.Element e) =
    tree.Element start end (option_map (λ i. (namespace_at namespaces i).uri) (numbered_place e.namespace)) e.local.now (scope_at lists e.scope)
    (map (attribute namespaces) (slice_range attributes e.attributes_from e.attributes_until))
node attributes namespaces lists start end (kind.Text value) = tree.Text start end (storage_bytes value) (is_borrowed value)
node attributes namespaces lists start end (kind.Comment text) = tree.Comment start end (storage_bytes text)
node attributes namespaces lists start end (kind.PI pi) = tree.PI start end pi.target.now (option_map (λ v. v.now) pi.value)

abbrev pub row_view : List AttributeRow → List NamespaceDecl → List (List NamespaceDecl) → NodeData → RowView
row_view attributes namespaces lists row =
    record { parent = row.parent; subtree_end = row.subtree_end; node = node attributes namespaces lists row.start row.end row.kind }

-- The namespace that a row names is in the table, which has `n` namespaces.
abbrev pub NamespaceWithin : ℕ → AttributeNamespace → Type 0
NamespaceWithin n (space.Listed i) = i < n
NamespaceWithin n other = Unit {0}

-- What a row names is in the tables, which have these lengths, and a comment is `Borrowed`.
abbrev pub KindWithin : (attributes namespaces scopes : ℕ) → NodeKind → Type 0
KindWithin attributes namespaces scopes (kind.Element e) =
    (e.attributes_from ≤ e.attributes_until) × (e.attributes_until ≤ attributes) × (e.scope < scopes) × OptionWithin namespaces (numbered_place e.namespace)
KindWithin attributes namespaces scopes (kind.Comment text) = is_borrowed text ≡ true
KindWithin attributes namespaces scopes other = Unit {0}
