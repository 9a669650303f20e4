-- An attribute as callers see it.
use Rattle.std.specs.Prelude.{map}
use Rattle.rox_grammar.specs.Tree as tree
use Rattle.rox_rows.specs.Rows.{attribute}
use Rattle.rox_scopes.specs.NamespaceViews.{namespace_view}
use Rattle.rox_rows.specs.StoredAttributes.{row_in}
use Rattle.rox_lists.specs.declared.attributes.Attribute.{Attribute}

-- The attribute of the tree that an `Attribute` is.
abbrev pub attribute_of : Attribute → tree.Attribute
attribute_of a = attribute (map namespace_view a.tables.now.namespaces.items) (row_in a.tables.now.attributes.explicit.items a.row.now)
