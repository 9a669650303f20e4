-- What the iterators of an element's attributes and namespaces have left.
use Rattle.std.specs.Prelude.{ℕ, ◌<◌, ◌≤◌, List, map, length, slice_range}
use Rattle.std.specs.Coded.{Coded, coded_list}
use Rattle.std.specs.List.{AllByRecursion}
use Rattle.rox_grammar.specs.Written.{NamespaceDecl}
use Rattle.rox_grammar.specs.Tree as tree
use Rattle.rox_rows.specs.Rows.{attribute}
use Rattle.rox_grammar.specs.AtIndex.{namespace_at}
use Rattle.rox_scopes.specs.ScopeRows.{AreScopes}
use Rattle.rox_scopes.specs.NamespaceViews.{namespace_view}
use Rattle.rox_scopes.specs.Scopes.{places_in, ArePlaces}
use Rattle.rox_rows.specs.StoredAttributes.{data_of, row_in, place_bound}
use Rattle.rox_lists.specs.NamespaceBound.{namespace_bound}
use Rattle.rox_lists.specs.ListCodes.{attribute_code, namespace_decl_code}
pub use Rattle.rox_lists.specs.AttributeView.{attribute_of}
use Rattle.rox_lists.specs.declared.attributes.Attributes.TheInside as attributes
use Rattle.rox_lists.specs.declared.namespaces.NamespaceIter.TheInside as namespaces

abbrev pub attributes_code : Coded (List tree.Attribute)
attributes_code = coded_list attribute_code

abbrev pub namespace_decls_code : Coded (List NamespaceDecl)
namespace_decls_code = coded_list namespace_decl_code

-- The attributes that are left.
abbrev pub attributes_left : attributes.Inside → List tree.Attribute
attributes_left a = map (attribute (map namespace_view a.tables.now.namespaces.items)) (map (row_in a.tables.now.attributes.explicit.items) a.rest.now)

-- Each row that is left names only a namespace and explicit offsets that the tables have.
pub record AttributesWithin (a : attributes.Inside) : Type 0 where
  pub within : AllByRecursion (λ r. namespace_bound (data_of r).namespace ≤ length a.tables.now.namespaces.items) a.rest.now
  pub placed : AllByRecursion (λ r. place_bound r ≤ length a.tables.now.attributes.explicit.items) a.rest.now

-- The places that are left of those that the scope lists.
abbrev pub places_left : namespaces.Inside → List ℕ
places_left n = slice_range (places_in n.listed.now n.scopes.now n.scope) n.from n.until

abbrev pub namespaces_left : namespaces.Inside → List NamespaceDecl
namespaces_left n = map (namespace_at (map namespace_view n.namespaces.now)) (places_left n)

-- What is left is a stretch of what the scope lists, and each listed place is in the table of namespaces.
pub record NamespacesWithin (n : namespaces.Inside) : Type 0 where
  pub ordered : n.from ≤ n.until
  pub within : n.until ≤ length (places_in n.listed.now n.scopes.now n.scope)
  pub is_row : n.from < n.until → n.scope < length n.scopes.now
  pub scopes : AreScopes (length n.listed.now) n.scopes.now
  pub each : ArePlaces (length n.namespaces.now) n.listed.now
