-- Start tags that have one declaration, before their attributes, as an earlier tag below the same namespaces had.
use Rattle.std.specs.Prelude.{◌≡◌, ℕ, ◌<◌, true, false, List, ◌∷◌, Ok, length, map}
use Rattle.rox_grammar.specs.Counts.{has_pair}
use Rattle.rox_grammar.specs.Tree.{is_declared, is_xml}
use Rattle.rox_grammar.specs.Written.{Attribute, NamespaceDecl, is_namespace_decl, namespace_decl_of}
use Rattle.rox_reading.specs.Tags.{uri_tested}
use Rattle.rox_grammar.specs.AtIndex.{namespace_at}
use Rattle.rox_scopes.specs.NamespaceViews.{namespace_view}
use Rattle.rox_names.specs.TagScopes.{scope_in_tables}
use Rattle.rox_names.specs.declared.tables.ElementTables.{ElementTables}
use Rattle.rox_scopes.specs.declared.namespace.Namespace.{Namespace}

-- The places are that of the namespace `d`, and then `around`.
pub record AreOneMore (table : List Namespace) (places : List ℕ) (d : NamespaceDecl) (around : List ℕ) : Type 0 where
  pub first : ℕ
  pub are : places ≡ first ∷ around
  pub within : first < length table
  pub is : namespace_at (map namespace_view table) first ≡ d

-- The scope `n` lists `d`, and then what the scope `above` lists. That does not list its prefix.
pub record IsRepeated (t : ElementTables) (above : ℕ) (d : NamespaceDecl) (n : ℕ) : Type 0 where
  pub within : n < length t.scopes.items
  pub lists : scope_in_tables t n ≡ d ∷ scope_in_tables t above
  pub known : has_pair (map namespace_view t.namespaces.items.items) d ≡ true
  pub absent : is_declared d.prefix (scope_in_tables t above) ≡ false

-- `a` is a declaration, not of `xml`, that passes the tests. The scope `n` is that of a tag that has it and no other.
pub record Repeats (t : ElementTables) (above : ℕ) (a : Attribute) (n : ℕ) : Type 0 where
  pub is : is_namespace_decl a.name ≡ true
  pub tested : uri_tested a ≡ Ok tt
  pub other : is_xml (namespace_decl_of a).prefix ≡ false
  pub scope : IsRepeated t above (namespace_decl_of a) n
