-- The attributes of the tag of a root element, taken before their names are resolved.
use Rattle.std.specs.Prelude.{◌≡◌, ◌≤◌, ℕ, ◌∷◌, [], ◌++◌, Bool, true, false, List, Option, Ok, map, IfSome, IsCharBoundary}
use Rattle.rox_grammar.specs.Failures.{name_view}
use Rattle.rox_grammar.specs.Written.{NamespaceDecl, is_namespace_decl}
use Rattle.rox_reading.specs.Tags.{Values}
use Rattle.rox_rows.specs.Rows.{attribute_rows}
use Rattle.rox_scopes.specs.NamespaceViews.{namespace_view}
use Rattle.rox_names.specs.ResolvedNames.{Resolves}
use Rattle.rox_names.specs.TagDeclarations.{unresolved_view}
use Rattle.rox_names.specs.TagScopes.{scope_in_tables}
use Rattle.rox_names.specs.declared.tables.ElementTables.{ElementTables}
use Rattle.rox_names.specs.declared.unresolved_attribute.UnresolvedAttribute.{UnresolvedAttribute}
use Rattle.rox_attributes.specs.PlainAttribute.{IsPlainAttribute}
use Rattle.rox_tags.specs.TagAttributes.{DeclaresInRoot, ReadsUpTo}
use Rattle.rox_tags.specs.declared.quick_tag.TagEnd.{TagEnd}

-- The attribute from `i` up to `j`, which is not a declaration, was appended to those taken.
pub record TakesPlain (such : Values → Type 0) (src : List ℕ) (i j : ℕ) (old new : List UnresolvedAttribute) : Type 0 where
  pub one : UnresolvedAttribute
  pub plain : IsPlainAttribute such src i one
  pub other : is_namespace_decl (name_view one.name) ≡ false
  pub end : one.end ≡ j
  pub items : new ≡ old ++ one ∷ []

-- The tag of a root element has the attributes `taken` from `start` up to its end at `end`, and its declarations are in the tables.
pub record HasTaken (such : Values → Type 0) (old new : ElementTables) (src : List ℕ) (start end : ℕ) (empty : Bool) (taken : List UnresolvedAttribute) : Type 0 where
  pub own : List NamespaceDecl
  pub declares : DeclaresInRoot old new 1 own
  pub onward : start ≤ end
  pub read : ReadsUpTo such true (map namespace_view old.namespaces.items.items) own (map unresolved_view taken) src start end empty

-- The attributes and declarations of the tag of a root element were read up to its end, if an end is returned.
pub record TakesUpTo (such : Values → Type 0) (old new : ElementTables) (src : List ℕ) (start : ℕ) (taken : List UnresolvedAttribute) (result : Option TagEnd) : Type 0 where
  pub read : IfSome result (λ e. HasTaken such old new src start e.at e.empty taken)
  pub cut : IfSome result (λ e. IsCharBoundary src e.at)
  pub kept : attribute_rows new.attributes ≡ attribute_rows old.attributes

-- The attributes `taken` of a root element are in the table, each with its namespace.
abbrev pub ResolvesTaken : (old new : ElementTables) → List UnresolvedAttribute → Type 0
ResolvesTaken old new taken = Resolves old.namespaces.items.items (scope_in_tables old 1) taken (attribute_rows old.attributes) (attribute_rows new.attributes) (Ok tt)
