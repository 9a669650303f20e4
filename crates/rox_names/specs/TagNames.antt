-- What the functions that resolve the names of a tag require and ensure.
use Rattle.std.specs.Prelude.{◌≡◌, ◌≤◌, ◌∷◌, ◌++◌, [], ℕ, Bool, true, false, List, Option, Result, IfOk, IfErr, IfSome, IfNone, drop, length, map, option_map}
use Rattle.std.specs.List.{AllByRecursion, list_any}
use Rattle.rox_grammar.specs.declared.failure.Failure.{Failure}
use Rattle.rox_grammar.specs.declared.fault.Fault.{Fault}
use Rattle.rox_grammar.specs.declared.fault.Fault.TheVariants as fault
use Rattle.rox_grammar.specs.Failures.{name_view}
use Rattle.rox_grammar.specs.NameParts.{prefix_span}
use Rattle.rox_grammar.specs.Tree.{attribute_in, element_namespace}
use Rattle.rox_grammar.specs.WellNamed.{is_known, may_name}
use Rattle.rox_grammar.specs.Written.{Attribute, Name, NamespaceDecl}
use Rattle.rox_scopes.specs.Bindings.{FindsBinding}
use Rattle.rox_names.specs.ExpandedNames.{HasExpandedNames, Key, TestedOr}
use Rattle.rox_names.specs.ResolvedNames.{AddsNew, IsNamespaceOf, Tested}
use Rattle.rox_seen.specs.SeenNames.{has_expanded, KeepsCodes, PutsSeen, SeesName}
use Rattle.rox_rows.specs.Rows.{AttributeRow, NamespaceWithin, attribute}
use Rattle.rox_grammar.specs.AtIndex.{OptionWithin, namespace_at}
use Rattle.rox_scopes.specs.NamespaceViews.{namespace_view}
use Rattle.rox_rows.specs.StoredAttributes.{data_of}
use Rattle.rox_names.specs.TagDeclarations.{unresolved_view}
use Rattle.rox_scopes.specs.declared.bindings.PrefixBindings.{PrefixBindings}
use Rattle.rox_seen.specs.declared.seen_names.SeenNames.{SeenNames}
use Rattle.rox_names.specs.declared.unresolved_attribute.UnresolvedAttribute.{UnresolvedAttribute}
use Rattle.rox_rows.specs.declared.stored_attribute.StoredAttribute.{StoredAttribute}
use Rattle.rox_rows.specs.declared.row.AttributeData.{AttributeData}
use Rattle.rox_rows.specs.declared.row.AttributeNamespace.{AttributeNamespace}
use Rattle.rox_scopes.specs.declared.namespace.Namespace.{Namespace}

-- The result is the namespace of an attribute's name, or `None` if its prefix is not known.
pub record FindsNamespace (table : List Namespace) (few : Option (List ℕ)) (present : PrefixBindings) (name : Name) (result : Option AttributeNamespace) : Type 0 where
  pub found : IfSome result (IsNamespaceOf table few present name)
  pub unknown : (ds : List NamespaceDecl) → FindsBinding (map namespace_view table) few present ds → IfNone result (is_known ds name ≡ false)

-- The result is the namespace of an attribute whose expanded name none of those before it has; its name is recorded. Otherwise it
-- is the fault.
pub record TestsName (table : List Namespace) (few : Option (List ℕ)) (present : PrefixBindings) (attributes : List StoredAttribute) (old new : SeenNames) (taken : UnresolvedAttribute) (result : Result AttributeNamespace Fault) : Type 0 where
  pub found : IfOk result (IsNamespaceOf table few present (name_view taken.name))
  pub tested : (ds : List NamespaceDecl) (rows : List AttributeRow) (before rest : List Attribute)
      → FindsBinding (map namespace_view table) few present ds → map (λ r. r.0) rows ≡ map data_of attributes
      → map (attribute (map namespace_view table)) rows ≡ map (attribute_in ds) before → Tested ds before (unresolved_view taken) rest result
  pub sees : IfOk result (λ _. SeesName old new taken.name.local.now)
  pub from : new.from ≡ old.from

-- The result is as in `TestsName`, with the expanded names as keys, unless memory ran out.
pub record TestsKey (table : List Namespace) (few : Option (List ℕ)) (present : PrefixBindings) (old new : List Key) (taken : UnresolvedAttribute) (result : Result AttributeNamespace Failure) : Type 0 where
  pub found : IfOk result (IsNamespaceOf table few present (name_view taken.name))
  pub tested : (ds : List NamespaceDecl) (rows : List AttributeRow) (before rest : List Attribute)
      → FindsBinding (map namespace_view table) few present ds → HasExpandedNames (map namespace_view table) old (map (λ r. r.0) rows)
      → map (attribute (map namespace_view table)) rows ≡ map (attribute_in ds) before → TestedOr ds before (unresolved_view taken) rest result
  pub more : IfOk result (λ s. (done : List AttributeData) (a : AttributeData)
      → HasExpandedNames (map namespace_view table) old done → a.namespace ≡ s → a.local ≡ taken.name.local
      → HasExpandedNames (map namespace_view table) new (done ++ a ∷ []))

-- The row is appended and recorded, or it is refused.
pub record PutsNew (namespaces : List NamespaceDecl) (seen after : SeenNames) (rows new : List AttributeRow) (row : AttributeRow) (put : Bool) : Type 0 where
  pub puts : PutsSeen seen after rows new put
  pub added : put ≡ true → AddsNew namespaces seen.from rows new row

-- The attributes of the tag are the last of these rows. Their namespaces, and `one`, are among `namespaces`.
pub record MayRefuse (namespaces : ℕ) (seen : SeenNames) (rows : List AttributeRow) (one : AttributeNamespace) : Type 0 where
  pub from : seen.from ≤ length rows
  pub done : AllByRecursion (λ a. NamespaceWithin namespaces a.0.namespace) (drop seen.from rows)
  pub other : NamespaceWithin namespaces one

-- The result is whether an attribute is refused. If it is not, no attribute of the tag has its expanded name.
pub record TellsRefused (namespaces : List NamespaceDecl) (old new : SeenNames) (rows : List AttributeRow) (space : AttributeNamespace) (local : List ℕ) (result : Bool) : Type 0 where
  pub first : result ≡ false → list_any (λ r. has_expanded namespaces space local r.0) (drop old.from rows) ≡ false
  pub kept : KeepsCodes old new

-- The result is the namespace of an element's name, or the fault that its prefix is not known.
pub record FindsElement (table : List Namespace) (few : Option (List ℕ)) (present : PrefixBindings) (name : Name) (at : ℕ) (result : Result (Option ℕ) Fault) : Type 0 where
  pub within : IfOk result (λ o. OptionWithin (length table) o)
  pub ok : (ds : List NamespaceDecl) → FindsBinding (map namespace_view table) few present ds
      → IfOk result (λ o. (option_map (λ i. (namespace_at (map namespace_view table) i).uri) o ≡ element_namespace ds name) × (may_name ds name ≡ true))
  pub err : (ds : List NamespaceDecl) → FindsBinding (map namespace_view table) few present ds
      → IfErr result (λ f. (f ≡ fault.UnknownNamespace (prefix_span name at) at) × (may_name ds name ≡ false))
