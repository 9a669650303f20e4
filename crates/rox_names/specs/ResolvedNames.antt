-- The names of a tag in a scope, one by one.
use Rattle.std.specs.Prelude.{◌≡◌, ◌∷◌, ◌++◌, [], ℕ, true, false, List, Option, Result, Ok, Err, drop, length, map}
use Rattle.std.specs.List.{AllByRecursion, list_any}
use Rattle.rox_grammar.specs.declared.failure.Failure.{Failure}
use Rattle.rox_grammar.specs.declared.fault.Fault.{Fault}
use Rattle.rox_grammar.specs.Written.{Attribute, Name, NamespaceDecl}
use Rattle.rox_grammar.specs.WellNamed.{is_known}
use Rattle.rox_grammar.specs.Tree.{attribute_namespace, attribute_in}
use Rattle.rox_grammar.specs.Failures.{Fails, name_view}
use Rattle.rox_scopes.specs.Bindings.{FindsBinding}
use Rattle.rox_names.specs.TagDeclarations.{unresolved_view}
use Rattle.rox_seen.specs.SeenNames.{has_expanded}
use Rattle.rox_scopes.specs.declared.bindings.PrefixBindings.{PrefixBindings}
use Rattle.rox_reading.specs.Tags.{names_tested}
use Rattle.rox_rows.specs.Rows.{AttributeRow, NamespaceWithin, attribute, attribute_uri}
use Rattle.rox_scopes.specs.NamespaceViews.{namespace_view}
use Rattle.rox_scopes.specs.declared.namespace.Namespace.{Namespace}
use Rattle.rox_names.specs.declared.unresolved_attribute.UnresolvedAttribute.{UnresolvedAttribute}
use Rattle.rox_names.specs.declared.unresolved_attribute.CompactAttribute.{CompactAttribute}
use Rattle.rox_storage.specs.declared.storage.StringStorage.TheVariants.{Borrowed}
use Rattle.rox_rows.specs.CompactPlaces.{compact_places}
use Rattle.rox_rows.specs.declared.row.AttributeNamespace.{AttributeNamespace}

-- The row of an attribute that was read, with the namespace `s`.
abbrev pub row_of_unresolved : UnresolvedAttribute → AttributeNamespace → AttributeRow
row_of_unresolved t s = (
  record { local = t.name.local; value = t.value; namespace = s },
  record { start = t.start; name_end = t.name_end; value_start = t.value_start; end = t.end },
)

-- The row of an attribute that is written as most are, with the namespace `s`.
abbrev pub row_of_compact : CompactAttribute → AttributeNamespace → AttributeRow
row_of_compact t s = (
  record { local = t.local; value = Borrowed t.value; namespace = s },
  compact_places t.start t.before (length t.local.now) (length t.value.now),
)

-- What the test of one name says about the test of all. If it passes, the rest is tested with `a` among the names before.
-- Otherwise its fault is that of the whole test.
abbrev pub Tested : List NamespaceDecl → List Attribute → Attribute → List Attribute → Result AttributeNamespace Fault → Type 0
Tested scope before a rest (Ok s) = names_tested scope before (a ∷ rest) ≡ names_tested scope (before ++ a ∷ []) rest
Tested scope before a rest (Err f) = names_tested scope before (a ∷ rest) ≡ Err f

-- An attribute with the name `name` has the namespace `s`, and its prefix is known.
pub record IsNamespaceOf (table : List Namespace) (few : Option (List ℕ)) (present : PrefixBindings) (name : Name) (s : AttributeNamespace) : Type 0 where
  pub within : NamespaceWithin (length table) s
  pub there : (scope : List NamespaceDecl) → FindsBinding (map namespace_view table) few present scope → attribute_uri (map namespace_view table) s ≡ attribute_namespace scope name
  pub known : (scope : List NamespaceDecl) → FindsBinding (map namespace_view table) few present scope → is_known scope name ≡ true

-- What is returned for the attributes of a tag in a scope. If it is `Ok`, their names pass the test, and their rows are appended,
-- each with its namespace. Otherwise it is the fault, unless memory ran out.
abbrev pub Resolves : (table : List Namespace) (scope : List NamespaceDecl) → List UnresolvedAttribute → (old new : List AttributeRow) → Result (Unit {0}) Failure → Type 0
Resolves table scope taken old new (Ok done) = (names_tested scope [] (map unresolved_view taken) ≡ Ok tt)
    × ((more : List AttributeRow) × (new ≡ old ++ more) × (map (attribute (map namespace_view table)) more ≡ map (attribute_in scope) (map unresolved_view taken))
    × AllByRecursion (λ a. NamespaceWithin (length table) a.0.namespace) more)
Resolves table scope taken old new (Err e) = Fails e (names_tested scope [] (map unresolved_view taken))

-- The row is appended. The rows of its tag begin at `from`, and none of them has its expanded name.
pub record AddsNew (namespaces : List NamespaceDecl) (from : ℕ) (old new : List AttributeRow) (row : AttributeRow) : Type 0 where
  pub rows : new ≡ old ++ row ∷ []
  pub first : list_any (λ r. has_expanded namespaces row.0.namespace row.0.local.now r.0) (drop from old) ≡ false

-- An attribute is appended with its namespace. The rows of its tag begin at `from`.
pub record AddsResolved (namespaces : List NamespaceDecl) (few : Option (List ℕ)) (present : PrefixBindings) (from : ℕ) (old new : List AttributeRow) (one : UnresolvedAttribute) : Type 0 where
  pub namespace : AttributeNamespace
  pub rows : new ≡ old ++ row_of_unresolved one namespace ∷ []
  pub within : NamespaceWithin (length namespaces) namespace
  -- The prefix of its name is in this scope.
  pub there : (scope : List NamespaceDecl) → FindsBinding namespaces few present scope → attribute_uri namespaces namespace ≡ attribute_namespace scope (name_view one.name)
  pub tested : (scope : List NamespaceDecl) (before rest : List Attribute) → FindsBinding namespaces few present scope → map (attribute namespaces) (drop from old) ≡ map (attribute_in scope) before
      → names_tested scope before (unresolved_view one ∷ rest) ≡ names_tested scope (before ++ unresolved_view one ∷ []) rest
