-- Attributes that the fast path reads and puts into their table.
use Rattle.std.specs.Prelude.{◌≡◌, ℕ, ◌+◌, ◌<◌, ◌≤◌, ◌^◌, true, false, List, Option, Some, Ok, drop, length, map, slice_index, IfSome, IfNone, IsCharBoundary}
use Rattle.std.specs.List.{AllByRecursion}
use Rattle.rox_grammar.specs.Written.{NamespaceDecl, is_namespace_decl, Name}
use Rattle.rox_grammar.specs.Failures.{name_view}
use Rattle.rox_reading.specs.Markup.{attribute_at}
use Rattle.rox_reading.specs.Tags.{Values}
use Rattle.rox_reading.specs.Values.{value_at}
use Rattle.rox_rows.specs.Rows.{AttributeRow, NamespaceWithin, attribute_rows, attribute_uri}
use Rattle.rox_scopes.specs.ScopeRows.{AreScopes}
use Rattle.rox_scopes.specs.NamespaceViews.{namespace_view}
use Rattle.rox_scopes.specs.Scopes.{ArePlaces, PrefixesOnce, places_in}
use Rattle.rox_scopes.specs.declared.bindings.PrefixBindings.{PrefixBindings}
use Rattle.rox_names.specs.ResolvedNames.{AddsResolved}
use Rattle.rox_seen.specs.SeenNames.{AreSeen}
use Rattle.rox_seen.specs.declared.seen_names.SeenNames.{SeenNames}
use Rattle.rox_storage.specs.Storage.{storage_bytes, is_borrowed}
use Rattle.rox_names.specs.declared.tables.ElementTables.{ElementTables}
use Rattle.rox_bytes.specs.ByteSets.{EndsSet, is_part_byte}
use Rattle.rox_names.specs.TagScopes.{scope_in_tables}
use Rattle.rox_names.specs.declared.unresolved_attribute.UnresolvedAttribute.{UnresolvedAttribute}
use Rattle.rox_grammar.specs.Tree as tree
use Rattle.rox_grammar.specs.WellNamed.{is_known}
use Rattle.rox_scopes.specs.Bindings.{FindsBinding}
use Rattle.rox_rows.specs.declared.row.AttributeNamespace.{AttributeNamespace}
use Rattle.rox_values.specs.DeclaredEntities.{AreMainValues}
use Rattle.rox_attributes.specs.declared.quick_attribute.NamedAttribute.{NamedAttribute}
use Rattle.rox_attributes.specs.declared.quick_attribute.TagContext.{TagContext}
use Rattle.rox_verbatim.specs.declared.quick_name.NamePlace.{NamePlace}
use Rattle.rox_verbatim.specs.PlainNames.{IsAttributeName}
use Rattle.rox_verbatim.specs.PlainValues.{HasPlainValue}

-- The tables have the scope `scope` and the places that it lists, each prefix once.
pub record HasScope (t : ElementTables) (scope : ℕ) : Type 0 where
  pub places : ArePlaces (length t.namespaces.items.items) t.listed.items
  pub scopes : AreScopes (length t.listed.items) t.scopes.items
  pub within : scope < length t.scopes.items
  pub once : PrefixesOnce (scope_in_tables t scope)

-- The places that the scope `scope` lists, as few places in which a prefix is searched for.
abbrev pub few_in : ElementTables → ℕ → Option (List ℕ)
few_in t scope = Some (places_in t.listed.items t.scopes.items scope)

-- `s` is the namespace of an attribute named `name` in the scope `n`, and its prefix is known.
pub record IsAttributeNamespace (t : ElementTables) (n : ℕ) (name : Name) (s : AttributeNamespace) : Type 0 where
  pub within : NamespaceWithin (length t.namespaces.items.items) s
  pub there : (ds : List NamespaceDecl) → FindsBinding (map namespace_view t.namespaces.items.items) (few_in t n) t.present ds
      → attribute_uri (map namespace_view t.namespaces.items.items) s ≡ tree.attribute_namespace ds name
  pub known : (ds : List NamespaceDecl) → FindsBinding (map namespace_view t.namespaces.items.items) (few_in t n) t.present ds → is_known ds name ≡ true

-- The attribute `a` is read at `i`, if values are read `such`.
pub record IsPlainAttribute (such : Values → Type 0) (src : List ℕ) (i : ℕ) (a : UnresolvedAttribute) : Type 0 where
  pub value_end : ℕ
  pub read : attribute_at src i ≡ Ok (record { start = i; name = name_view a.name; name_end = a.name_end; value_start = a.value_start; value_end = value_end }, a.end)
  pub start : a.start ≡ i
  pub end : a.end ≡ value_end + 1
  pub value : (values : Values) → such values → (openings_left : ℕ)
      → value_at values.main values.entities values.opener src a.value_start value_end openings_left ≡ Ok (record { value = storage_bytes a.value; borrowed = is_borrowed a.value }, openings_left)
  pub cut : IsCharBoundary src a.end
  pub onward : i < a.end
  -- The local name fits before `a.name_end`, and `=` and a quote fit before the value.
  pub local : a.start + length a.name.local.now ≤ a.name_end
  pub gap : a.name_end + 2 ≤ a.value_start

-- A plain attribute from `i` up to `j`, which is not a declaration, was put after those of its tag, which start at the row
-- `from`.
pub record AddsPlain (such : Values → Type 0) (namespaces : List NamespaceDecl) (few : Option (List ℕ)) (present : PrefixBindings) (from : ℕ) (src : List ℕ) (i j : ℕ) (old new : List AttributeRow) : Type 0 where
  pub one : UnresolvedAttribute
  pub plain : IsPlainAttribute such src i one
  pub other : is_namespace_decl (name_view one.name) ≡ false
  pub added : AddsResolved namespaces few present from old new one
  pub end : one.end ≡ j

-- The last rows of the table, which `s` records, are the attributes of a tag so far. The namespace of each is in the tables.
pub record HoldsTag (t : ElementTables) (n : ℕ) (s : SeenNames) : Type 0 where
  pub scope : HasScope t n
  pub from : s.from ≤ length (attribute_rows t.attributes)
  pub done : AllByRecursion (λ a. NamespaceWithin (length t.namespaces.items.items) a.0.namespace) (drop s.from (attribute_rows t.attributes))
  pub seen : AreSeen s (attribute_rows t.attributes)

-- An attribute that starts at `i` with a byte above `>` may be put after those that `s` records.
pub record MayPut (src : List ℕ) (i : ℕ) (t : ElementTables) (n : ℕ) (s : SeenNames) : Type 0 where
  pub cut : IsCharBoundary src i
  pub begins : 62 < slice_index src i
  pub short : length src < 2 ^ 32
  pub holds : HoldsTag t n s

-- The attribute at `p` may be put, and its first ASCII name bytes end at `p.part`.
pub record MayPutPart (src : List ℕ) (p : NamePlace) (t : ElementTables) (n : ℕ) (s : SeenNames) : Type 0 where
  pub put : MayPut src p.start t n s
  pub part : EndsSet is_part_byte src p.start p.part

-- The attribute `a` may be put after those that `s` records. Its name and value were read.
pub record MayPutNamed (src : List ℕ) (a : NamedAttribute) (t : ElementTables) (n : ℕ) (s : SeenNames) : Type 0 where
  pub put : MayPut src a.start t n s
  pub found : IsAttributeNamespace t n (name_view a.name.name) a.namespace
  pub named : IsAttributeName src a.start a.name
  pub local : a.start + a.before + length a.name.name.local.now ≡ a.name.end
  pub value : HasPlainValue src (a.name.end + 2) (slice_index src (a.name.end + 1)) a.value.end a.value.text.now

-- The attribute from `i` up to `j` was put after those that `s` records, or none was if `j` is 0.
pub record PutsPlain (old new : ElementTables) (t : TagContext) (s after : SeenNames) (src : List ℕ) (i j : ℕ) : Type 0 where
  pub added : 0 < j → AddsPlain (AreMainValues t.context.now) (map namespace_view old.namespaces.items.items) (few_in old t.scope) old.present s.from src i j (attribute_rows old.attributes) (attribute_rows new.attributes)
  pub others : new ≡ record old { attributes = new.attributes }
  pub from : after.from ≡ s.from
  pub seen : 0 < j → AreSeen after (attribute_rows new.attributes)
  pub refused : j ≡ 0 → attribute_rows new.attributes ≡ attribute_rows old.attributes

-- The attribute from `i` was put, up to the offset returned, or none was.
pub record PutsSome (old new : ElementTables) (t : TagContext) (s after : SeenNames) (src : List ℕ) (i : ℕ) (result : Option ℕ) : Type 0 where
  pub put : IfSome result (λ j. PutsPlain old new t s after src i j)
  pub place : IfSome result (λ j. 0 < j)
  pub none : IfNone result (PutsPlain old new t s after src i 0)
