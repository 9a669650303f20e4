-- The stored form of a start tag that was read, compared with the tag.
use Rattle.std.specs.Prelude.{◌≡◌, ℕ, ◌<◌, ◌≤◌, ◌+◌, List, ◌++◌, length, map, OnOk, IfOk, IfErr, Result, Ok, Err, option_map}
use Rattle.std.specs.Borrow.{Bor}
use Rattle.std.specs.List.{AllByRecursion}
use Rattle.rox_grammar.specs.Entities.{Entity}
use Rattle.rox_grammar.specs.Written.{Attribute, Name, NamespaceDecl, Tag}
use Rattle.rox_grammar.specs.Tree.{listed, attribute_in, element_namespace}
use Rattle.rox_grammar.specs.Document.{most_pairs, most_attributes}
use Rattle.rox_grammar.specs.Counts.{listable, with_new}
use Rattle.rox_grammar.specs.declared.failure.Failure.{Failure}
use Rattle.rox_reading.specs.Refusals.{Refusal}
use Rattle.rox_reading.specs.Tags.{TagRead, tag_at, tested_at}
use Rattle.rox_grammar.specs.Failures.{Fails, name_view}
use Rattle.rox_scan.specs.declared.cursor.Cursor.{Cursor}
use Rattle.rox_values.specs.DeclaredEntities.{AreDeclared, values_in}
use Rattle.rox_values.specs.Refusals.{IsRefusal}
use Rattle.rox_values.specs.declared.context.Context.{Context}
use Rattle.rox_values.specs.declared.parse_error.ParseError.{ParseError}
use Rattle.rox_rows.specs.Rows.{attribute, NamespaceWithin, numbered_place, AttributeRow, attribute_rows}
use Rattle.rox_grammar.specs.AtIndex.{namespace_at, scope_at, OptionWithin}
use Rattle.rox_scopes.specs.ScopeRows.{AreScopes}
use Rattle.rox_scopes.specs.NamespaceViews.{namespace_view}
use Rattle.rox_scopes.specs.Scopes.{ArePlaces, PrefixesOnce}
use Rattle.rox_names.specs.TagScopes.{lists_in, HasBindings, scope_in_tables}
use Rattle.rox_rows.specs.declared.row.ElementData.{ElementData}
use Rattle.rox_names.specs.declared.tables.ElementTables.{ElementTables}
use Rattle.rox_names.specs.declared.start_tag.StartTag.{StartTag}
use Rattle.rox_starts.specs.declared.tag.TagContext.{TagContext}

-- The attributes `written` were appended to the table `old`, with their namespaces in the scope `scope`.
pub record HasAttributes (old new : List AttributeRow) (namespaces : List NamespaceDecl) (scope : List NamespaceDecl) (written : List Attribute) : Type 0 where
  pub more : List AttributeRow
  pub grown : new ≡ old ++ more
  pub same : map (attribute namespaces) more ≡ map (attribute_in scope) written
  pub within : AllByRecursion (λ a. NamespaceWithin (length namespaces) a.0.namespace) more

-- `e` is an element with the local name `name` in the scope `n`, and `number` is that of its namespace. Its attributes are those
-- from the row `from` on.
pub record IsElementFrom (t : ElementTables) (name : Bor (List ℕ)) (from n number : ℕ) (e : ElementData) : Type 0 where
  pub local : e.local ≡ name
  pub attributes_from : e.attributes_from ≡ from
  pub attributes_until : e.attributes_until ≡ length (attribute_rows t.attributes)
  pub scope : e.scope ≡ n
  pub namespace : e.namespace ≡ number

-- The row `e` is an element with the name `name` and the attributes `written`, and lists the scope `scope`.
pub record IsElement (old new : ElementTables) (e : ElementData) (scope : List NamespaceDecl) (name : Name) (written : List Attribute) : Type 0 where
  pub attributes : HasAttributes (attribute_rows old.attributes) (attribute_rows new.attributes) (map namespace_view new.namespaces.items.items) scope written
  pub attributes_from : e.attributes_from ≡ length (attribute_rows old.attributes)
  pub attributes_until : e.attributes_until ≡ length (attribute_rows new.attributes)
  pub few : length (attribute_rows new.attributes) ≤ most_attributes
  pub local : e.local.now ≡ name.local
  pub namespace : option_map (λ i. (namespace_at (map namespace_view new.namespaces.items.items) i).uri) (numbered_place e.namespace) ≡ element_namespace scope name
  pub namespace_within : OptionWithin (length new.namespaces.items.items) (numbered_place e.namespace)
  pub scope_within : e.scope < length new.scopes.items
  pub lists : scope_at (lists_in new) e.scope ≡ scope

-- The tables have grown by the tag `tag`, whose parent lists `above`.
pub record Tagged (old new : ElementTables) (t : StartTag) (above : List NamespaceDecl) (tag : Tag) : Type 0 where
  pub name : name_view t.name ≡ tag.name
  pub name_end : t.name_end ≡ tag.name_end
  pub namespaces : map namespace_view new.namespaces.items.items ≡ with_new (map namespace_view old.namespaces.items.items) (listable tag)
  pub few : length new.namespaces.items.items ≤ most_pairs
  pub more : List (List NamespaceDecl)
  pub lists_more : lists_in new ≡ lists_in old ++ more
  pub places : ArePlaces (length new.namespaces.items.items) new.listed.items
  pub scopes : AreScopes (length new.listed.items) new.scopes.items
  pub kept : HasBindings new
  pub once : PrefixesOnce (scope_at (lists_in new) t.element.scope)
  pub element : IsElement old new t.element (listed above tag.declarations) tag.name tag.attributes

-- A start tag was read, or refused, as `read` says, unless memory ran out. The number is how many replacement texts may be opened
-- after it.
abbrev pub GivesTag : ElementTables → ElementTables → Cursor → Result (StartTag × ℕ) ParseError → List NamespaceDecl → Result (TagRead × ℕ) Refusal → Type 0
GivesTag old new after (Ok x) above read = (tag : Tag) × (read ≡ Ok (record { tag = tag; empty = x.0.empty; openings_left = x.1 }, after.pos)) × Tagged old new x.0 above tag
GivesTag old new after (Err e) above read = IsRefusal e read

-- The start tag at the cursor was read in the context `around`, or refused, whatever entities are declared. Its name is right
-- after its `<`. The cursor stays in its text.
pub record ReadsStartTag (context : Context) (around : TagContext) (old new : Cursor) (t after : ElementTables) (result : Result (StartTag × ℕ) ParseError) : Type 0 where
  pub source : new.text ≡ old.text
  pub starts : IfOk result (λ x. x.0.name_start ≡ old.pos + 1)
  pub value : (es : List Entity) → AreDeclared es context.entities.now
      → GivesTag t after new result (scope_in_tables t around.above)
      (tag_at (values_in es context) around.cut (scope_in_tables t around.above) (length (attribute_rows t.attributes)) (map namespace_view t.namespaces.items.items) old.text.now old.pos around.openings_left)

-- The names of an element in the scope `scope` were tested, and its attributes put into the table. Its name is at `at`.
pub record MakesElement (old new : ElementTables) (scope at : ℕ) (name : Name) (written : List Attribute) (result : Result ElementData Failure) : Type 0 where
  pub others : new ≡ record old { attributes = new.attributes }
  pub tested : OnOk result (tested_at (scope_in_tables old scope) (length (attribute_rows old.attributes)) at name written ≡ Ok tt)
  pub element : IfOk result (λ e. IsElement old new e (scope_in_tables old scope) name written)
  pub err : IfErr result (λ e. Fails e (tested_at (scope_in_tables old scope) (length (attribute_rows old.attributes)) at name written))
