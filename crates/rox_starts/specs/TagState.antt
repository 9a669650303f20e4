-- The stored form of a start tag, compared with what is read of it.
use Rattle.std.specs.Prelude.{◌≡◌, ◌⊎◌, ℕ, ◌≤◌, Bool, false, if◌then◌else◌, List, Option, length, map, drop, OnOk, Result, Ok, Err}
use Rattle.std.specs.Borrow.{Bor}
use Rattle.rox_grammar.specs.Document.{most_pairs}
use Rattle.rox_grammar.specs.Entities.{Entity}
use Rattle.rox_grammar.specs.Failures.{Fails}
use Rattle.rox_grammar.specs.declared.failure.Failure.{Failure}
use Rattle.rox_grammar.specs.declared.fault.Fault.{Fault}
use Rattle.rox_grammar.specs.Written.{Attribute, NamespaceDecl}
use Rattle.rox_reading.specs.Markup.{RawAttribute, more, opened, closed, tag_item_at}
use Rattle.rox_reading.specs.Refusals.{Refusal}
use Rattle.rox_reading.specs.Tags.{TagSoFar, TagRest, Values, attribute_with, attributes_at, taken}
use Rattle.rox_reading.specs.Values.{ReadText, value_at}
use Rattle.rox_names.specs.declared.start_tag.Buffers.{Buffers}
use Rattle.rox_starts.specs.declared.tag.OpenTag.{OpenTag}
use Rattle.rox_starts.specs.declared.tag.TagPart.{TagPart}
use Rattle.rox_starts.specs.declared.tag.TagPart.TheVariants as part
use Rattle.rox_values.specs.declared.parse_error.ParseError.TheVariants as error
use Rattle.rox_scan.specs.declared.cursor.Cursor.{Cursor}
use Rattle.rox_scopes.specs.PrefixSet.{IsPrefixSet}
use Rattle.rox_storage.specs.Storage.{storage_bytes, is_borrowed}
use Rattle.rox_scopes.specs.ScopeRows.{AreScopes}
use Rattle.rox_scopes.specs.NamespaceViews.{namespace_view}
use Rattle.rox_scopes.specs.Scopes.{entries, ArePlaces, PrefixesOnce}
use Rattle.rox_names.specs.TagDeclarations.{unresolved_view, Declares}
use Rattle.rox_names.specs.TagScopes.{HasBindings, lists_in}
use Rattle.rox_storage.specs.declared.storage.StringStorage.{StringStorage}
use Rattle.rox_names.specs.declared.tables.ElementTables.{ElementTables}
use Rattle.rox_scopes.specs.declared.stored_scope.OwnDeclarations.{OwnDeclarations}
use Rattle.rox_names.specs.declared.unresolved_attribute.UnresolvedAttribute.{UnresolvedAttribute}
use Rattle.rox_values.specs.DeclaredEntities.{AreDeclared, values_in}
use Rattle.rox_values.specs.Refusals.{IsRefusal}
use Rattle.rox_values.specs.declared.context.Context.{Context}
use Rattle.rox_values.specs.declared.parse_error.ParseError.{ParseError}

-- The tables while a start tag is read, and the set of the prefixes that it declares. Its own declarations are listed from the
-- index `own` on, each prefix once.
pub record IsReadingTag (t : ElementTables) (prefix_set : List (Option (Bor (List ℕ)))) (own : ℕ) : Type 0 where
  pub places : ArePlaces (length t.namespaces.items.items) t.listed.items
  pub own_within : own ≤ length t.listed.items
  pub few : length t.namespaces.items.items ≤ most_pairs
  pub prefixes : IsPrefixSet (map namespace_view t.namespaces.items.items) (drop own t.listed.items) prefix_set
  pub once : PrefixesOnce (entries (map namespace_view t.namespaces.items.items) (drop own t.listed.items))
  pub scopes : AreScopes own t.scopes.items
  pub kept : HasBindings t

-- The declarations of a tag change neither the attributes of other tags nor their scopes.
pub record KeepsScopes (old new : ElementTables) : Type 0 where
  pub scopes : new.scopes ≡ old.scopes
  pub lists : lists_in new ≡ lists_in old
  pub attributes : new.attributes ≡ old.attributes

-- `h` is what is read of the tag so far: its declarations are in the tables, and its attributes `taken` wait in a buffer.
pub record HoldsTag (known : List NamespaceDecl) (before : List ℕ) (namespaces : List NamespaceDecl) (listed : List ℕ) (xml : Bool) (taken : List UnresolvedAttribute) (h : TagSoFar) : Type 0 where
  pub declares : Declares known before namespaces listed xml h.own
  pub attributes : map unresolved_view taken ≡ h.attributes

-- The text `text` is stored as `s`.
pub record IsStored (text : ReadText) (s : StringStorage) : Type 0 where
  pub bytes : storage_bytes s ≡ text.value
  pub kind : is_borrowed s ≡ text.borrowed

-- What is read of the value of `raw`, in which `openings_left` replacement texts may be opened.
abbrev pub value_of : Values → List ℕ → RawAttribute → ℕ → Result (ReadText × ℕ) Refusal
value_of context src raw openings_left = value_at context.main context.entities context.opener src raw.value_start raw.value_end openings_left

-- The attribute or declaration `raw` is returned with what is read of its value, or it is refused. The number is how many
-- replacement texts may be opened after it.
abbrev pub GivesAttribute : RawAttribute → Result (UnresolvedAttribute × ℕ) ParseError → Result (ReadText × ℕ) Refusal → Type 0
GivesAttribute raw (Ok x) read = (v : ReadText) × (read ≡ Ok (v, x.1)) × (attribute_with raw v ≡ unresolved_view x.0)
GivesAttribute raw (Err e) read = IsRefusal e read

-- What a tag holds next at `i` is returned: an attribute or a declaration, or the tag's end.
abbrev pub GivesTagPart : Values → List ℕ → (i openings_left : ℕ) → Cursor → Result TagPart ParseError → Type 0
GivesTagPart context src i openings_left after (Ok (part.One a l)) = (raw : RawAttribute) × (tag_item_at src i ≡ Ok (more raw, after.pos)) × GivesAttribute raw (Ok (a, l)) (value_of context src raw openings_left)
GivesTagPart context src i openings_left after (Ok (part.End empty)) = tag_item_at src i ≡ Ok ((if empty then closed else opened), after.pos)
GivesTagPart context src i openings_left after (Err e) =
    ((f : Fault) × (e ≡ error.Fault f) × (tag_item_at src i ≡ Err f)) ⊎ ((raw : RawAttribute) × (j : ℕ) × (tag_item_at src i ≡ Ok (more raw, j)) × IsRefusal e (value_of context src raw openings_left))

-- The attribute or declaration is in the tables and the buffer, or refused, as `read` says.
abbrev pub AddsAttribute : (known : List NamespaceDecl) (before : List ℕ) (namespaces : List NamespaceDecl) (listed : List ℕ) (taken : List UnresolvedAttribute) → Result Bool Failure → Result TagSoFar Fault → Type 0
AddsAttribute known before namespaces listed taken (Ok xml) read = (h : TagSoFar) × (read ≡ Ok h) × HoldsTag known before namespaces listed xml taken h
AddsAttribute known before namespaces listed taken (Err e) read = Fails e read

-- All attributes and declarations of a tag are in the tables and the buffer, or one is refused, as `read` says. What is returned
-- is whether `xml` is declared, whether the tag is empty, and how many replacement texts may be opened after it.
abbrev pub AddsAttributes : (known : List NamespaceDecl) (before : List ℕ) (namespaces : List NamespaceDecl) (listed : List ℕ) (taken : List UnresolvedAttribute) → Cursor → Result (Bool × Bool × ℕ) ParseError → Result (TagRest × ℕ) Refusal → Type 0
AddsAttributes known before namespaces listed taken after (Ok x) read =
    (h : TagSoFar) × (read ≡ Ok (record { held = h; empty = x.1; openings_left = x.2 }, after.pos)) × HoldsTag known before namespaces listed x.0 taken h
AddsAttributes known before namespaces listed taken after (Err e) read = IsRefusal e read

-- The next item of a tag is read as `GivesTagPart` says, and the cursor stays in its text.
pub record ReadsTagPart (context : Context) (old new : Cursor) (openings_left : ℕ) (result : Result TagPart ParseError) : Type 0 where
  pub source : new.text ≡ old.text
  pub part : (es : List Entity) → AreDeclared es context.entities.now → GivesTagPart (values_in es context) old.text.now old.pos openings_left new result

-- The attribute or declaration `a` is put after those that the tables and the buffers hold of the tag, unless it is refused.
pub record TakesAttribute (old new : ElementTables) (b after : Buffers) (own : OwnDeclarations) (a : Attribute) (result : Result Bool Failure) : Type 0 where
  pub tables : OnOk result (IsReadingTag new after.prefix_set.keys own.from)
  pub kept : OnOk result (KeepsScopes old new)
  pub took : (known : List NamespaceDecl) (before : List ℕ) (h : TagSoFar) → own.from ≡ length before
      → HoldsTag known before (map namespace_view old.namespaces.items.items) old.listed.items own.xml b.taken.items h
      → AddsAttribute known before (map namespace_view new.namespaces.items.items) new.listed.items after.taken.items result (taken known a h)

-- The attributes and declarations of a tag are read, up to its end. They are put after those that the tables and the buffers
-- hold, unless one is refused. The cursor stays in its text.
pub record ReadsAttributes (context : Context) (tag : OpenTag) (old new : Cursor) (t u : ElementTables) (b after : Buffers) (result : Result (Bool × Bool × ℕ) ParseError) : Type 0 where
  pub tables : OnOk result (IsReadingTag u after.prefix_set.keys tag.own)
  pub kept : OnOk result (KeepsScopes t u)
  pub source : new.text ≡ old.text
  pub took : (es : List Entity) (known : List NamespaceDecl) (before : List ℕ) (h : TagSoFar) → AreDeclared es context.entities.now → tag.own ≡ length before
      → HoldsTag known before (map namespace_view t.namespaces.items.items) t.listed.items false b.taken.items h
      → AddsAttributes known before (map namespace_view u.namespaces.items.items) u.listed.items after.taken.items new result
      (attributes_at (length old.text.now) (values_in es context) tag.cut known old.text.now old.pos tag.openings_left h)
