-- Start tags of the main text that the fast path reads.
use Rattle.std.specs.Prelude.{◌≡◌, ℕ, ◌+◌, ◌<◌, ◌≤◌, ◌^◌, false, List, ◌++◌, Option, Ok, length, map, slice_index, IfSome, IsCharBoundary}
use Rattle.rox_grammar.specs.declared.fault.Fault.{Fault}
use Rattle.rox_grammar.specs.Written.{NamespaceDecl, Tag}
use Rattle.rox_reading.specs.Lexical.{qname_at}
use Rattle.rox_reading.specs.Tags.{Values, tag_at}
use Rattle.rox_rows.specs.Rows.{AttributeRow, attribute_rows}
use Rattle.rox_scopes.specs.ScopeRows.{AreScopes}
use Rattle.rox_scopes.specs.NamespaceViews.{namespace_view}
use Rattle.rox_scopes.specs.Scopes.{ArePlaces}
use Rattle.rox_names.specs.declared.tables.ElementTables.{ElementTables}
use Rattle.rox_grammar.specs.Document.{most_pairs}
use Rattle.rox_names.specs.TagScopes.{HasBindings, scope_in_tables}
use Rattle.rox_names.specs.OpenElements.{IsOpenWithin}
use Rattle.rox_names.specs.declared.open_element.OpenElement.{OpenElement}
use Rattle.rox_starts.specs.ElementRow.{Tagged}
use Rattle.rox_tags.specs.TagAttributes.{AreOfMainText}
use Rattle.rox_tags.specs.declared.quick_tag.PlainTag.{PlainTag}
use Rattle.rox_names.specs.declared.start_tag.StartTag.{StartTag}

-- The tables `new` are `old` with more attributes.
pub record HasMore (old new : ElementTables) : Type 0 where
  pub more : List AttributeRow
  pub others : new ≡ record old { attributes = new.attributes }
  pub rows : attribute_rows new.attributes ≡ attribute_rows old.attributes ++ more

-- The start tag `t` is read from `i` up to `end`, if values are read `such`. Its parent lists `above`.
pub record IsPlainTag (such : Values → Type 0) (old new : ElementTables) (above : List NamespaceDecl) (src : List ℕ) (i end : ℕ) (t : StartTag) : Type 0 where
  pub tag : Tag
  pub read : (context : Values) → such context → (cut : Fault) (openings_left : ℕ)
      → tag_at context cut above (length (attribute_rows old.attributes)) (map namespace_view old.namespaces.items.items) src i openings_left ≡ Ok (record { tag = tag; empty = t.empty; openings_left = openings_left }, end)
  pub tagged : Tagged old new t above tag
  pub starts : t.name_start ≡ i + 1
  pub named : qname_at src (i + 1) ≡ Ok (tag.name, tag.name_end)
  pub onward : i < end
  pub cut : IsCharBoundary src end

-- The start tag at `i` was read, if it is plain. Its parent has the scope `above`.
pub record ReadsTag (such : Values → Type 0) (old new : ElementTables) (above : ℕ) (src : List ℕ) (i : ℕ) (result : Option PlainTag) : Type 0 where
  pub read : IfSome result (λ t. IsPlainTag such old new (scope_in_tables old above) src i t.end t.tag)
  pub grown : HasMore old new

-- The start tag `p` of a name alone, which has no attributes, is read at `i`. Its parent is `o`.
pub record IsBareTag (t : ElementTables) (o : OpenElement) (src : List ℕ) (i : ℕ) (p : PlainTag) : Type 0 where
  pub read : IsPlainTag AreOfMainText t t (scope_in_tables t o.scope) src i p.end p.tag
  pub opens : p.tag.empty ≡ false

-- The tables hold equal rows, whatever room they have for attributes.
pub record HoldSame (old new : ElementTables) : Type 0 where
  pub others : new ≡ record old { attributes = new.attributes }
  pub attributes : attribute_rows new.attributes ≡ attribute_rows old.attributes

-- The open element `o` may have a child in the tables `t`.
pub record MayOpenBelow (t : ElementTables) (o : OpenElement) : Type 0 where
  pub places : ArePlaces (length t.namespaces.items.items) t.listed.items
  pub few : length t.namespaces.items.items ≤ most_pairs
  pub scopes : AreScopes (length t.listed.items) t.scopes.items
  pub kept : HasBindings t
  pub parent : IsOpenWithin t o

-- A start tag may start at `i`, as a child of the open element `o`.
pub record MayOpenAt (src : List ℕ) (i : ℕ) (t : ElementTables) (o : OpenElement) : Type 0 where
  pub here : slice_index src i ≡ 60
  pub short : length src < 2 ^ 32
  pub below : MayOpenBelow t o
