-- Open elements, and the names and scopes that tables hold.
use Rattle.std.specs.Prelude.{◌≡◌, ℕ, ◌+◌, take, drop, slice_index, ◌<◌, ◌≤◌, List, Option, Ok, length, map, IsUtf8, option_map}
use Rattle.rox_grammar.specs.Written.{Name}
use Rattle.rox_grammar.specs.Tree.{element_namespace}
use Rattle.rox_reading.specs.Lexical.{qname_at}
use Rattle.rox_grammar.specs.Failures.{name_view}
use Rattle.rox_grammar.specs.AtIndex.{namespace_at, scope_at, OptionWithin}
use Rattle.rox_rows.specs.Rows.{numbered_place}
use Rattle.rox_scopes.specs.NamespaceViews.{namespace_view}
use Rattle.rox_names.specs.SpelledNames.{before_colon, is_prefixed, kept_length, KeepsName, spelled_name}
use Rattle.rox_scopes.specs.Scopes.{PrefixesOnce}
use Rattle.rox_names.specs.TagScopes.{lists_in}
use Rattle.rox_names.specs.declared.tables.ElementTables.{ElementTables}
use Rattle.rox_names.specs.declared.start_tag.StartTag.{StartTag}
use Rattle.rox_names.specs.declared.open_element.OpenElement.{OpenElement}

-- The length of the name of an open element, in bytes.
abbrev pub name_length : OpenElement → ℕ
name_length o = kept_length o.name_count o.source.now

-- The name of an open element.
abbrev pub open_name : OpenElement → Name
open_name o = spelled_name (take (name_length o) o.source.now)

-- The name is read wherever its bytes are directly before a `>`.
pub record HasName (o : OpenElement) : Type 0 where
  pub within : o.name_count ≤ length o.source.now
  pub prefixed : o.prefixed ≡ is_prefixed (open_name o)
  pub read : (src : List ℕ) (i : ℕ) → IsUtf8 src → take (name_length o) o.source.now ≡ take (name_length o) (drop i src) → slice_index src (i + name_length o) ≡ 62
      → qname_at src i ≡ Ok (open_name o, i + name_length o)

-- The prefix, which may be empty, has no colon. So it can be compared with the name of an open element.
pub record MayHavePrefix (o : OpenElement) (prefix : List ℕ) : Type 0 where
  pub named : HasName o
  pub apart : before_colon prefix ≡ length prefix

-- The namespace of an element with the name `name` in this scope.
pub record IsNamespaceOf (t : ElementTables) (scope : ℕ) (name : Name) (namespace : Option ℕ) : Type 0 where
  pub within : OptionWithin (length t.namespaces.items.items) namespace
  pub is : option_map (λ i. (namespace_at (map namespace_view t.namespaces.items.items) i).uri) namespace ≡ element_namespace (scope_at (lists_in t) scope) name

-- The scope of an open element is in the table and has each prefix once. Its name and its namespace are known.
abbrev pub IsOpenWithin : ElementTables → OpenElement → Type 0
IsOpenWithin t o = (o.scope < length t.scopes.items) × PrefixesOnce (scope_at (lists_in t) o.scope) × HasName o × IsNamespaceOf t o.scope (open_name o) (numbered_place o.namespace)

-- The element that a tag of this text opens.
pub record IsOpened (text : List ℕ) (tag : StartTag) (o : OpenElement) : Type 0 where
  pub name : open_name o ≡ name_view tag.name
  pub prefixed : o.prefixed ≡ is_prefixed (name_view tag.name)
  pub kept : KeepsName text tag o.name_count o.source.now
  pub scope : o.scope ≡ tag.element.scope
  pub namespace : o.namespace ≡ tag.element.namespace
