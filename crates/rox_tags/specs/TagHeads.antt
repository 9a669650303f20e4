-- What a start tag has before its attributes, as the fast path reads it.
use Rattle.std.specs.Prelude.{◌≡◌, ℕ, ◌+◌, ◌≤◌, true, false, List, [], Ok, length, map, bytes_eq, IsCharBoundary}
use Rattle.rox_grammar.specs.declared.fault.Fault.{Fault}
use Rattle.rox_grammar.specs.declared.fault.Word.TheVariants.{Xmlns}
use Rattle.rox_grammar.specs.Counts.{with_new}
use Rattle.rox_grammar.specs.Document.{most_pairs}
use Rattle.rox_grammar.specs.Failures.{name_view}
use Rattle.rox_grammar.specs.FixedTexts.{word_text}
use Rattle.rox_grammar.specs.Tree.{listable_of, listed}
use Rattle.rox_grammar.specs.WellNamed.{may_name}
use Rattle.rox_grammar.specs.Written.{NamespaceDecl}
use Rattle.rox_reading.specs.Lexical.{qname_at}
use Rattle.rox_reading.specs.Tags.{Values, attributes_at}
use Rattle.rox_rows.specs.Rows.{numbered_place}
use Rattle.rox_scopes.specs.NamespaceViews.{namespace_view}
use Rattle.rox_names.specs.OpenElements.{IsNamespaceOf}
use Rattle.rox_names.specs.TagScopes.{HasBindings, scope_in_tables}
use Rattle.rox_names.specs.declared.tables.ElementTables.{ElementTables}
use Rattle.rox_attributes.specs.PlainAttribute.{HasScope}
use Rattle.rox_tags.specs.TagAttributes.{AreOfMainText, holding}
use Rattle.rox_tags.specs.declared.quick_tag.TagHead.{TagHead}

-- A tag whose parent has the scope `above` declares `own` between `k` and `j` in the main text. It has the scope `n` then,
-- which is in the tables.
pub record Begins (t : ElementTables) (above n : ℕ) (own : List NamespaceDecl) (src : List ℕ) (k j : ℕ) : Type 0 where
  pub scope : HasScope t n
  pub lists : scope_in_tables t n ≡ listed (scope_in_tables t above) own
  pub pairs : with_new (map namespace_view t.namespaces.items.items) (listable_of own) ≡ map namespace_view t.namespaces.items.items
  pub onward : k ≤ j
  pub turns : ℕ
  pub enough : length src ≤ turns + j
  pub read : (context : Values) → AreOfMainText context → (cut : Fault) (openings_left : ℕ)
      → attributes_at (length src) context cut (map namespace_view t.namespaces.items.items) src k openings_left (holding [] []) ≡ attributes_at turns context cut (map namespace_view t.namespaces.items.items) src j openings_left (holding own [])

-- The start tag at `i` begins with `h`. Its parent has the scope `above`.
pub record HasHead (t : ElementTables) (above : ℕ) (src : List ℕ) (i : ℕ) (h : TagHead) : Type 0 where
  pub own : List NamespaceDecl
  pub begins : Begins t above h.scope own src h.name.end h.end
  pub cut : IsCharBoundary src h.end
  pub named : qname_at src (i + 1) ≡ Ok (name_view h.name.name, h.name.end)
  pub other : bytes_eq h.name.name.prefix.now (word_text Xmlns) ≡ false
  pub space : IsNamespaceOf t h.scope (name_view h.name.name) (numbered_place h.namespace)
  pub known : may_name (scope_in_tables t h.scope) (name_view h.name.name) ≡ true
  pub few : length t.namespaces.items.items ≤ most_pairs
  pub kept : HasBindings t
