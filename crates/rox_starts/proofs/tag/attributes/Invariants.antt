use Rattle.std.proofs.Common.{◌≡◌, ◌-◌, ℕ, List, length, map, false}
use Rattle.rox_grammar.specs.Written.{NamespaceDecl}
use Rattle.rox_reading.specs.Tags.{TagSoFar, attributes_at}
use Rattle.rox_scopes.specs.NamespaceViews.{namespace_view}
use Rattle.rox_grammar.specs.Entities.{Entity}
use Rattle.rox_values.specs.DeclaredEntities.{AreDeclared, values_in}
use Rattle.rox_starts.specs.TagState.{HoldsTag, IsReadingTag, KeepsScopes}
use Rattle.rox_starts.proofs.Taking.{Going}
use Rattle.rox_starts.proofs.tag.attributes.Given as goal

abbrev pub invariant-attributes : goal.invariant-attributes
invariant-attributes l = record {
  source : l.cursor.text ≡ l.fn.cursor.text;
  tables : IsReadingTag l.elements l.buffers.prefix_set.keys l.tag.own;
  kept : KeepsScopes l.fn.elements l.elements;
  reads : (es : List Entity) (known : List NamespaceDecl) (before : List ℕ) (h : TagSoFar) → AreDeclared es l.context.entities.now → l.tag.own ≡ length before
      → HoldsTag known before (map namespace_view l.fn.elements.namespaces.items.items) l.fn.elements.listed.items false l.fn.buffers.taken.items h
      → Going (values_in es l.context) known before l.tag.cut l.fn.cursor.text.now (attributes_at (length l.fn.cursor.text.now) (values_in es l.context) l.tag.cut known l.fn.cursor.text.now l.fn.cursor.pos l.tag.openings_left h)
      (length l.fn.cursor.text.now - l._turn) l.cursor.pos l.openings_left (map namespace_view l.elements.namespaces.items.items) l.elements.listed.items l.xml l.buffers.taken.items;
}
