use Rattle.std.proofs.Common.{◌≡◌, ◌-◌, List, string_bytes}
use Rattle.rox_grammar.specs.Entities.{Entity}
use Rattle.rox_reading.specs.Values.{data_part}
use Rattle.rox_values.specs.DeclaredEntities.{AreDeclared}
use Rattle.rox_values.specs.Values.{text_behind}
use Rattle.rox_values.proofs.character_data.data_part.Given as goal

abbrev pub invariant-bits : goal.invariant-bits
invariant-bits l = record {
  source : l.cursor.text ≡ l.fn.cursor.text;
  reads : (es : List Entity) → AreDeclared es l.context.entities.now
      → text_behind (string_bytes l.out) (data_part l.context.main es (l.stop - l._turn) l.cursor.text.now l.stop l.cursor.pos)
      ≡ text_behind (string_bytes l.fn.out) (data_part l.context.main es (l.stop - l.fn.cursor.pos) l.fn.cursor.text.now l.stop l.fn.cursor.pos);
}
