use Rattle.std.proofs.Common.{◌≡◌, ◌-◌, ◌+◌, ◌*◌, ◌≤◌, List, ℕ, IsCharBoundary, string_bytes}
use Rattle.rox_grammar.specs.Entities.{Entity}
use Rattle.rox_reading.specs.Machine.{value_opener}
use Rattle.rox_reading.specs.Values.{value_text}
use Rattle.rox_values.specs.DeclaredEntities.{AreDeclared}
use Rattle.rox_values.specs.Values.{text_behind}
use Rattle.rox_values.proofs.attribute_value.+values.Given as goal

abbrev pub decreases-value_text : goal.decreases-value_text
decreases-value_text l = 2 * l.context.depth_left + 1

abbrev pub decreases-open_value : goal.decreases-open_value
decreases-open_value l = 2 * l.context.depth_left

abbrev pub decreases-value_text-bits : goal.decreases-value_text-bits
decreases-value_text-bits l = l.stop - l.at

abbrev pub invariant-value_text-bits : goal.invariant-value_text-bits
invariant-value_text-bits l = record {
  cut : IsCharBoundary l.from.text.now l.at;
  reads : (es : List Entity) (bits : ℕ) → AreDeclared es l.context.entities.now → l.stop - l.from.pos ≤ bits
      → (left : ℕ) × ((l.stop - l.at ≤ left)
      × (text_behind (string_bytes l.out) (value_text l.context.main es (value_opener es l.context.depth_left l.context.main) left l.from.text.now l.stop l.at l.openings_left)
      ≡ text_behind (string_bytes l.fn.out) (value_text l.context.main es (value_opener es l.context.depth_left l.context.main) bits l.from.text.now l.stop l.from.pos l.fn.openings_left)));
}
