use Rattle.std.proofs.Common.{◌≡◌, ◌-◌, ◌+◌, ◌*◌, ℕ, List, length}
use Rattle.rox_grammar.specs.Entities.{Entity}
use Rattle.rox_reading.specs.State.{State}
use Rattle.rox_reading.specs.Machine.{data_parts, drive_text}
use Rattle.rox_values.specs.DeclaredEntities.{AreDeclared}
use Rattle.rox_values.specs.Contexts.{context_of}
use Rattle.rox_builder.specs.BuilderState.{IsConsistent, IsInState, HoldsState}
use Rattle.rox_builder.proofs.Parting.{Parting}
use Rattle.rox_builder.proofs.TextLooping.{Texting}
use Rattle.rox_build.proofs.content.+content.Given as goal

abbrev pub decreases-open_other_text : goal.decreases-open_other_text
decreases-open_other_text l = 16 * l.context.depth_left

abbrev pub decreases-open_text : goal.decreases-open_text
decreases-open_text l = 16 * l.context.depth_left + 1

abbrev pub decreases-data_parts : goal.decreases-data_parts
decreases-data_parts l = 16 * l.context.depth_left + 2

abbrev pub decreases-character_data_pieces : goal.decreases-character_data_pieces
decreases-character_data_pieces l = 16 * l.context.depth_left + 3

abbrev pub decreases-character_data : goal.decreases-character_data
decreases-character_data l = 16 * l.context.depth_left + 4

abbrev pub decreases-step : goal.decreases-step
decreases-step l = 16 * l.context.depth_left + 5

abbrev pub decreases-content_text : goal.decreases-content_text
decreases-content_text l = 16 * l.context.depth_left + 6

abbrev pub invariant-data_parts-loop-turn : goal.invariant-data_parts-loop-turn
invariant-data_parts-loop-turn l = record {
  source : l.cursor.text ≡ l.fn.cursor.text;
  fine : IsConsistent l.builder.tables l.builder.opened.items;
  reads : (limit end : ℕ) (es : List Entity) (s : State) → AreDeclared es l.context.entities.now → IsInState limit end s l.fn.cursor l.fn.builder
      → Parting (context_of limit es l.context) end l.fn.cursor.text.now l.start l.stop (data_parts (context_of limit es l.context) (length l.fn.cursor.text.now) l.fn.cursor.text.now l.start l.stop s)
      (length l.fn.cursor.text.now - l._turn) l.cursor l.builder;
}

abbrev pub invariant-content_text-loop-turn : goal.invariant-content_text-loop-turn
invariant-content_text-loop-turn l = record {
  source : l.cursor.text ≡ l.text.text;
  fine : IsConsistent l.builder.tables l.builder.opened.items;
  reads : (limit end : ℕ) (es : List Entity) (s : State) → AreDeclared es l.context.entities.now → HoldsState limit end s l.fn.builder → s.at ≡ l.text.pos
      → Texting (context_of limit es l.context) end l.text.text.now (drive_text (context_of limit es l.context) (length l.text.text.now) l.text.text.now s) (length l.text.text.now - l._turn) l.cursor l.builder;
}
