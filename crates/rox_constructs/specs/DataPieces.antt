-- What the parts of character data make of the builder.
use Rattle.std.specs.Prelude.{◌≡◌, ℕ, ◌-◌, List, Option, OnOk, Result}
use Rattle.rox_grammar.specs.Entities.{Entity}
use Rattle.rox_grammar.specs.declared.failure.Failure.{Failure}
use Rattle.rox_reading.specs.State.{State}
use Rattle.rox_reading.specs.Values as reading
use Rattle.rox_scan.specs.declared.cursor.Cursor.{Cursor}
use Rattle.rox_values.specs.Contexts.{context_of}
use Rattle.rox_values.specs.DeclaredEntities.{AreDeclared}
use Rattle.rox_values.specs.declared.context.Context.{Context}
use Rattle.rox_builder.specs.BuilderState.{GivesPart, GoesOn, IsInState}
use Rattle.rox_builder.specs.DataParts.{GivesDataPart, next_part}
use Rattle.rox_builder.specs.declared.builder.Builder.{Builder}

-- A part of character data was read into the text `text`.
pub record ReadsPart (context : Context) (stop : ℕ) (old new : Cursor) (text : List ℕ) (result : Result (Option Cursor) Failure) : Type 0 where
  pub value : (es : List Entity) → AreDeclared es context.entities.now → GivesPart context.main text new result (reading.data_part context.main es (stop - old.pos) old.text.now stop old.pos)
  pub source : new.text ≡ old.text

-- A part of the character data from `start` up to `stop` was read, and its piece is in the builder.
pub record GivesPiece (context : Context) (start stop : ℕ) (old new : Cursor) (b after : Builder) (result : Result (Option Cursor) Failure) : Type 0 where
  pub value : (limit end : ℕ) (es : List Entity) (s : State) → AreDeclared es context.entities.now → IsInState limit end s old b
      → GivesDataPart limit end result new after (next_part (context_of limit es context) old.text.now start stop s)
  pub goes : OnOk result (GoesOn old new after)
