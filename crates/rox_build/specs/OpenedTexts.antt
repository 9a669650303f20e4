-- What replacement texts make of the builder.
use Rattle.std.specs.Prelude.{◌≡◌, ℕ, true, false, Bool, List, OnOk, IfOk, Result, Ok, length}
use Rattle.std.specs.declared.alloc.AllocError.{AllocError}
use Rattle.rox_grammar.specs.Entities.{Entity}
use Rattle.rox_reading.specs.Machine as machine
use Rattle.rox_reading.specs.State.{State}
use Rattle.rox_scan.specs.Views.{replacement_view}
use Rattle.rox_scan.specs.declared.cursor.Cursor.{Cursor}
use Rattle.rox_values.specs.Contexts.{context_of}
use Rattle.rox_values.specs.DeclaredEntities.{AreDeclared}
use Rattle.rox_values.specs.declared.context.Context.{Context}
use Rattle.rox_values.specs.declared.parse_error.ParseError.{ParseError}
use Rattle.rox_builder.specs.BuilderState.{HoldsState, IsConsistent, ParsesToHeld}
use Rattle.rox_builder.specs.declared.builder.Builder.{Builder}

-- A replacement text that is character data joined the text that may continue, or the builder holds equal rows.
pub record JoinsWhole (context : Context) (text : Cursor) (old new : Builder) (result : Result Bool AllocError) : Type 0 where
  pub value : IfOk result (λ yes. yes ≡ true → (limit end after : ℕ) (es : List Entity) (s : State) → HoldsState limit end s old
      → ParsesToHeld limit end (Ok tt) new (machine.opener limit es context.depth_left context.main (replacement_view text) after s))
  pub other : IfOk result (λ yes. yes ≡ false → (limit end : ℕ) (s : State) → HoldsState limit end s old → HoldsState limit end s new)
  pub tables : new.tables ≡ old.tables
  pub opened : new.opened ≡ old.opened

-- A replacement text was read, whose reference ends at `after`.
pub record OpensText (context : Context) (after : ℕ) (text : Cursor) (old new : Builder) (result : Result (Unit {0}) ParseError) : Type 0 where
  pub value : (limit end : ℕ) (es : List Entity) (s : State) → AreDeclared es context.entities.now → HoldsState limit end s old
      → ParsesToHeld limit end result new (machine.opener limit es context.depth_left context.main (replacement_view text) after s)
  pub fine : OnOk result (IsConsistent new.tables new.opened.items)

-- The content of a replacement text was read.
pub record ReadsText (context : Context) (text : Cursor) (old new : Builder) (result : Result (Unit {0}) ParseError) : Type 0 where
  pub value : (limit end : ℕ) (es : List Entity) (s : State) → AreDeclared es context.entities.now → HoldsState limit end s old → s.at ≡ text.pos
      → ParsesToHeld limit end result new (machine.drive_text (context_of limit es context) (length text.text.now) text.text.now s)
  pub fine : OnOk result (IsConsistent new.tables new.opened.items)
