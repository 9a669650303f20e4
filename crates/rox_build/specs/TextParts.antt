-- What is read of the parts of a whole text, and that reading continues in its source.
use Rattle.std.specs.Prelude.{◌≡◌, ℕ, Bool, List, OnOk, Result}
use Rattle.rox_grammar.specs.Entities.{Entity}
use Rattle.rox_grammar.specs.Doctype.{Request}
use Rattle.rox_grammar.specs.State.{root}
use Rattle.rox_grammar.specs.TextStart.{after_bom}
use Rattle.rox_reading.specs.State.{State, start_state}
use Rattle.rox_reading.specs.WholeText as whole
use Rattle.rox_scan.specs.declared.cursor.Cursor.{Cursor}
use Rattle.rox_values.specs.DeclaredEntities.{AreDeclared}
use Rattle.rox_values.specs.declared.entities.Entities.{Entities}
use Rattle.rox_values.specs.declared.parse_error.ParseError.{ParseError}
use Rattle.rox_prolog.specs.Asking.{AskOutcome}
use Rattle.rox_builder.specs.BuilderState.{GoesOn, IsConsistent, IsInState, ParsesToWith}
use Rattle.rox_prolog.specs.Requests.{Reply}
use Rattle.rox_build.specs.WholeTexts.{Finishes, IsWholeRead, root_read}
use Rattle.rox_builder.specs.declared.builder.Builder.{Builder}

-- The root element and what follows it were read, if it is at the cursor.
pub record ReadsBody (entities : Entities) (old new : Cursor) (b after : Builder) (result : Result Bool ParseError) : Type 0 where
  pub value : (limit end : ℕ) (es : List Entity) (s : State) → AreDeclared es entities → IsInState limit end s old b → ParsesToWith limit end result new after (whole.body limit es old.text.now s)
  pub goes : OnOk result (GoesOn old new after)

-- The root element and what follows it were read, up to the end of the text.
pub record ReadsRest (entities : Entities) (old new : Cursor) (b after : Builder) (result : Result (Unit {0}) ParseError) : Type 0 where
  pub value : (limit end : ℕ) (es : List Entity) (s : State) → AreDeclared es entities → IsInState limit end s old b → s.stack ≡ root → Finishes end result after (root_read limit es old.text.now s)
  pub goes : OnOk result (GoesOn old new after)

-- A whole text after its byte order mark was read.
pub record ReadsDocument (allows : Request → Reply → Type 0) (allow : Bool) (c : Cursor) (b after : Builder) (result : Result Bool ParseError) : Type 0 where
  pub value : (limit end : ℕ) → c.pos ≡ after_bom c.text.now → IsInState limit end (start_state c.pos) c b
      → AskOutcome allows (λ replies. whole.reading limit allow replies c.text.now) (λ asked dtd. IsWholeRead limit end allow c.text.now after asked dtd) result
  pub fine : OnOk result (IsConsistent after.tables after.opened.items)
