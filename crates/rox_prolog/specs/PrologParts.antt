-- What is read of the parts of a prolog, and that reading continues in its source.
use Rattle.std.specs.Prelude.{◌≡◌, ℕ, suc, Bool, List, OnOk, Result, length}
use Rattle.rox_grammar.specs.Doctype.{Request, Asked}
use Rattle.rox_grammar.specs.FixedTexts.{at}
use Rattle.rox_grammar.specs.TextStart.{after_bom}
use Rattle.rox_grammar.specs.declared.failure.Failure.{Failure}
use Rattle.rox_grammar.specs.declared.fault.Fault.{Fault}
use Rattle.rox_grammar.specs.declared.fault.Word.TheVariants as word
use Rattle.rox_reading.specs.Answering.{left_with}
use Rattle.rox_reading.specs.Doctype as reading
use Rattle.rox_reading.specs.Doctype.{Asks, Dtd}
use Rattle.rox_reading.specs.Lexical.{◌>>=◌}
use Rattle.rox_reading.specs.Refusals.{lifted}
use Rattle.rox_reading.specs.State.{State, start_state}
use Rattle.rox_reading.specs.WholeText as whole
use Rattle.rox_reading.specs.WholeText.{misc, prolog, doctype}
use Rattle.rox_scan.specs.declared.cursor.Cursor.{Cursor}
use Rattle.rox_values.specs.DeclaredEntities.{AreDeclared}
use Rattle.rox_values.specs.declared.entities.Entities.{Entities}
use Rattle.rox_values.specs.declared.parse_error.ParseError.{ParseError}
use Rattle.rox_builder.specs.BuilderState.{GoesOn, IsInState, ScansTo}
use Rattle.rox_builder.specs.declared.builder.Builder.{Builder}
use Rattle.rox_prolog.specs.Asking.{AskOutcome, IsDoctypeRead, IsEntityRead, IsSubsetSoFar, ItemOutcome}
use Rattle.rox_prolog.specs.Requests.{Reply}

-- What is before a document type declaration.
abbrev pub beginning : ℕ → List ℕ → Result State Fault
beginning limit src = prolog src (after_bom src) >>= λ i. misc limit (length src) src (start_state i)

-- The document type declaration was read, with what follows it, or there is none.
pub record IsDoctypeReadTo (limit end : ℕ) (allow : Bool) (src : List ℕ) (d : Dtd) (c : Cursor) (b : Builder) (es : Entities) (asked : List Asked) (some : Bool) : Type 0 where
  pub read : IsDoctypeRead limit end (λ replies. doctype limit allow src (left_with replies d)) c b es asked
  pub told : some ≡ at word.DoctypeStart src d.state.at

-- The declaration of an entity was read.
pub record ReadsEntity (allows : Request → Reply → Type 0) (old new : Cursor) (es after : Entities) (result : Result (Unit {0}) ParseError) : Type 0 where
  pub value : (d : Dtd) → old.pos ≡ d.state.at → AreDeclared d.entities es
      → AskOutcome allows (λ replies. reading.entity_step old.text.now (left_with replies d)) (λ asked x. IsEntityRead (λ replies. reading.entity_step old.text.now (left_with replies d)) d new after asked) result
  pub source : new.text ≡ old.text

-- An item of an internal subset was read. Its declaration starts at `i`.
pub record ReadsItem (allows : Request → Reply → Type 0) (i : ℕ) (old new : Cursor) (b after : Builder) (es others : Entities) (result : Result Bool ParseError) : Type 0 where
  pub value : (limit end n m : ℕ) (run : List Reply → Asks Dtd) → n ≡ suc m → IsSubsetSoFar limit end i n old.text.now allows run old b es → ItemOutcome limit end i m old.text.now allows run new after others result
  pub goes : OnOk result (GoesOn old new after)

-- A document type declaration, or the rest of one, was read as `read` does.
pub record ReadsDeclaration (allows : Request → Reply → Type 0) (read : ℕ → Dtd → Asks Dtd) (old new : Cursor) (b after : Builder) (es others : Entities) (result : Result (Unit {0}) ParseError) : Type 0 where
  pub value : (limit end : ℕ) (d : Dtd) → IsInState limit end d.state old b → AreDeclared d.entities es
      → AskOutcome allows (λ replies. read limit (left_with replies d)) (λ asked x. IsDoctypeRead limit end (λ replies. read limit (left_with replies d)) new after others asked) result
  pub goes : OnOk result (GoesOn old new after)

-- The document type declaration, with what follows it, was read, if it is at the cursor.
pub record ReadsDoctype (allows : Request → Reply → Type 0) (allow : Bool) (old new : Cursor) (b after : Builder) (es others : Entities) (result : Result Bool ParseError) : Type 0 where
  pub value : (limit end : ℕ) (d : Dtd) → IsInState limit end d.state old b → AreDeclared d.entities es
      → AskOutcome allows (λ replies. whole.doctype limit allow old.text.now (left_with replies d)) (λ asked some. IsDoctypeReadTo limit end allow old.text.now d new after others asked some) result
  pub goes : OnOk result (GoesOn old new after)

-- What is before a document type declaration was read.
pub record ReadsStart (old new : Cursor) (b after : Builder) (result : Result (Unit {0}) Failure) : Type 0 where
  pub value : (limit end : ℕ) → old.pos ≡ after_bom old.text.now → IsInState limit end (start_state old.pos) old b → ScansTo limit end result new after (lifted (beginning limit old.text.now))
  pub goes : OnOk result (GoesOn old new after)
