-- What results from a document type declaration, while a resolver is asked.
use Rattle.std.specs.Prelude.{◌≡◌, ℕ, Bool, true, false, List, ◌++◌, Option, Result, Ok, Err, option_map, string_bytes}
use Rattle.rox_grammar.specs.Doctype.{Request, Asked}
use Rattle.rox_reading.specs.Refusals.{here, there, refused}
use Rattle.rox_reading.specs.Doctype.{Asks, Definition, Dtd, defined, replies_of, AreTextReplies}
use Rattle.rox_reading.specs.Machine.{at_place}
use Rattle.rox_reading.specs.Answering.{Answered, Continues}
use Rattle.rox_reading.specs.Stopping.{Stops}
use Rattle.rox_prolog.specs.Requests.{Reply, AreAllowed, MayAsk}
use Rattle.rox_scan.specs.Views.{replacement_view}
use Rattle.rox_scan.specs.declared.cursor.Cursor.{Cursor}
use Rattle.rox_values.specs.DeclaredEntities.{AreDeclared}
use Rattle.rox_builder.specs.BuilderState.{IsInState, IsConsistent}
use Rattle.rox_builder.specs.declared.builder.Builder.{Builder}
use Rattle.rox_values.specs.declared.entities.Entities.{Entities}
use Rattle.rox_values.specs.declared.parse_error.ParseError.{ParseError}
use Rattle.rox_values.specs.declared.parse_error.ParseError.TheVariants as code

-- Each answer of `asked` is allowed for its request, and is a text.
pub record AreGiven (allows : Request → Reply → Type 0) (asked : List Asked) : Type 0 where
  pub allowed : AreAllowed allows asked
  pub texts : AreTextReplies (replies_of asked)

-- Why a run stopped after the requests `asked`, whatever replies follow. Nothing is stated if memory ran out.
abbrev pub StopsBy : {A : Type 0} → (Request → Reply → Type 0) → (run : List Reply → Asks A) → List Asked → ParseError → Type 0
StopsBy allows run asked code.Memory = Unit {0}
StopsBy allows run asked (code.Fault f) = Stops run asked (here f)
StopsBy allows run asked (code.FaultIn source f) = Stops run asked (there source.now f)
StopsBy allows run asked (code.Resolver at message) =
    (request : Request) × allows request (Err (string_bytes message)) × Stops run asked (refused request at (string_bytes message))

-- How a run ended: what holds of its value, or why it stopped.
abbrev pub Ends : {A T : Type 0} → (Request → Reply → Type 0) → (run : List Reply → Asks A) → List Asked → (T → Type 0) → Result T ParseError → Type 0
Ends allows run asked ok (Ok x) = ok x
Ends allows run asked ok (Err e) = StopsBy allows run asked e

abbrev pub AskOutcome : {A T : Type 0} → (Request → Reply → Type 0) → (run : List Reply → Asks A) → (List Asked → T → Type 0) → Result T ParseError → Type 0
AskOutcome allows run ok result = (asked : List Asked) × AreGiven allows asked × Ends allows run asked (ok asked) result

-- The definition `d` gave the text `text`, or none, whatever replies follow.
abbrev pub IsDefined : Definition → ℕ → List Asked → Option Cursor → Type 0
IsDefined d at asked text = (more : List Reply) → defined d at (replies_of asked ++ more) ≡ (asked, Ok (option_map replacement_view text, more))

-- The declaration of an entity was read up to the cursor.
pub record IsEntityRead (run : List Reply → Asks Dtd) (d : Dtd) (c : Cursor) (es : Entities) (asked : List Asked) : Type 0 where
  pub dtd : Dtd
  pub answered : Answered run asked dtd
  pub state : dtd.state ≡ at_place c.pos d.state
  pub declared : AreDeclared dtd.entities es

-- A document type declaration was read: the cursor is after it, and the builder and the entities have what it declares.
pub record IsDoctypeRead (limit end : ℕ) (run : List Reply → Asks Dtd) (c : Cursor) (b : Builder) (es : Entities) (asked : List Asked) : Type 0 where
  pub dtd : Dtd
  pub answered : Answered run asked dtd
  pub sees : IsInState limit end dtd.state c b
  pub declared : AreDeclared dtd.entities es

-- The start of a document type declaration at `i` was read, and at most `n` more items of its subset may be.
pub record IsSubsetSoFar (limit end i n : ℕ) (src : List ℕ) (allows : Request → Reply → Type 0) (run : List Reply → Asks Dtd) (c : Cursor) (b : Builder) (es : Entities) : Type 0 where
  pub asked : List Asked
  pub given : AreGiven allows asked
  pub dtd : Dtd
  pub continues : Continues run asked limit i n src dtd
  pub sees : IsInState limit end dtd.state c b
  pub declared : AreDeclared dtd.entities es

-- How an item ended: the declaration is read, or continues with at most `n` items.
abbrev pub ItemOutcome : (limit end i n : ℕ) → List ℕ → (Request → Reply → Type 0) → (run : List Reply → Asks Dtd) → Cursor → Builder → Entities → Result Bool ParseError → Type 0
ItemOutcome limit end i n src allows run c b es (Ok true) = (asked : List Asked) × AreGiven allows asked × IsDoctypeRead limit end run c b es asked
ItemOutcome limit end i n src allows run c b es (Ok false) = IsSubsetSoFar limit end i n src allows run c b es
ItemOutcome limit end i n src allows run c b es (Err e) = (asked : List Asked) × AreGiven allows asked × StopsBy allows run asked e

-- The resolver may be asked, if there is one, and what the builder holds is consistent.
pub record MayReadAsking {R : Type 0} (can : R → Type 0) (resolver : Option R) (b : Builder) : Type 0 where
  pub may : MayAsk can resolver
  pub fine : IsConsistent b.tables b.opened.items

-- `place` is true, and the resolver may be asked, if there is one.
pub record MayAskHere {R : Type 0} (place : Type 0) (can : R → Type 0) (resolver : Option R) : Type 0 where
  pub here : place
  pub may : MayAsk can resolver
