-- The error that a caller gets for a text that is refused, in terms of the reading.
use Rattle.std.specs.Prelude.{◌≡◌, ℕ, Bool, List, Err, String, string_bytes}
use Rattle.std.specs.declared.alloc.Global.{Global}
use Rattle.rox_grammar.specs.Spans.{NamesText}
use Rattle.rox_grammar.specs.Doctype.{Request, Asked}
use Rattle.rox_reading.specs.Refusals.{Refusal, here, there, refused}
use Rattle.rox_reading.specs.Doctype.{Reply, replies_of, AreTextReplies}
use Rattle.rox_reading.specs.Stopping.{Stops}
use Rattle.rox_reading.specs.WholeText.{reading}
use Rattle.rox_build.specs.Requests.{AreAllowed}
use Rattle.rox_error.specs.FaultErrors.{position_at, IsErrorOf}
use Rattle.rox_error.specs.declared.error.Error.{Error}
use Rattle.rox_error.specs.declared.error.Error.TheVariants as error

-- The error that a caller gets for this refusal of the text. A fault gives its kind, its names, and its position in the source in
-- which it counts. The resolver's own refusal gives its words, and the position in the text where the request is made.
abbrev pub IsErrorOfRefusal : (text : List ℕ) → Refusal → Error → Type 0
IsErrorOfRefusal text (here f) e = NamesText text f × IsErrorOf text f e
IsErrorOfRefusal text (there source f) e = NamesText source f × IsErrorOf source f e
IsErrorOfRefusal text (refused request at message) e = (words : String Global) × (string_bytes words ≡ message) × (e ≡ error.EntityResolver (position_at text at) words)

-- If the resolver refused, the refusal is one that it may reply to that request.
abbrev pub MayRefuse : (allows : Request → Reply → Type 0) → Refusal → Type 0
MayRefuse allows (here f) = Unit {0}
MayRefuse allows (there source f) = Unit {0}
MayRefuse allows (refused request at message) = allows request (Err message)

-- The error is that of the first refusal in the order of reading. Before it these requests were made, with allowed answers. The
-- refusal does not depend on later replies.
pub record IsFirst (limit : ℕ) (allow : Bool) (allows : Request → Reply → Type 0) (text : List ℕ) (e : Error) : Type 0 where
  pub asked : List Asked
  pub allowed : AreAllowed allows asked
  pub texts : AreTextReplies (replies_of asked)
  pub refusal : Refusal
  pub may : MayRefuse allows refusal
  pub stops : Stops (λ replies. reading limit allow replies text) asked refusal
  pub told : IsErrorOfRefusal text refusal e
