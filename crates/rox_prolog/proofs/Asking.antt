-- What a resolver's answer makes of a definition, whatever replies follow.
use Rattle.std.proofs.Common.{◌≡◌, ℕ, List, [], ◌∷◌, ◌++◌, Option, Some, None, Ok, Err, refl, ap, append-nil}
use Rattle.std.specs.Prelude.{IsUtf8, string_bytes}
use Rattle.rox_grammar.specs.declared.fault.Fault.{Fault}
use Rattle.rox_grammar.specs.Names.{spaces_end}
use Rattle.rox_grammar.specs.Entities.{Replacement}
use Rattle.rox_grammar.specs.Doctype.{Request, Asked}
use Rattle.rox_reading.specs.Refusals.{Refusal, here, there, refused}
use Rattle.rox_reading.specs.Lexical.{byte_at}
use Rattle.rox_reading.specs.Doctype.{Reply, Asks, Dtd, EntityHead, Definition, outer, answer_text, defined, replies_of, entity_head_at, definition_at, entity_step}
use Rattle.rox_reading.specs.Answering.{Answered, left_with}
use Rattle.rox_reading.specs.Stopping.{Stops}
use Rattle.rox_reading.proofs.Settling.{entity_run, declared_there}
use Rattle.rox_prolog.specs.Asking.{AreGiven, StopsBy}
use Rattle.rox_values.specs.declared.parse_error.ParseError.{ParseError}
use Rattle.rox_values.specs.declared.parse_error.ParseError.TheVariants as code

-- it is this text, or none
abbrev pub IsText : Definition → ℕ → List Asked → Option Replacement → Type 0
IsText d at asked text = (more : List Reply) → defined d at (replies_of asked ++ more) ≡ (asked, Ok (text, more))

module _ (allows : Request → Reply → Type 0) where
  pub none_given : AreGiven allows []
  none_given = record { allowed = tt; texts = tt }

  module _ (request : Request) (at : ℕ) where
    -- a request and its answer
    abbrev pub once : Option (List ℕ) → List Asked
    once answer = record { request = request; answer = answer } ∷ []

    pub text_given : (answer : List ℕ) → allows request (Ok (Some answer)) → IsUtf8 answer → AreGiven allows (once (Some answer))
    text_given answer allowed text = record { allowed = (allowed, tt); texts = (text, tt) }

    pub text_answered : (answer : List ℕ) (text : Option Replacement) → answer_text (Some answer) ≡ Ok text → IsText (outer request) at (once (Some answer)) text
    text_answered answer text h more = rw h refl

    pub text_refused : (answer : List ℕ) (e : Refusal) → answer_text (Some answer) ≡ Err e → Stops (defined (outer request) at) (once (Some answer)) e
    text_refused answer e h more = rw h refl

    pub nothing_given : allows request (Ok None) → AreGiven allows (once None)
    nothing_given allowed = record { allowed = (allowed, tt); texts = (tt, tt) }

    pub nothing_answered : IsText (outer request) at (once None) None
    unfolding answer_text
    nothing_answered more = refl

    pub resolver_refuses : (message : List ℕ) → Stops (defined (outer request) at) [] (refused request at message)
    resolver_refuses message more = refl

-- ---- why a part stopped

-- a whole stops as its part does
pub stops_by : {A B : Type 0} (allows : Request → Reply → Type 0) (run : List Reply → Asks A) (whole : List Reply → Asks B) (asked more_asked : List Asked)
    → ((e : Refusal) → Stops run asked e → Stops whole more_asked e) → (e : ParseError) → StopsBy allows run asked e → StopsBy allows whole more_asked e
stops_by allows run whole asked more_asked on code.Memory h = tt
stops_by allows run whole asked more_asked on (code.Fault f) h = on (here f) h
stops_by allows run whole asked more_asked on (code.FaultIn source f) h = on (there source.now f) h
stops_by allows run whole asked more_asked on (code.Resolver at message) h = (h.0, h.1, on (refused h.0 at (string_bytes message)) h.2)

-- ---- a declaration of an entity

module _ (src : List ℕ) (d : Dtd) (head : EntityHead × ℕ) (is_head : entity_head_at src d.state.at ≡ Ok head) (definition : Definition) (j : ℕ)
    (is : definition_at head.0.parameter src head.1 ≡ Ok (definition, j)) where
  pub definition_refused : (asked : List Asked) (e : Refusal) → Stops (defined definition j) asked e → Stops (entity_run src d) asked e
  unfolding entity_step
  definition_refused asked e h more = let r = h more in rw (is_head, is, r) refl

  module _ (asked : List Asked) (text : Option Replacement) (h : IsText definition j asked text) where
    pub entity_unclosed : (f : Fault) → byte_at 62 src (spaces_end src j) ≡ Err f → Stops (entity_run src d) asked (here f)
    unfolding entity_step
    entity_unclosed f k more = let r = h more in rw (is_head, is, r, k) (ap (λ (l : List Asked). (l, Err (here f))) (append-nil asked))

    pub entity_read : (x : Unit {0}) (k : ℕ) → byte_at 62 src (spaces_end src j) ≡ Ok (x, k) → Answered (entity_run src d) asked (declared_there d head.0 text k)
    unfolding entity_step
    entity_read x k e more =
        rw (is_head, is, (h more), e) (ap (λ (l : List Asked). (l, Ok (left_with more (declared_there d head.0 text k)))) (append-nil asked))
