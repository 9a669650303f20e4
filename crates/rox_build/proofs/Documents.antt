-- The parts of a whole text, put together.
use Rattle.std.proofs.Common.{◌≡◌, ℕ, ◌<◌, ◌≤◌, Bool, true, false, List, Result, Ok, Err, length, refl, ap, ◌∙◌, lt-ltb, le-ltb, if◌then◌else◌, arith}
use Rattle.std.specs.Prelude.{string_bytes}
use Rattle.rox_grammar.specs.declared.fault.Fault.TheVariants as fault
use Rattle.rox_grammar.specs.TextStart.{after_bom}
use Rattle.rox_grammar.specs.Forest.{Forest}
use Rattle.rox_grammar.specs.Written.{Item}
use Rattle.rox_grammar.specs.Entities.{Entity}
use Rattle.rox_grammar.specs.Doctype.{Request, Asked}
use Rattle.rox_reading.specs.Lexical.{◌>>=◌}
use Rattle.rox_reading.specs.Refusals.{Refusal, here, there, refused, lifted}
use Rattle.rox_reading.specs.State.{State, start_state}
use Rattle.rox_reading.specs.Doctype.{Reply, Dtd}
use Rattle.rox_reading.specs.Answering.{Answered, Yields}
use Rattle.rox_reading.specs.Stopping.{Stops}
use Rattle.rox_reading.specs.WholeText.{misc, prolog, body, finished}
use Rattle.rox_reading.proofs.Settling.{doctype_run, whole_run, before_doctype, body_stops, finished_stops, whole_read}
use Rattle.rox_reading.proofs.FaultsAlone.{alone_lifted, body_alone}
use Rattle.rox_prolog.specs.Asking.{StopsBy}
use Rattle.rox_values.specs.Refusals.{IsRefusal}
use Rattle.rox_build.specs.WholeTexts.{root_read}
use Rattle.rox_values.specs.declared.parse_error.ParseError.{ParseError}
use Rattle.rox_values.specs.declared.parse_error.ParseError.TheVariants as code
use Rattle.rox_theory.proofs.FailedReadings.{bind_err}

-- ---- one after the other

refuses_first : {A B : Type 0} (r : Result A Refusal) (f : A → Result B Refusal) (e : ParseError) → IsRefusal e r → IsRefusal e (r >>= f)
refuses_first r f e h = grind arith

-- ---- the root element and what follows it

pub body_fails : (limit : ℕ) (es : List Entity) (src : List ℕ) (s : State) (e : ParseError) → IsRefusal e (body limit es src s) → IsRefusal e (root_read limit es src s)
body_fails limit es src s e h = refuses_first (body limit es src s) _ e h

finished_more : (src : List ℕ) (t : State) (some : Bool) → t.at < length src → finished src (t, some) ≡ Err (fault.UnknownToken t.at)
unfolding finished
finished_more src t some h = let k = lt-ltb _ _ h in rw k refl

finished_all : (src : List ℕ) (t : State) (some : Bool) → length src ≤ t.at → finished src (t, some) ≡ (if some then Ok t.done else Err fault.NoRootNode)
unfolding finished
finished_all src t some h = let k = le-ltb _ _ h in rw k refl

module _ (limit : ℕ) (es : List Entity) (src : List ℕ) (s t : State) (some : Bool) (is : body limit es src s ≡ Ok (t, some)) where
  root_is : root_read limit es src s ≡ lifted (finished src (t, some))
  root_is = ap (λ (r : Result (State × Bool) Refusal). r >>= λ x. lifted (finished src x)) is

  pub more_stands : t.at < length src → root_read limit es src s ≡ Err (here (fault.UnknownToken t.at))
  more_stands h = root_is ∙ ap lifted (finished_more src t some h)

  pub no_element : length src ≤ t.at → some ≡ false → root_read limit es src s ≡ Err (here fault.NoRootNode)
  no_element h none = root_is ∙ ap lifted (finished_all src t some h) ∙ ap (λ (b : Bool). lifted (if b then Ok t.done else Err fault.NoRootNode)) none

  pub an_element : length src ≤ t.at → some ≡ true → root_read limit es src s ≡ Ok t.done
  an_element h one = root_is ∙ ap lifted (finished_all src t some h) ∙ ap (λ (b : Bool). lifted (if b then Ok t.done else Err fault.NoRootNode)) one

-- ---- the whole

module _ (limit : ℕ) (allow : Bool) (src : List ℕ) (i : ℕ) (is : prolog src (after_bom src) ≡ Ok i) (s : State) (before : misc limit (length src) src (start_state i) ≡ Ok s) (asked : List Asked) (d : Dtd)
    (read : Answered (doctype_run limit allow src (before_doctype limit allow src i is s before)) asked d) where
  root_stops : (r : Refusal) → root_read limit d.entities src d.state ≡ Err r → Stops (whole_run limit allow src) asked r
  root_stops r h = grind (arith, body_stops, finished_stops)

  -- nothing is asked behind the declaration
  not_refused : (request : Request) (p : ℕ) (message : List ℕ) → root_read limit d.entities src d.state ≡ Err (refused request p message) → ⊥
  not_refused request p message h =
      bind_err (body limit d.entities src d.state) _ (refused request p message) h (λ e. (body_alone limit d.entities src d.state).is (refused request p message) e)
      (λ x one e. (alone_lifted (finished src x)).is (refused request p message) e)

  pub root_fails : (allows : Request → Reply → Type 0) (e : ParseError) → IsRefusal e (root_read limit d.entities src d.state) → StopsBy allows (whole_run limit allow src) asked e
  root_fails allows code.Memory h = tt
  root_fails allows (code.Fault f) h = root_stops (here f) h
  root_fails allows (code.FaultIn source f) h = root_stops (there source.now f) h
  root_fails allows (code.Resolver p message) h = absurd (not_refused h.0 p (string_bytes message) h.1)

  pub root_ends : (tops : Forest Item) → root_read limit d.entities src d.state ≡ Ok tops → Yields (whole_run limit allow src) asked tops
  root_ends tops h = grind (arith, whole_read)
