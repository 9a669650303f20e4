-- The parts of a prolog, put together.
use Rattle.std.proofs.Common.{◌≡◌, ℕ, Bool, true, false, List, [], Result, Ok, Err, length, refl, ap, ◌∙◌, if◌then◌else◌, arith}
use Rattle.rox_grammar.specs.declared.fault.Fault.{Fault}
use Rattle.rox_grammar.specs.declared.fault.Word.TheVariants as word
use Rattle.rox_grammar.specs.FixedTexts.{at}
use Rattle.rox_grammar.specs.TextStart.{after_bom}
use Rattle.rox_grammar.specs.Doctype.{Request, Asked}
use Rattle.rox_reading.specs.Lexical.{◌>>=◌}
use Rattle.rox_reading.specs.Markup.{xml_decl_at}
use Rattle.rox_reading.specs.Refusals.{here, lifted}
use Rattle.rox_reading.specs.State.{State, start_state}
use Rattle.rox_reading.specs.Doctype.{Reply, Dtd}
use Rattle.rox_reading.specs.Answering.{Answered}
use Rattle.rox_reading.specs.Stopping.{Stops}
use Rattle.rox_reading.specs.WholeText.{misc, prolog}
use Rattle.rox_reading.specs.HasDoctype.{begins_doctype, has_doctype}
use Rattle.rox_reading.proofs.Settling.{doctype_run, whole_run, prolog_stops, misc_stops, behind_stops, step_run}
use Rattle.rox_markup.specs.DoctypeViews.{xml_decl_if}
use Rattle.rox_grammar.specs.declared.failure.Failure.{Failure}
use Rattle.rox_prolog.specs.Asking.{StopsBy}
use Rattle.rox_values.specs.Refusals as refusing
use Rattle.rox_values.specs.Refusals.{of_failure}
use Rattle.rox_prolog.specs.PrologParts.{beginning}
use Rattle.rox_theory.proofs.Basics.{bind_ok}
use Rattle.rox_theory.proofs.FailedReadings.{bind_err}

-- ---- before the document type declaration

prolog_is : (src : List ℕ) (i : ℕ) → prolog src i ≡ (xml_decl_if src i >>= λ x. Ok x.1)
unfolding prolog
prolog_is src i = by_test (at word.XmlDeclStart src i)
  where
    by_test : (b : Bool) → (if b then (xml_decl_at src i >>= λ x. Ok x.1) else Ok i) ≡ ((if b then xml_decl_at src i else Ok (tt, i)) >>= λ x. Ok x.1)
    by_test true = refl
    by_test false = refl

prolog_read : (src : List ℕ) (i j : ℕ) → xml_decl_if src i ≡ Ok (tt, j) → prolog src i ≡ Ok j
prolog_read src i j h = prolog_is src i ∙ ap (λ (r : Result (Unit {0} × ℕ) Fault). r >>= λ x. Ok x.1) h

pub declaration_fails : (limit : ℕ) (src : List ℕ) (f : Fault) → xml_decl_if src (after_bom src) ≡ Err f → lifted (beginning limit src) ≡ Err (here f)
declaration_fails limit src f h =
    let k : prolog src (after_bom src) ≡ Err f = prolog_is src (after_bom src) ∙ ap (λ (r : Result (Unit {0} × ℕ) Fault). r >>= λ x. Ok x.1) h in
    ap (λ (r : Result ℕ Fault). lifted (r >>= λ i. misc limit (length src) src (start_state i))) k

pub declaration_read : (limit : ℕ) (src : List ℕ) (j : ℕ) → xml_decl_if src (after_bom src) ≡ Ok (tt, j) → beginning limit src ≡ misc limit (length src) src (start_state j)
declaration_read limit src j h = ap (λ (r : Result ℕ Fault). r >>= λ i. misc limit (length src) src (start_state i)) (prolog_read src (after_bom src) j h)

pub beginning_parts : {P : Type 0} (limit : ℕ) (src : List ℕ) (s : State) → beginning limit src ≡ Ok s
    → ((i : ℕ) → prolog src (after_bom src) ≡ Ok i → misc limit (length src) src (start_state i) ≡ Ok s → P) → P
beginning_parts limit src s h go = bind_ok (prolog src (after_bom src)) _ s h go

beginning_stops : (limit : ℕ) (allow : Bool) (src : List ℕ) (f : Fault) → beginning limit src ≡ Err f → Stops (whole_run limit allow src) [] (here f)
beginning_stops limit allow src f h = bind_err (prolog src (after_bom src)) _ f h (λ e. prolog_stops limit allow src f e) (λ i is e. misc_stops limit allow src i is f e)

pub beginning_fails : (allows : Request → Reply → Type 0) (limit : ℕ) (allow : Bool) (src : List ℕ) (e : Failure) → refusing.IsFailure e (lifted (beginning limit src))
    → StopsBy allows (whole_run limit allow src) [] (of_failure e)
beginning_fails allows limit allow src e h = grind (arith, beginning_stops)

pub told : (limit : ℕ) (src : List ℕ) (s : State) → beginning limit src ≡ Ok s → has_doctype limit src ≡ at word.DoctypeStart src s.at
unfolding has_doctype
told limit src s h = ap (begins_doctype src) h

-- ---- behind it

-- what follows the declaration has a fault
pub behind_fails : (allows : Request → Reply → Type 0) (limit : ℕ) (allow : Bool) (src : List ℕ) (d e : Dtd) (asked : List Asked) (g : Failure) → at word.DoctypeStart src d.state.at ≡ true → allow ≡ true
    → Answered (step_run limit src d) asked e → refusing.IsFailure g (lifted (misc limit (length src) src e.state)) → StopsBy allows (doctype_run limit allow src d) asked (of_failure g)
behind_fails allows limit allow src d e asked g is may read h = grind (arith, behind_stops)
