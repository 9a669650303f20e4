-- What comes of a reading comes of each that is given the same answers: replies beyond those that it takes change nothing.
use Rattle.std.proofs.Common.{◌≡◌, ℕ, zero, suc, ◌+◌, ◌==◌, ◌||◌, nat_le, Bool, cond, List, [], ◌∷◌, ◌++◌, length, Result, Ok, Err, refl, subst, arith}
use Rattle.std.specs.Prelude.{Option, slice_index}
use Rattle.std.proofs.lemmas.Grind.{common_steps}
use Rattle.rox_grammar.specs.declared.fault.Fault.{Fault}
use Rattle.rox_grammar.specs.declared.fault.Fault.TheVariants as fault
use Rattle.rox_grammar.specs.declared.fault.Due.TheVariants as due
use Rattle.rox_grammar.specs.declared.fault.Word.TheVariants as word
use Rattle.rox_grammar.specs.FixedTexts.{at}
use Rattle.rox_grammar.specs.Forest.{Forest}
use Rattle.rox_grammar.specs.Written.{Item}
use Rattle.rox_grammar.specs.Names.{spaces_end}
use Rattle.rox_grammar.specs.TextStart.{after_bom}
use Rattle.rox_grammar.specs.Entities.{Replacement}
use Rattle.rox_grammar.specs.Doctype.{Request, Asked, entry}
use Rattle.rox_reading.specs.Refusals.{Refusal, here, lifted}
use Rattle.rox_reading.specs.Lexical.{byte_at}
use Rattle.rox_reading.specs.State.{State, start_state}
use Rattle.rox_reading.specs.Machine.{comment_step, instruction_step, at_place}
use Rattle.rox_reading.specs.Doctype.{Reply, replies_of, Asks, asks_nothing, ◌>>>◌, Dtd, with_state, Definition, outer, answer_text, defined, entity_step, skipped_declaration, subset_end, subset, doctype_head_at, doctype_step}
use Rattle.rox_reading.specs.WholeText.{misc, body, finished, prolog, doctype, reading}
use Rattle.rox_reading.specs.Answering.{left_with, having_asked, Answered, Yields}
use Rattle.rox_reading.specs.Stopping.{with_refusal, Stops}
use Rattle.rox_reading.proofs.Answering.{replies_then}
use Rattle.rox_theory.proofs.Asking.{asks_none}

-- Each reading that takes these replies has this result, whatever replies follow.
abbrev pub Settled : (run : List Reply → Asks Dtd) → Asks Dtd → Type 0
Settled run (asked, Ok d) = Answered run asked d
Settled run (asked, Err e) = Stops run asked e

abbrev pub SettledWhole : {A : Type 0} → (run : List Reply → Asks A) → Asks A → Type 0
SettledWhole run (asked, Ok x) = Yields run asked x
SettledWhole run (asked, Err e) = Stops run asked e

-- A run gives the same for the same answers.
abbrev Same : (List Reply → Asks Dtd) → Type 0
Same run = (rs : List Reply) → Settled run (run rs)

-- The same of a run to something else.
abbrev SameWhole : {A : Type 0} → (List Reply → Asks A) → Type 0
SameWhole run = (rs : List Reply) → SettledWhole run (run rs)

-- ---- what asks nothing

same_done : (d : Dtd) → Same (λ rs. ([], Ok (left_with rs d)))
same_done d rs more = refl

same_refused : (e : Refusal) → Same (λ rs. ([], Err e))
same_refused e rs more = refl

same_choice : (b : Bool) (x y : List Reply → Asks Dtd) → Same x → Same y → Same (λ rs. cond b (x rs) (y rs))
same_choice b x y h k = grind arith

same_behind : {A : Type 0} (r : Result A Refusal) (f : A → List Reply → Asks Dtd) → ((x : A) → Same (f x)) → Same (λ rs. asks_nothing r >>> λ x. f x rs)
same_behind r f h = grind arith

same_behind_whole : {A B : Type 0} (r : Result A Refusal) (f : A → List Reply → Asks B) → ((x : A) → SameWhole (f x)) → SameWhole (λ rs. asks_nothing r >>> λ x. f x rs)
same_behind_whole r f h = grind arith

-- ---- one after the other

-- What follows a run that came to an end.
then_settled : (x : List Reply → Asks Dtd) (f : Dtd → Asks Dtd) (first : List Asked) (d : Dtd) → Answered x first d → (r : Asks Dtd) → Settled (λ rs. f (left_with rs d)) r
    → Settled (λ rs. x rs >>> f) (having_asked first r)
then_settled x f first d on r h = grind (arith, replies_then)

-- What follows any run.
settled_then : (x : List Reply → Asks Dtd) (f : Dtd → Asks Dtd) → ((d : Dtd) → Same (λ rs. f (left_with rs d))) → (r : Asks Dtd) → Settled x r → Settled (λ rs. x rs >>> f) (r >>> f)
settled_then x f h (first, Ok d) on = then_settled x f first d on (f d) (h d d.replies)
settled_then x f h (first, Err e) on = λ more. (let one = on more in rw one refl)

same_then : (x : List Reply → Asks Dtd) (f : Dtd → Asks Dtd) → Same x → ((d : Dtd) → Same (λ rs. f (left_with rs d))) → Same (λ rs. x rs >>> f)
same_then x f on h rs = settled_then x f h (x rs) (on rs)

settled_whole : {A : Type 0} (x : List Reply → Asks Dtd) (f : Dtd → Asks A) → ((d : Dtd) (rs : List Reply) → f (left_with rs d) ≡ f d) → ((d : Dtd) → (f d).0 ≡ []) → (r : Asks Dtd) → Settled x r
    → SettledWhole (λ rs. x rs >>> f) (r >>> f)
settled_whole x f plain none r on = grind (arith, common_steps)

-- ---- a declaration of an entity

-- After its text.
abbrev behind_text : Result (Unit {0} × ℕ) Fault → List ℕ → Dtd → Option Replacement × List Reply → Asks Dtd
behind_text end name d text = asks_nothing (lifted end) >>> λ end. asks_nothing (Ok (record { state = at_place end.1 d.state; entities = d.entities ++ entry name text.0; replies = text.1 }))

module _ (src : List ℕ) (p : ℕ) (name : List ℕ) (d : Dtd) where
  -- A definition, and what is after it.
  abbrev defines : Definition → List Reply → Asks Dtd
  defines definition rs = defined definition p rs >>> behind_text (byte_at 62 src (spaces_end src p)) name d

  -- One that is asked for and answered.
  answered : (request : Request) (answer : Option (List ℕ)) (left : List Reply) (text : Result (Option Replacement) Refusal) (end : Result (Unit {0} × ℕ) Fault)
      → answer_text answer ≡ text → byte_at 62 src (spaces_end src p) ≡ end
      → Settled (λ rs. defines (outer request) rs) (((record { request = request; answer = answer } ∷ [], text) >>> λ t. ([], Ok (t, left))) >>> behind_text end name d)
  answered request answer left text end is closes = grind arith

entity_same : (src : List ℕ) (d : Dtd) → Same (λ rs. entity_step src (left_with rs d))
unfolding entity_step
entity_same src d = grind arith

-- ---- the items

passed_same : (i : ℕ) (src : List ℕ) (d : Dtd) → Same (λ rs. skipped_declaration i src (left_with rs d))
unfolding skipped_declaration
passed_same i src d = grind arith

end_same : (src : List ℕ) (d : Dtd) → Same (λ rs. subset_end src (left_with rs d))
unfolding subset_end
end_same src d = grind arith

subset_same : (limit i n : ℕ) (src : List ℕ) (d : Dtd) → Same (λ rs. subset limit i n src (left_with rs d))
unfolding subset
subset_same limit i zero src d = same_done d
subset_same limit i (suc n) src d =
    let s = at_place (spaces_end src d.state.at) d.state in
    let e = with_state d s in
    same_choice (nat_le (length src) d.state.at) _ _ (same_done d)
    (same_choice (at word.EntityStart src s.at) _ _ (same_then (λ rs. entity_step src (left_with rs e)) (subset limit i n src) (entity_same src e) (subset_same limit i n src))
    (same_choice (at word.CommentStart src s.at) _ _ (same_behind (lifted (comment_step limit src s)) (λ t rs. subset limit i n src (left_with rs (with_state d t))) (λ t. subset_same limit i n src (with_state d t)))
    (same_choice (at word.PIStart src s.at) _ _ (same_behind (lifted (instruction_step limit src s)) (λ t rs. subset limit i n src (left_with rs (with_state d t))) (λ t. subset_same limit i n src (with_state d t)))
    (same_choice (at word.ElementStart src s.at || (at word.AttlistStart src s.at || at word.NotationStart src s.at)) _ _ (same_then (λ rs. skipped_declaration i src (left_with rs e)) (subset limit i n src) (passed_same i src e) (subset_same limit i n src))
    (same_choice (slice_index src s.at == 93) _ _ (end_same src e) (same_refused (here (fault.UnknownToken s.at))))))))

-- ---- the whole

step_same : (limit : ℕ) (src : List ℕ) (d : Dtd) → Same (λ rs. doctype_step limit src (left_with rs d))
unfolding doctype_step
step_same limit src d =
    same_behind (lifted (doctype_head_at src d.state.at)) _ (λ head.
    same_choice (nat_le (length src) head.1) _ _ (same_refused (here fault.UnexpectedEndOfStream))
    (same_choice (slice_index src head.1 == 62) _ _ (same_done (with_state d (at_place (head.1 + 1) d.state)))
    (same_choice (slice_index src head.1 == 91) _ _ (subset_same limit d.state.at (length src) src (with_state d (at_place (head.1 + 1) d.state)))
    (same_refused (here (fault.InvalidChar2 due.SubsetOrEnd (slice_index src head.1) head.1))))))

pub doctype_same : (limit : ℕ) (allow : Bool) (src : List ℕ) (d : Dtd) → Same (λ rs. doctype limit allow src (left_with rs d))
unfolding doctype
doctype_same limit allow src d =
    same_choice (at word.DoctypeStart src d.state.at) _ _
    (same_choice allow _ _
    (same_then (λ rs. doctype_step limit src (left_with rs d)) (λ e. asks_nothing (lifted (misc limit (length src) src e.state)) >>> λ s. asks_nothing (Ok (with_state e s))) (step_same limit src d)
    (λ e. same_behind (lifted (misc limit (length src) src e.state)) (λ s rs. asks_nothing (Ok (with_state (left_with rs e) s))) (λ s. same_done (with_state e s))))
    (same_refused (here fault.DtdDetected)))
    (same_done d)

-- A whole text, whatever replies follow those that it takes.
pub reading_same : (limit : ℕ) (allow : Bool) (src : List ℕ) → SameWhole (λ rs. reading limit allow rs src)
unfolding reading
reading_same limit allow src =
    same_behind_whole (lifted (prolog src (after_bom src))) _ (λ i.
    same_behind_whole (lifted (misc limit (length src) src (start_state i))) _ (λ s.
    same_body s))
  where
    same_body : (s : State) → SameWhole (λ rs. doctype limit allow src (record { state = s; entities = []; replies = rs }) >>> λ d. asks_nothing (body limit d.entities src d.state) >>> λ x. asks_nothing (lifted (finished src x)))
    same_body s rs =
        settled_whole (λ rs. doctype limit allow src (record { state = s; entities = []; replies = rs })) _ (λ d rs. refl) (λ d. asks_none (body limit d.entities src d.state) _ (λ x. refl))
        (doctype limit allow src (record { state = s; entities = []; replies = rs })) (doctype_same limit allow src (record { state = s; entities = []; replies = [] }) rs)

-- What is read.
pub read_same : (limit : ℕ) (allow : Bool) (replies more : List Reply) (src : List ℕ) (asked : List Asked) (t : Forest Item) → reading limit allow replies src ≡ (asked, Ok t)
    → reading limit allow (replies_of asked ++ more) src ≡ (asked, Ok t)
read_same limit allow replies more src asked t h =
    let settled : Yields (λ rs. reading limit allow rs src) asked t = subst (SettledWhole (λ rs. reading limit allow rs src)) h (reading_same limit allow src replies) in
    settled more

-- Why it is refused.
pub refused_same : (limit : ℕ) (allow : Bool) (replies more : List Reply) (src : List ℕ) (asked : List Asked) (e : Refusal) → reading limit allow replies src ≡ (asked, Err e)
    → reading limit allow (replies_of asked ++ with_refusal e more) src ≡ (asked, Err e)
refused_same limit allow replies more src asked e h =
    let settled : Stops (λ rs. reading limit allow rs src) asked e = subst (SettledWhole (λ rs. reading limit allow rs src)) h (reading_same limit allow src replies) in
    settled more
