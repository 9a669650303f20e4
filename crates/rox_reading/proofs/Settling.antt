-- What comes of a declaration of an entity, of a document type declaration and of a whole text, whatever replies follow those
-- that are taken; and that replies beyond those change nothing.
use Rattle.std.proofs.Common.{◌≡◌, ℕ, ◌+◌, ◌<◌, ◌≤◌, ◌==◌, Bool, true, false, List, [], ◌∷◌, ◌++◌, length, refl, ap, ◌∙◌, Ok, Err, le-leb, append-nil}
use Rattle.std.specs.Prelude.{Option, Some, slice_index}
use Rattle.std.proofs.lemmas.Bool.{lt-leb, eq-eqb}
use Rattle.rox_grammar.specs.declared.fault.Fault.{Fault}
use Rattle.rox_grammar.specs.declared.fault.Fault.TheVariants as fault
use Rattle.rox_grammar.specs.declared.fault.Due.TheVariants as due
use Rattle.rox_grammar.specs.declared.fault.Word.TheVariants as word
use Rattle.rox_grammar.specs.Forest.{Forest}
use Rattle.rox_grammar.specs.Written.{Item}
use Rattle.rox_grammar.specs.Names.{spaces_end}
use Rattle.rox_grammar.specs.FixedTexts.{at}
use Rattle.rox_grammar.specs.TextStart.{after_bom}
use Rattle.rox_grammar.specs.Entities.{Replacement}
use Rattle.rox_grammar.specs.Doctype.{Request, Asked, entry}
use Rattle.rox_reading.specs.Refusals.{Refusal, here}
use Rattle.rox_reading.specs.State.{State, start_state}
use Rattle.rox_reading.specs.Lexical.{byte_at}
use Rattle.rox_reading.specs.Machine.{at_place}
use Rattle.rox_reading.specs.Doctype.{Reply, Asks, Dtd, replies_of, with_state, EntityHead, entity_head_at, inner, outer, definition_at, answer_text, entity_step, subset, doctype_head_at, doctype_step}
use Rattle.rox_reading.specs.WholeText.{misc, body, finished, prolog, doctype, reading}
use Rattle.rox_reading.specs.Answering.{left_with, Answered, Yields}
use Rattle.rox_reading.specs.Stopping.{with_refusal, Stops}

-- ---- a declaration of an entity

-- What it is where its text is this.
abbrev pub declared_there : Dtd → EntityHead → Option Replacement → ℕ → Dtd
declared_there d head text j = record { state = at_place j d.state; entities = d.entities ++ entry head.name text; replies = d.replies }

-- A request and its answer.
abbrev pub once : Request → Option (List ℕ) → List Asked
once request answer = record { request = request; answer = answer } ∷ []

module _ (src : List ℕ) (d : Dtd) where
  abbrev pub entity_run : List Reply → Asks Dtd
  entity_run rs = entity_step src (left_with rs d)

  pub head_stops : (f : Fault) → entity_head_at src d.state.at ≡ Err f → Stops entity_run [] (here f)
  unfolding entity_step
  head_stops f h more = rw h refl

  module _ (head : EntityHead × ℕ) (is_head : entity_head_at src d.state.at ≡ Ok head) where
    pub definition_stops : (f : Fault) → definition_at head.0.parameter src head.1 ≡ Err f → Stops entity_run [] (here f)
    unfolding entity_step
    definition_stops f h more = rw (is_head, h) refl

    -- A text that is written there.
    module _ (t : Replacement) (j : ℕ) (is : definition_at head.0.parameter src head.1 ≡ Ok (inner t, j)) where
      pub inner_read : (x : Unit {0}) (k : ℕ) → byte_at 62 src (spaces_end src j) ≡ Ok (x, k) → Answered entity_run [] (declared_there d head.0 (Some t) k)
      unfolding entity_step
      inner_read x k h more = rw (is_head, is, h) refl

      pub inner_stops : (f : Fault) → byte_at 62 src (spaces_end src j) ≡ Err f → Stops entity_run [] (here f)
      unfolding entity_step
      inner_stops f h more = rw (is_head, is, h) refl

    -- One that is asked for.
    module _ (request : Request) (j : ℕ) (is : definition_at head.0.parameter src head.1 ≡ Ok (outer request, j)) where
      pub outer_read : (answer : Option (List ℕ)) (text : Option Replacement) (x : Unit {0}) (k : ℕ) → answer_text answer ≡ Ok text → byte_at 62 src (spaces_end src j) ≡ Ok (x, k)
          → Answered entity_run (once request answer) (declared_there d head.0 text k)
      unfolding entity_step
      outer_read answer text x k h h' more = rw (is_head, is, h, h') refl

-- ---- a document type declaration

module _ (limit : ℕ) (src : List ℕ) (d : Dtd) where
  abbrev pub step_run : List Reply → Asks Dtd
  step_run rs = doctype_step limit src (left_with rs d)

  pub doctype_head_stops : (f : Fault) → doctype_head_at src d.state.at ≡ Err f → Stops step_run [] (here f)
  unfolding doctype_step
  doctype_head_stops f h more = rw h refl

  module _ (x : Unit {0}) (s : ℕ) (is : doctype_head_at src d.state.at ≡ Ok (x, s)) where
    pub doctype_cut_stops : length src ≤ s → Stops step_run [] (here fault.UnexpectedEndOfStream)
    unfolding doctype_step
    doctype_cut_stops out more = let k = le-leb _ _ out in rw (is, k) refl

    module _ (inside : s < length src) where
      -- Without a subset.
      pub doctype_plain : slice_index src s ≡ 62 → Answered step_run [] (with_state d (at_place (s + 1) d.state))
      unfolding doctype_step
      doctype_plain h more = let k = lt-leb _ _ inside in let b = eq-eqb _ _ h in rw (is, k, b) refl

      -- The subset begins.
      abbrev pub subset_run : List Reply → Asks Dtd
      subset_run rs = subset limit d.state.at (length src) src (left_with rs (with_state d (at_place (s + 1) d.state)))

      opened : (rs : List Reply) → slice_index src s ≡ 91 → step_run rs ≡ subset_run rs
      unfolding doctype_step
      opened rs h = let k = lt-leb _ _ inside in rw (is, k, h) refl

      pub doctype_subset : (asked : List Asked) (e : Dtd) → slice_index src s ≡ 91 → Answered subset_run asked e → Answered step_run asked e
      doctype_subset asked e h a more = opened (replies_of asked ++ more) h ∙ a more

      pub doctype_subset_stops : (asked : List Asked) (e : Refusal) → slice_index src s ≡ 91 → Stops subset_run asked e → Stops step_run asked e
      doctype_subset_stops asked e h a more = opened (replies_of asked ++ with_refusal e more) h ∙ a more

      pub doctype_other_stops : (slice_index src s == 62) ≡ false → (slice_index src s == 91) ≡ false → Stops step_run [] (here (fault.InvalidChar2 due.SubsetOrEnd (slice_index src s) s))
      unfolding doctype_step
      doctype_other_stops a b more = let k = lt-leb _ _ inside in rw (is, k, a, b) refl

-- And what follows it, if it is here.
module _ (limit : ℕ) (allow : Bool) (src : List ℕ) (d : Dtd) where
  abbrev pub doctype_run : List Reply → Asks Dtd
  doctype_run rs = doctype limit allow src (left_with rs d)

  pub no_doctype_here : at word.DoctypeStart src d.state.at ≡ false → Answered doctype_run [] d
  unfolding doctype
  no_doctype_here h more = rw h refl

  module _ (is : at word.DoctypeStart src d.state.at ≡ true) where
    pub forbidden_stops : allow ≡ false → Stops doctype_run [] (here fault.DtdDetected)
    unfolding doctype
    forbidden_stops may_not more = rw (is, may_not) refl

    module _ (may : allow ≡ true) where
      pub doctype_stops : (asked : List Asked) (e : Refusal) → Stops (step_run limit src d) asked e → Stops doctype_run asked e
      unfolding doctype
      doctype_stops asked e h more = let r = h more in rw (is, may, r) refl

      pub doctype_read : (asked : List Asked) (e : Dtd) (s : State) → Answered (step_run limit src d) asked e → misc limit (length src) src e.state ≡ Ok s → Answered doctype_run asked (with_state e s)
      unfolding doctype
      doctype_read asked e s h m more = let r = h more in rw (is, may, r, m) (ap (λ (l : List Asked). (l, Ok (left_with more (with_state e s)))) (append-nil asked))

      pub behind_stops : (asked : List Asked) (e : Dtd) (f : Fault) → Answered (step_run limit src d) asked e → misc limit (length src) src e.state ≡ Err f → Stops doctype_run asked (here f)
      unfolding doctype
      behind_stops asked e f h m more = let r = h more in rw (is, may, r, m) (ap (λ (l : List Asked). (l, Err (here f))) (append-nil asked))

-- ---- a whole text

module _ (limit : ℕ) (allow : Bool) (src : List ℕ) where
  abbrev pub whole_run : List Reply → Asks (Forest Item)
  whole_run rs = reading limit allow rs src

  pub prolog_stops : (f : Fault) → prolog src (after_bom src) ≡ Err f → Stops whole_run [] (here f)
  unfolding reading
  prolog_stops f h more = rw h refl

  module _ (i : ℕ) (is : prolog src (after_bom src) ≡ Ok i) where
    pub misc_stops : (f : Fault) → misc limit (length src) src (start_state i) ≡ Err f → Stops whole_run [] (here f)
    unfolding reading
    misc_stops f h more = rw (is, h) refl

    module _ (s : State) (before : misc limit (length src) src (start_state i) ≡ Ok s) where
      -- Where the document type declaration may begin.
      abbrev pub before_doctype : Dtd
      before_doctype = record { state = s; entities = []; replies = [] }

      pub whole_doctype_stops : (asked : List Asked) (e : Refusal) → Stops (doctype_run limit allow src before_doctype) asked e → Stops whole_run asked e
      unfolding reading
      whole_doctype_stops asked e h more = let r = h more in rw (is, before, r) refl

      module _ (asked : List Asked) (d : Dtd) (read : Answered (doctype_run limit allow src before_doctype) asked d) where
        pub body_stops : (e : Refusal) → body limit d.entities src d.state ≡ Err e → Stops whole_run asked e
        unfolding reading
        body_stops e h more = let r = read (with_refusal e more) in rw (is, before, r, h) (ap (λ (l : List Asked). (l, Err e)) (append-nil asked))

        pub finished_stops : (x : State × Bool) (f : Fault) → body limit d.entities src d.state ≡ Ok x → finished src x ≡ Err f → Stops whole_run asked (here f)
        unfolding reading
        finished_stops x f h l more = let r = read more in rw (is, before, r, h, l) (ap (λ (l : List Asked). (l, Err (here f))) (append-nil asked))

        pub whole_read : (x : State × Bool) (tree : Forest Item) → body limit d.entities src d.state ≡ Ok x → finished src x ≡ Ok tree → Yields whole_run asked tree
        unfolding reading
        whole_read x tree h l more = let r = read more in rw (is, before, r, h, l) (ap (λ (l : List Asked). (l, Ok tree)) (append-nil asked))
