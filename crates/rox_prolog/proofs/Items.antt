-- Items of the internal subset: one turn of the code is one of the reading.
use Rattle.std.proofs.Common.{◌≡◌, ℕ, suc, ◌+◌, ◌<◌, ◌≤◌, ◌==◌, Bool, true, false, List, [], ◌∷◌, ◌++◌, length, ltb, leb, eqb, refl, ap, ◌∙◌, subst, OnOk, Result, Ok, Err, arith, ltb-true, ltb-false, leb-true, leb-false, eqb-true}
use Rattle.std.specs.Prelude.{slice_index}
use Rattle.rox_grammar.specs.declared.fault.Fault.{Fault}
use Rattle.rox_grammar.specs.declared.fault.Fault.TheVariants as fault
use Rattle.rox_grammar.specs.declared.fault.Word.{Word}
use Rattle.rox_grammar.specs.declared.fault.Word.TheVariants as word
use Rattle.rox_grammar.specs.Search.{byte_from, stands}
use Rattle.rox_grammar.specs.Names.{spaces_end}
use Rattle.rox_grammar.specs.FixedTexts.{word_text, at}
use Rattle.rox_grammar.specs.Doctype.{Request, Asked}
use Rattle.rox_reading.specs.Refusals.{here, lifted}
use Rattle.rox_reading.specs.State.{State}
use Rattle.rox_reading.specs.Machine.{at_place, comment_step, instruction_step}
use Rattle.rox_reading.specs.Doctype.{Reply, Asks, Dtd, with_state, entity_step, subset, doctype_head_at}
use Rattle.rox_reading.specs.Answering.{left_with, Continues}
use Rattle.rox_reading.specs.Stopping.{Stops}
use Rattle.rox_reading.proofs.Answering as turn
use Rattle.rox_reading.proofs.Answering.{spaced, texts_both}
use Rattle.rox_reading.proofs.Settling.{step_run, subset_run, doctype_subset, doctype_subset_stops}
use Rattle.rox_prolog.specs.Requests.{AreAllowed}
use Rattle.rox_scan.specs.declared.cursor.Cursor.{Cursor}
use Rattle.rox_grammar.specs.declared.failure.Failure.{Failure}
use Rattle.rox_grammar.specs.declared.failure.Failure.TheVariants as failure
use Rattle.rox_markup.specs.DoctypeViews.{is_skipped_declaration, skipped_declaration_at, subset_end_at}
use Rattle.rox_prolog.specs.Asking.{AreGiven, AskOutcome, IsEntityRead, IsDoctypeRead, IsSubsetSoFar, ItemOutcome}
use Rattle.rox_constructs.specs.ParsedResults.{ended, parsed_of}
use Rattle.rox_values.specs.DeclaredEntities.{AreDeclared}
use Rattle.rox_values.specs.Refusals.{of_failure}
use Rattle.rox_builder.specs.BuilderState.{IsInState, ScansTo}
use Rattle.rox_builder.specs.declared.builder.Builder.{Builder}
use Rattle.rox_values.specs.declared.entities.Entities.{Entities}
use Rattle.rox_values.specs.declared.parse_error.ParseError.{ParseError}
use Rattle.rox_prolog.proofs.Asking.{none_given, stops_by}
use Rattle.rox_values.proofs.Lifting.{lifted_ok, lifted_err}
use Rattle.rox_theory.proofs.Basics.{chosen}

-- ---- answers of two parts

allowed_both : (allows : Request → Reply → Type 0) (a b : List Asked) → AreAllowed allows a → AreAllowed allows b → AreAllowed allows (a ++ b)
allowed_both allows [] b h k = k
allowed_both allows (x ∷ a) b h k = (h.0, allowed_both allows a b h.1 k)

given_both : (allows : Request → Reply → Type 0) (a b : List Asked) → AreGiven allows a → AreGiven allows b → AreGiven allows (a ++ b)
given_both allows a b h k = record { allowed = allowed_both allows a b h.allowed k.allowed; texts = texts_both a b h.texts k.texts }

-- ---- the state at another place

pub sees_at : (limit end : ℕ) (s : State) (c e : Cursor) (b : Builder) (j : ℕ) → IsInState limit end s c b → e.pos ≡ j → IsInState limit end (at_place j s) e b
sees_at limit end s c e b j h is = record { here = is; limit_is = h.limit_is; shows = h.shows; namespaces = h.namespaces; attributes = h.attributes; openings_left_is = h.openings_left_is }

-- ---- what has no value of its own

same_place : (x y : Unit {0} × ℕ) → ◌≡◌ {A = Result (Unit {0} × ℕ) Fault} (Ok x) (Ok y) → y.1 ≡ x.1
same_place x y h = let e : y ≡ x = cc in ap (λ p. p.1) e

same_fault : (f g : Fault) → ◌≡◌ {A = Result (Unit {0} × ℕ) Fault} (Err f) (Err g) → g ≡ f
same_fault f g h = cc

-- how an item ended that no more is said of
abbrev pub ended_plainly : Result (Unit {0}) Failure → Result Bool ParseError
ended_plainly (Ok x) = Ok false
ended_plainly (Err e) = Err (of_failure e)

pub ended_too : (P : Result Bool ParseError → Type 0) (r : Result (Unit {0}) Failure) (p : Result (Unit {0}) ParseError) (q : Result Bool ParseError) → p ≡ parsed_of r → q ≡ ended p → P (ended_plainly r) → P q
ended_too P r p q is then h = grind arith

pub goes_ended : (G : Type 0) (p : Result (Unit {0}) ParseError) (q : Result Bool ParseError) → q ≡ ended p → OnOk p G → OnOk q G
goes_ended G p q is h = grind arith

-- ---- a turn

module _ (limit end i n m : ℕ) (src : List ℕ) (allows : Request → Reply → Type 0) (run : List Reply → Asks Dtd) (one : n ≡ suc m) (old c : Cursor) (b : Builder) (es : Entities)
    (going : IsSubsetSoFar limit end i n src allows run old b es) (within : old.pos < length src) (same : c.text.now ≡ src) (next : c.pos ≡ spaces_end src old.pos) where
  abbrev d : Dtd
  d = going.dtd

  abbrev s : State
  s = at_place (spaces_end src d.state.at) d.state

  place : c.pos ≡ s.at
  place = next ∙ ap (spaces_end src) going.sees.here

  inside : d.state.at < length src
  inside = subst (λ (k : ℕ). k < length src) going.sees.here within

  found : (w : Word) (t : Bool) → stands (word_text w) c.text.now c.pos ≡ t → at w src s.at ≡ t
  found w t h = rw (same, place) at h

  sees_here : IsInState limit end s c b
  sees_here = sees_at limit end d.state old c b s.at going.sees place

  -- nothing more is asked
  goes_on : (t : State) (e : Cursor) (u : Builder) → Continues run going.asked limit i m src (with_state d t) → IsInState limit end t e u → IsSubsetSoFar limit end i m src allows run e u es
  goes_on t e u on sees = record { asked = going.asked; given = going.given; dtd = with_state d t; continues = on; sees = sees; declared = going.declared }

  module _ (r : Result (Unit {0}) ParseError) (is : stands (word_text word.EntityStart) c.text.now c.pos ≡ true) where
    pub entity_turn : (e : Cursor) (fs : Entities)
        → ((d : Dtd) → c.pos ≡ d.state.at → AreDeclared d.entities es
        → AskOutcome allows (λ replies. entity_step c.text.now (left_with replies d)) (λ asked x. IsEntityRead (λ replies. entity_step c.text.now (left_with replies d)) d e fs asked) r)
        → ItemOutcome limit end i m src allows run e b fs (ended r)
    entity_turn e fs comes = by_result r (subst (λ (text : List ℕ). Came text r) same (comes (spaced src d) place going.declared))
      where
        Came : List ℕ → Result (Unit {0}) ParseError → Type 0
        Came text q =
            AskOutcome allows (λ replies. entity_step text (left_with replies (spaced src d))) (λ asked x. IsEntityRead (λ replies. entity_step text (left_with replies (spaced src d))) (spaced src d) e fs asked) q

        by_result : (q : Result (Unit {0}) ParseError) → Came src q → ItemOutcome limit end i m src allows run e b fs (ended q)
        by_result (Ok x) k = record {
          asked = going.asked ++ k.0;
          given = given_both allows going.asked k.0 going.given k.1;
          dtd = k.2.dtd;
          continues = turn.turn_entity run going.asked limit i n m src d going.continues one inside k.0 k.2.dtd (found word.EntityStart true is) k.2.answered;
          sees = rw k.2.state (sees_at limit end s c e b e.pos sees_here refl);
          declared = k.2.declared;
        }
        by_result (Err q) k = (
          going.asked ++ k.0,
          given_both allows going.asked k.0 going.given k.1,
          stops_by allows (λ replies. entity_step src (left_with replies (spaced src d))) run k.0 (going.asked ++ k.0)
              (λ f h. turn.entity_stops run going.asked limit i n m src d going.continues one inside k.0 f (found word.EntityStart true is) h) q k.2,
        )

  module _ (no_entity : stands (word_text word.EntityStart) c.text.now c.pos ≡ false) where
    pub comment_turn : (e : Cursor) (u : Builder) (r : Result (Unit {0}) Failure) → stands (word_text word.CommentStart) c.text.now c.pos ≡ true
        → (IsInState limit end s c b → ScansTo limit end r e u (lifted (comment_step limit c.text.now s))) → ItemOutcome limit end i m src allows run e u es (ended_plainly r)
    comment_turn e u r is steps = by_result r (subst (λ (text : List ℕ). ScansTo limit end r e u (lifted (comment_step limit text s))) same (steps sees_here))
      where
        by_result : (q : Result (Unit {0}) Failure) → ScansTo limit end q e u (lifted (comment_step limit src s)) → ItemOutcome limit end i m src allows run e u es (ended_plainly q)
        by_result (Ok x) k =
            goes_on k.0 e u
            (turn.turn_comment run going.asked limit i n m src d going.continues one inside (found word.EntityStart false no_entity) k.0 (found word.CommentStart true is) (lifted_ok _ k.0 k.1)) k.2
        by_result (Err failure.Memory) k = (going.asked, going.given, tt)
        by_result (Err (failure.Fault f)) k = (
          going.asked,
          going.given,
          turn.comment_stops run going.asked limit i n m src d going.continues one inside (found word.EntityStart false no_entity) f (found word.CommentStart true is) (lifted_err _ f k),
        )

    module _ (no_comment : stands (word_text word.CommentStart) c.text.now c.pos ≡ false) where
      pub instruction_turn : (e : Cursor) (u : Builder) (r : Result (Unit {0}) Failure) → stands (word_text word.PIStart) c.text.now c.pos ≡ true
          → (IsInState limit end s c b → ScansTo limit end r e u (lifted (instruction_step limit c.text.now s))) → ItemOutcome limit end i m src allows run e u es (ended_plainly r)
      instruction_turn e u r is steps = by_result r (subst (λ (text : List ℕ). ScansTo limit end r e u (lifted (instruction_step limit text s))) same (steps sees_here))
        where
          by_result : (q : Result (Unit {0}) Failure) → ScansTo limit end q e u (lifted (instruction_step limit src s)) → ItemOutcome limit end i m src allows run e u es (ended_plainly q)
          by_result (Ok x) k =
              goes_on k.0 e u
              (turn.turn_instruction run going.asked limit i n m src d going.continues one inside (found word.EntityStart false no_entity) (found word.CommentStart false no_comment) k.0
              (found word.PIStart true is) (lifted_ok _ k.0 k.1))
              k.2
          by_result (Err failure.Memory) k = (going.asked, going.given, tt)
          by_result (Err (failure.Fault f)) k = (
            going.asked,
            going.given,
            turn.instruction_stops run going.asked limit i n m src d going.continues one inside (found word.EntityStart false no_entity) (found word.CommentStart false no_comment) f
                (found word.PIStart true is) (lifted_err _ f k),
          )

      module _ (no_instruction : stands (word_text word.PIStart) c.text.now c.pos ≡ false) where
        -- none of the first three
        skipped : (t : Bool) → is_skipped_declaration c.text.now c.pos ≡ t → is_skipped_declaration src s.at ≡ t
        skipped t h = rw (same, place) at h

        pub passed_turn : (e : Cursor) → is_skipped_declaration c.text.now c.pos ≡ true → skipped_declaration_at i c.text.now c.pos ≡ Ok (tt, e.pos) → ItemOutcome limit end i m src allows run e b es (Ok false)
        passed_turn e is h =
            let stop = byte_from (λ k. k == 62) src s.at in
            let k : skipped_declaration_at i src s.at ≡ Ok (tt, e.pos) = rw (same, place) at h in
            chosen (ltb stop (length src)) _ _ _ k
            (λ closes r. goes_on (at_place (stop + 1) d.state) e b
            (turn.turn_passed run going.asked limit i n m src d going.continues one inside (found word.EntityStart false no_entity) (found word.CommentStart false no_comment)
            (found word.PIStart false no_instruction) (skipped true is) (ltb-true _ _ closes))
            (sees_at limit end d.state old e b (stop + 1) going.sees (same_place _ _ r)))
            (λ out r. cc)

        pub passed_stops : (f : Fault) → is_skipped_declaration c.text.now c.pos ≡ true → skipped_declaration_at i c.text.now c.pos ≡ Err f → Stops run going.asked (here f)
        passed_stops f is h =
            let k : skipped_declaration_at i src s.at ≡ Err f = rw (same, place) at h in
            chosen (ltb (byte_from (λ k. k == 62) src s.at) (length src)) _ _ _ k (λ closes r. cc)
            (λ out r. rw (same_fault _ _ r)
            (turn.passed_stops run going.asked limit i n m src d going.continues one inside (found word.EntityStart false no_entity) (found word.CommentStart false no_comment)
            (found word.PIStart false no_instruction) (skipped true is) (ltb-false _ _ out)))

        module _ (no_skipped : is_skipped_declaration c.text.now c.pos ≡ false) where
          pub unknown_stops : (slice_index c.text.now c.pos == 93) ≡ false → Stops run going.asked (here (fault.UnknownToken c.pos))
          unknown_stops other =
              rw place
              (turn.unknown_stops run going.asked limit i n m src d going.continues one inside (found word.EntityStart false no_entity) (found word.CommentStart false no_comment)
              (found word.PIStart false no_instruction) (skipped false no_skipped) (rw (same, place) at other))

          module _ (is : slice_index c.text.now c.pos ≡ 93) where
            bracket : slice_index src s.at ≡ 93
            bracket = rw (same, place) at is

            pub end_turn : (e : Cursor) → subset_end_at c.text.now c.pos ≡ Ok (tt, e.pos) → IsDoctypeRead limit end run e b es going.asked
            end_turn e h =
                let stop = spaces_end src (s.at + 1) in
                let k : subset_end_at src s.at ≡ Ok (tt, e.pos) = rw (same, place) at h in
                chosen (leb (length src) stop) _ _ _ k (λ cut r. cc)
                (λ more k. chosen (eqb (slice_index src stop) 62) _ _ _ k
                (λ closes r. record {
                  dtd = with_state d (at_place (stop + 1) d.state);
                  answered = turn.turn_end run going.asked limit i n m src d going.continues one inside (found word.EntityStart false no_entity) (found word.CommentStart false no_comment)
                      (found word.PIStart false no_instruction) (skipped false no_skipped) bracket (leb-false _ _ more) (eqb-true _ _ closes);
                  sees = sees_at limit end d.state old e b (stop + 1) going.sees (same_place _ _ r);
                  declared = going.declared;
                })
                (λ other r. cc))

            pub end_stops : (f : Fault) → subset_end_at c.text.now c.pos ≡ Err f → Stops run going.asked (here f)
            end_stops f h =
                let stop = spaces_end src (s.at + 1) in
                let k : subset_end_at src s.at ≡ Err f = rw (same, place) at h in
                chosen (leb (length src) stop) _ _ _ k
                (λ cut r. rw (same_fault _ _ r)
                (turn.end_cut_stops run going.asked limit i n m src d going.continues one inside (found word.EntityStart false no_entity) (found word.CommentStart false no_comment)
                (found word.PIStart false no_instruction) (skipped false no_skipped) bracket (leb-true _ _ cut)))
                (λ more k. chosen (eqb (slice_index src stop) 62) _ _ _ k (λ closes r. cc)
                (λ other r. rw (same_fault _ _ r)
                (turn.end_stops run going.asked limit i n m src d going.continues one inside (found word.EntityStart false no_entity) (found word.CommentStart false no_comment)
                (found word.PIStart false no_instruction) (skipped false no_skipped) bracket (leb-false _ _ more) other)))

-- ---- the items, one after the other

-- before the first
pub none_yet : (limit end i n : ℕ) (src : List ℕ) (allows : Request → Reply → Type 0) (d : Dtd) (c : Cursor) (b : Builder) (es : Entities) → n ≡ length src → IsInState limit end d.state c b
    → AreDeclared d.entities es → IsSubsetSoFar limit end i n src allows (λ replies. subset limit i (length src) src (left_with replies d)) c b es
none_yet limit end i n src allows d c b es all sees declared =
    record { asked = []; given = none_given allows; dtd = d; continues = rw all (turn.none_yet limit i (length src) src d); sees = sees; declared = declared }

module _ (limit end i n : ℕ) (src : List ℕ) (allows : Request → Reply → Type 0) (run : List Reply → Asks Dtd) (c : Cursor) (b : Builder) (es : Entities)
    (going : IsSubsetSoFar limit end i n src allows run c b es) where
  -- the text ends here
  pub text_ends : (m : ℕ) → n ≡ suc m → length src ≤ c.pos → IsDoctypeRead limit end run c b es going.asked
  text_ends m one out = record {
    dtd = going.dtd;
    answered = turn.turn_out run going.asked limit i n m src going.dtd going.continues one (subst (λ (k : ℕ). length src ≤ k) going.sees.here out);
    sees = going.sees;
    declared = going.declared;
  }

  -- there may be no more
  pub turns_end : n ≡ 0 → IsDoctypeRead limit end run c b es going.asked
  turns_end none = record { dtd = going.dtd; answered = turn.turn_spent run going.asked limit i n src going.dtd going.continues none; sees = going.sees; declared = going.declared }

-- with a subset, whose `[` stands at p
pub with_subset : (limit end : ℕ) (src : List ℕ) (allows : Request → Reply → Type 0) (x : Dtd) (p : ℕ) (c : Cursor) (b : Builder) (es : Entities) (r : Result (Unit {0}) ParseError)
    → (is : doctype_head_at src x.state.at ≡ Ok (tt, p)) → (fits : p < length src) → slice_index src p ≡ 91
    → AskOutcome allows (subset_run limit src x tt p is fits) (λ asked u. IsDoctypeRead limit end (subset_run limit src x tt p is fits) c b es asked) r
    → AskOutcome allows (step_run limit src x) (λ asked u. IsDoctypeRead limit end (step_run limit src x) c b es asked) r
with_subset limit end src allows x p c b es (Ok u) is fits opens k = (
  k.0,
  k.1,
  record { dtd = k.2.dtd; answered = doctype_subset limit src x tt p is fits k.0 k.2.dtd opens k.2.answered; sees = k.2.sees; declared = k.2.declared },
)
with_subset limit end src allows x p c b es (Err e) is fits opens k = grind (arith, stops_by, doctype_subset_stops)
