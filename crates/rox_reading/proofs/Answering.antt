-- What comes of a reading of a document type declaration, turn by turn, whatever replies follow those that it takes.
use Rattle.std.proofs.Common.{◌≡◌, ℕ, suc, ◌+◌, ◌<◌, ◌≤◌, ◌||◌, ◌==◌, Bool, true, false, List, [], ◌∷◌, ◌++◌, length, refl, sym, ap, ◌∙◌, Ok, Err, append_assoc, le-leb, arith, append-nil}
use Rattle.std.specs.Prelude.{slice_index}
use Rattle.std.proofs.lemmas.Bool.{lt-leb, le-ltb, eq-eqb}
use Rattle.rox_grammar.specs.declared.fault.Fault.{Fault}
use Rattle.rox_grammar.specs.declared.fault.Fault.TheVariants as fault
use Rattle.rox_grammar.specs.declared.fault.Due.TheVariants as due
use Rattle.rox_grammar.specs.declared.fault.Word.TheVariants as word
use Rattle.rox_grammar.specs.Search.{byte_from}
use Rattle.rox_grammar.specs.Names.{spaces_end}
use Rattle.rox_grammar.specs.FixedTexts.{at}
use Rattle.rox_grammar.specs.Doctype.{Asked}
use Rattle.rox_reading.specs.Refusals.{Refusal, here}
use Rattle.rox_reading.specs.State.{State}
use Rattle.rox_reading.specs.Machine.{comment_step, instruction_step, at_place}
use Rattle.rox_reading.specs.Doctype.{Reply, Asks, Dtd, replies_of, AreTextReplies, with_state, entity_step, skipped_declaration, subset_end, subset}
use Rattle.rox_reading.specs.Answering.{left_with, having_asked, Answered, Continues}
use Rattle.rox_reading.specs.Stopping.{with_refusal, Stops}

-- ---- what is asked in two parts

-- The answers of two lists, one after the other.
pub replies_both : (a b : List Asked) → replies_of (a ++ b) ≡ replies_of a ++ replies_of b
replies_both [] b = refl
replies_both (x ∷ a) b = ap (λ (rs : List Reply). Ok x.answer ∷ rs) (replies_both a b)

-- They are texts where those of each list are.
pub texts_both : (a b : List Asked) → AreTextReplies (replies_of a) → AreTextReplies (replies_of b) → AreTextReplies (replies_of (a ++ b))
texts_both [] b h k = k
texts_both (x ∷ a) b h k = (h.0, texts_both a b h.1 k)

-- And with more after them.
pub replies_then : (a b : List Asked) (more : List Reply) → replies_of (a ++ b) ++ more ≡ replies_of a ++ (replies_of b ++ more)
replies_then a b more = ap (λ (rs : List Reply). rs ++ more) (replies_both a b) ∙ append_assoc (replies_of a) (replies_of b) more

pub asked_both : {A : Type 0} (a b : List Asked) (r : Asks A) → having_asked (a ++ b) r ≡ having_asked a (having_asked b r)
asked_both a b r = ap (λ (l : List Asked). (l, r.1)) (append_assoc a b r.0)

-- ---- the items, turn by turn

-- After the white space of this place.
abbrev pub spaced : List ℕ → Dtd → Dtd
spaced src d = with_state d (at_place (spaces_end src d.state.at) d.state)

-- None is read yet.
pub none_yet : (limit i n : ℕ) (src : List ℕ) (d : Dtd) → Continues (λ rs. subset limit i n src (left_with rs d)) [] limit i n src d
none_yet limit i n src d more = refl

module _ (run : List Reply → Asks Dtd) (asked : List Asked) (limit i n m : ℕ) (src : List ℕ) (d : Dtd) (on : Continues run asked limit i n src d) (one : n ≡ suc m) where
  -- What this turn gives, the run gives after what was asked so far.
  gives_on : (first : List Asked) (more : List Reply) (r : Asks Dtd) → subset limit i n src (left_with (replies_of first ++ more) d) ≡ r → run (replies_of (asked ++ first) ++ more) ≡ having_asked asked r
  gives_on first more r h = ap run (replies_then asked first more) ∙ on (replies_of first ++ more) ∙ ap (λ (r : Asks Dtd). having_asked asked r) h

  goes_on : (first : List Asked) (e : Dtd) → ((more : List Reply) → subset limit i n src (left_with (replies_of first ++ more) d) ≡ having_asked first (subset limit i m src (left_with more e)))
      → Continues run (asked ++ first) limit i m src e
  goes_on first e h more = gives_on first more _ (h more) ∙ sym (asked_both asked first (subset limit i m src (left_with more e)))

  ends_on : (first : List Asked) (e : Dtd) → ((more : List Reply) → subset limit i n src (left_with (replies_of first ++ more) d) ≡ (first, Ok (left_with more e))) → Answered run (asked ++ first) e
  ends_on first e h more = gives_on first more _ (h more)

  stops_on : (first : List Asked) (e : Refusal) → ((more : List Reply) → subset limit i n src (left_with (replies_of first ++ with_refusal e more) d) ≡ (first, Err e)) → Stops run (asked ++ first) e
  stops_on first e h more = gives_on first (with_refusal e more) _ (h more)

  -- The same where nothing more is asked.
  goes_plainly : (e : Dtd) → ((more : List Reply) → subset limit i n src (left_with more d) ≡ subset limit i m src (left_with more e)) → Continues run asked limit i m src e
  goes_plainly e h more = on more ∙ ap (λ (r : Asks Dtd). having_asked asked r) (h more)

  ends_plainly : (e : Dtd) → ((more : List Reply) → subset limit i n src (left_with more d) ≡ ([], Ok (left_with more e))) → Answered run asked e
  ends_plainly e h more = on more ∙ ap (λ (r : Asks Dtd). having_asked asked r) (h more) ∙ ap (λ (l : List Asked). (l, Ok (left_with more e))) (append-nil asked)

  stops_plainly : (e : Refusal) → ((more : List Reply) → subset limit i n src (left_with more d) ≡ ([], Err e)) → Stops run asked e
  stops_plainly e h more = on (with_refusal e more) ∙ ap (λ (r : Asks Dtd). having_asked asked r) (h (with_refusal e more)) ∙ ap (λ (l : List Asked). (l, Err e)) (append-nil asked)

  -- The text ends here.
  pub turn_out : length src ≤ d.state.at → Answered run asked d
  unfolding subset
  turn_out out = let k = le-leb _ _ out in ends_plainly d (λ more. rw (one, k) refl)

  module _ (inside : d.state.at < length src) where
    -- After white space.
    abbrev s : State
    s = at_place (spaces_end src d.state.at) d.state

    -- A declaration of an entity.
    pub turn_entity : (first : List Asked) (e : Dtd) → at word.EntityStart src s.at ≡ true → Answered (λ rs. entity_step src (left_with rs (spaced src d))) first e → Continues run (asked ++ first) limit i m src e
    unfolding subset
    turn_entity first e is h = let k = lt-leb _ _ inside in goes_on first e (λ more. let r = h more in rw (one, k, is, r) refl)

    pub entity_stops : (first : List Asked) (e : Refusal) → at word.EntityStart src s.at ≡ true → Stops (λ rs. entity_step src (left_with rs (spaced src d))) first e → Stops run (asked ++ first) e
    unfolding subset
    entity_stops first e is h = let k = lt-leb _ _ inside in stops_on first e (λ more. let r = h more in rw (one, k, is, r) refl)

    module _ (no_entity : at word.EntityStart src s.at ≡ false) where
      -- A comment.
      pub turn_comment : (t : State) → at word.CommentStart src s.at ≡ true → comment_step limit src s ≡ Ok t → Continues run asked limit i m src (with_state d t)
      unfolding subset
      turn_comment t is h = let k = lt-leb _ _ inside in goes_plainly (with_state d t) (λ more. rw (one, k, no_entity, is, h) refl)

      pub comment_stops : (f : Fault) → at word.CommentStart src s.at ≡ true → comment_step limit src s ≡ Err f → Stops run asked (here f)
      unfolding subset
      comment_stops f is h = let k = lt-leb _ _ inside in stops_plainly (here f) (λ more. rw (one, k, no_entity, is, h) refl)

      module _ (no_comment : at word.CommentStart src s.at ≡ false) where
        -- A processing instruction.
        pub turn_instruction : (t : State) → at word.PIStart src s.at ≡ true → instruction_step limit src s ≡ Ok t → Continues run asked limit i m src (with_state d t)
        unfolding subset
        turn_instruction t is h = let k = lt-leb _ _ inside in goes_plainly (with_state d t) (λ more. rw (one, k, no_entity, no_comment, is, h) refl)

        pub instruction_stops : (f : Fault) → at word.PIStart src s.at ≡ true → instruction_step limit src s ≡ Err f → Stops run asked (here f)
        unfolding subset
        instruction_stops f is h = let k = lt-leb _ _ inside in stops_plainly (here f) (λ more. rw (one, k, no_entity, no_comment, is, h) refl)

        module _ (no_instruction : at word.PIStart src s.at ≡ false) where
          abbrev pub is_skipped : Bool
          is_skipped = at word.ElementStart src s.at || (at word.AttlistStart src s.at || at word.NotationStart src s.at)

          -- A declaration that is passed over up to its `>`.
          pub turn_passed : is_skipped ≡ true → byte_from (λ c. c == 62) src s.at < length src → Continues run asked limit i m src (with_state d (at_place (byte_from (λ c. c == 62) src s.at + 1) d.state))
          unfolding subset skipped_declaration
          turn_passed is closes = grind arith

          pub passed_stops : is_skipped ≡ true → length src ≤ byte_from (λ c. c == 62) src s.at → Stops run asked (here (fault.UnknownToken i))
          unfolding subset skipped_declaration
          passed_stops is unclosed =
              let k = lt-leb _ _ inside in let l = le-ltb _ _ unclosed in
              stops_plainly (here (fault.UnknownToken i)) (λ more. rw (one, k, no_entity, no_comment, no_instruction, is, l) refl)

          module _ (no_skipped : is_skipped ≡ false) where
            -- `]`, and `>` after it.
            pub turn_end : slice_index src s.at ≡ 93 → spaces_end src (s.at + 1) < length src → slice_index src (spaces_end src (s.at + 1)) ≡ 62
                → Answered run asked (with_state d (at_place (spaces_end src (s.at + 1) + 1) d.state))
            unfolding subset subset_end
            turn_end is more_text closes =
                let k = lt-leb _ _ inside in let b = eq-eqb _ _ is in let l = lt-leb _ _ more_text in let c = eq-eqb _ _ closes in
                ends_plainly (with_state d (at_place (spaces_end src (s.at + 1) + 1) d.state)) (λ more. rw (one, k, no_entity, no_comment, no_instruction, no_skipped, b, l, c) refl)

            pub end_cut_stops : slice_index src s.at ≡ 93 → length src ≤ spaces_end src (s.at + 1) → Stops run asked (here fault.UnexpectedEndOfStream)
            unfolding subset subset_end
            end_cut_stops is cut =
                let k = lt-leb _ _ inside in let b = eq-eqb _ _ is in let l = le-leb _ _ cut in
                stops_plainly (here fault.UnexpectedEndOfStream) (λ more. rw (one, k, no_entity, no_comment, no_instruction, no_skipped, b, l) refl)

            pub end_stops : slice_index src s.at ≡ 93 → spaces_end src (s.at + 1) < length src → (slice_index src (spaces_end src (s.at + 1)) == 62) ≡ false
                → Stops run asked (here (fault.InvalidChar2 due.End (slice_index src (spaces_end src (s.at + 1))) (spaces_end src (s.at + 1))))
            unfolding subset subset_end
            end_stops is more_text other =
                let k = lt-leb _ _ inside in let b = eq-eqb _ _ is in let l = lt-leb _ _ more_text in
                stops_plainly (here (fault.InvalidChar2 due.End (slice_index src (spaces_end src (s.at + 1))) (spaces_end src (s.at + 1)))) (λ more. rw (one, k, no_entity, no_comment, no_instruction, no_skipped, b, l, other) refl)

            -- Nothing that is allowed here.
            pub unknown_stops : (slice_index src s.at == 93) ≡ false → Stops run asked (here (fault.UnknownToken s.at))
            unfolding subset
            unknown_stops other =
                stops_plainly (here (fault.UnknownToken s.at)) (λ more. rw (one, (lt-leb _ _ inside), no_entity, no_comment, no_instruction, no_skipped, other) refl)

-- As many items are read as there may be.
pub turn_spent : (run : List Reply → Asks Dtd) (asked : List Asked) (limit i n : ℕ) (src : List ℕ) (d : Dtd) → Continues run asked limit i n src d → n ≡ 0 → Answered run asked d
unfolding subset
turn_spent run asked limit i n src d on none more = on more ∙ rw none (ap (λ (l : List Asked). (l, Ok (left_with more d))) (append-nil asked))

-- What comes of the rest comes of all.
pub continued : (run : List Reply → Asks Dtd) (first asked : List Asked) (limit i n : ℕ) (src : List ℕ) (d e : Dtd) → Continues run first limit i n src d
    → Answered (λ rs. subset limit i n src (left_with rs d)) asked e → Answered run (first ++ asked) e
continued run first asked limit i n src d e on h more = grind (arith, replies_then)
