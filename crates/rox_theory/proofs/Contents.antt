-- Content that a reference opens, by the number of texts that may still be open, over the agreement of single steps.
use Rattle.std.proofs.Common.{◌≡◌, ℕ, zero, suc, ◌+◌, ◌<◌, ◌≤◌, Bool, false, List, length, nat_lt, refl, sym, ap, ◌∙◌, subst, arith, lt-ltb, ltb-true, IsUtf8, eq-eqb, ltb-false, le-ltb}
use Rattle.std.specs.Prelude.{Some, Ok}
use Rattle.rox_grammar.specs.Forest.{Forest, join}
use Rattle.rox_grammar.specs.Written.{Item}
use Rattle.rox_grammar.specs.Content.{Inclusion}
use Rattle.rox_grammar.specs.Entities.{Replacement, Entity, text_of, Includes}
use Rattle.rox_reading.specs.Refusals.{elsewhere}
use Rattle.rox_grammar.specs.State.{Open}
use Rattle.rox_reading.specs.State.{State, depth_of}
use Rattle.rox_reading.specs.Machine.{Context, step, text_ends, drive_text, budget, left_behind, values_of, opener}
use Rattle.rox_theory.specs.Openers.{AreTexts, AgreesValue}
use Rattle.rox_theory.proofs.Basics.{ok_same, bind_ok, bind_lifted, elsewhere_ok, chosen}
use Rattle.rox_theory.proofs.Standing.{IsValidState}
use Rattle.rox_theory.proofs.Leaves.{state, fine_there}
use Rattle.rox_theory.proofs.RunLemmas.{AgreesContent}
use Rattle.rox_theory.proofs.Flat.{StepsOver, Chain, arrives, goes, text_sound, text_complete}
use Rattle.rox_theory.proofs.Openers.{budget_sound, budget_complete, values_agree}

-- A step is one construct of the grammar.
pub record StepsAgree (context : Context) (O : Inclusion) (src : List ℕ) : Type 0 where
  pub sound : (most : ℕ) (s t : State) → context.limit ≤ most → s.at < length src → IsValidState most s → step context src s ≡ Ok t → StepsOver context.values.main O src context.open_around s t × IsValidState most t
  pub complete : (s t : State) → StepsOver context.values.main O src context.open_around s t → IsValidState context.limit t → step context src s ≡ Ok t
  pub back : (s t : State) → StepsOver context.values.main O src context.open_around s t → IsValidState context.limit t → IsValidState context.limit s
  -- It begins in the source, moves forward, and ends in the source.
  pub moves : (s t : State) → StepsOver context.values.main O src context.open_around s t → (s.at < length src) × (s.at < t.at) × (t.at ≤ length src)

module _ (context : Context) (O : Inclusion) (src : List ℕ) (steps : StepsAgree context O src) where
  abbrev Chained : State → State → Type 0
  Chained s u = Chain context.values.main O src context.open_around s u

  -- A text ends.
  ends_sound : (most : ℕ) (s u : State) → s.at ≡ length src → IsValidState most s → text_ends context s ≡ Ok u → Chained s u × IsValidState most u
  ends_sound most s u at fine h = grind (arith, arrives)

  -- What is read is a chain.
  pub drive_text_sound : (n most : ℕ) (s u : State) → context.limit ≤ most → s.at ≤ length src → length src ≤ s.at + n → IsValidState most s → drive_text context n src s ≡ Ok u → Chained s u × IsValidState most u
  unfolding drive_text
  drive_text_sound zero most s u limits to enough fine h = ends_sound most s u (omega arith) fine h
  drive_text_sound (suc n) most s u limits to enough fine h = chosen (nat_lt s.at (length src)) _ _ _ h
      (λ lt h. let below = ltb-true _ _ lt in bind_ok (step context src s) _ _ h (λ t read h.
      let one = steps.sound most s t limits below fine read in
      let m = steps.moves s t one.0 in
      let rest = drive_text_sound n most t u limits m.2 (omega (arith, m.1)) one.1 h in
      (goes s t u one.0 rest.0, rest.1)))
      (λ past h. ends_sound most s u (omega (arith, ltb-false _ _ past)) fine h)

  -- What the limits allow at the end they allow all along.
  chain_back : (s u : State) → Chained s u → IsValidState context.limit u → IsValidState context.limit s
  chain_back s u (arrives _ at same) fine = fine
  chain_back s u (goes _ t _ takes rest) fine = steps.back s t takes (chain_back t u rest fine)

  -- A chain is read.
  pub drive_text_complete : (n : ℕ) (s u : State) → Chained s u → IsValidState context.limit u → length src ≤ s.at + n → drive_text context n src s ≡ Ok u
  unfolding drive_text
  drive_text_complete zero s u (arrives _ at same) fine enough = rw (eq-eqb _ _ same) refl
  drive_text_complete (suc n) s u (arrives _ at same) fine enough = let past = le-ltb s.at (length src) (omega arith) in rw (past, eq-eqb _ _ same) refl
  drive_text_complete zero s u (goes _ t _ takes rest) fine enough = absurd (omega (arith, steps.moves s t takes))
  drive_text_complete (suc n) s u (goes _ t _ takes rest) fine enough =
      let m = steps.moves s t takes in
      rw ((lt-ltb s.at (length src) m.0), (steps.complete s t takes (chain_back t u rest fine))) (drive_text_complete n t u rest fine (omega (arith, m.1)))

-- How a replacement text is read.
abbrev pub within : ℕ → List Entity → ℕ → ℕ → Context
within limit es d open_around = record { limit = limit; values = values_of es d false; open_around = open_around; opener = opener limit es d false }

contents_none : (limit : ℕ) (es : List Entity) (main : Bool) → AgreesContent es limit (Includes es zero main) (opener limit es zero main)
unfolding opener
contents_none limit es main = grind arith

module _ (limit : ℕ) (es : List Entity) (texts : AreTexts es) (d : ℕ) (steps : (open_around : ℕ) (src : List ℕ) → IsUtf8 src → StepsAgree (within limit es d open_around) (Includes es d false) src) (main : Bool) where
  content_sound : (most : ℕ) (name : List ℕ) (t : Replacement) (after : ℕ) (s u : State) → limit ≤ most → text_of es name ≡ Some t → IsValidState most s → opener limit es (suc d) main t after s ≡ Ok u
      → (items : Forest Item) × (c : ℕ) × (Includes es (suc d) main).content name s.openings_left items c × (u ≡ state after (join s.done items) s.stack c) × IsValidState most u
  unfolding opener
  content_sound most name t after s u limits found fine h =
      let text = texts name t found in
      let src = t.source in
      let context = within limit es d (depth_of s.stack) in
      bind_lifted (budget main after s.openings_left) _ _ h (λ r spent h.
      bind_ok (elsewhere src (drive_text context (length src) src (state t.start s.done s.stack r))) _ _ h (λ v read h.
      let read' = elsewhere_ok src (drive_text context (length src) src (state t.start s.done s.stack r)) v read in
      let chain = drive_text_sound context (Includes es d false) src (steps (depth_of s.stack) src text.0) (length src) most (state t.start s.done s.stack r) v limits text.1.0 (omega arith) (fine_there most s (state t.start s.done s.stack r) refl refl fine) read' in
      let whole = text_sound (Includes es d false) src t.start r s.done s.stack v chain.0 in
      let done = ap (λ (s : State). s.done) whole.2 in
      let stack = ap (λ (s : State). s.stack) whole.2 in
      let u_is : state after v.done v.stack (left_behind main s.openings_left v.openings_left) ≡ u = ok_same _ _ h in
      let fine' : IsValidState most u = subst (IsValidState most) u_is (fine_there most v (state after v.done v.stack (left_behind main s.openings_left v.openings_left)) refl refl chain.1) in (
        whole.0,
        left_behind main s.openings_left v.openings_left,
        (t, r, v.openings_left, found, budget_sound main after s.openings_left r v.openings_left spent, whole.1),
        sym u_is ∙ ap (λ (f : Forest Item). state after f v.stack (left_behind main s.openings_left v.openings_left)) done ∙ ap (λ (o : Open). state after (join s.done whole.0) o (left_behind main s.openings_left v.openings_left)) stack,
        fine',
      )))

  content_complete : (name : List ℕ) (after c : ℕ) (items : Forest Item) (s : State) → (Includes es (suc d) main).content name s.openings_left items c → IsValidState limit (state after (join s.done items) s.stack c)
      → (t : Replacement) × (text_of es name ≡ Some t) × (opener limit es (suc d) main t after s ≡ Ok (state after (join s.done items) s.stack c))
  unfolding opener
  content_complete name after c items s (t, r, l, found, spends, content) fine =
      let text = texts name t found in
      let src = t.source in
      let context = within limit es d (depth_of s.stack) in
      let spent = budget_complete main after s.openings_left r l c spends in
      let last = state (length src) (join s.done items) s.stack l in
      let chain = text_complete (Includes es d false) src t.start r l s.done items s.stack content in
      let fine' = fine_there limit (state after (join s.done items) s.stack c) last refl refl fine in
      let read = drive_text_complete context (Includes es d false) src (steps (depth_of s.stack) src text.0) (length src) (state t.start s.done s.stack r) last chain fine' (omega arith) in
      (t, found, rw (spent.0, read, spent.1) refl)

  contents_one_more : AgreesContent es limit (Includes es (suc d) main) (opener limit es (suc d) main)
  contents_one_more = record { sound = content_sound; complete = content_complete }

-- A reference in content.
pub contents_agree : (limit : ℕ) (es : List Entity) → AreTexts es
    → ((d open_around : ℕ) (src : List ℕ) → IsUtf8 src → AgreesContent es limit (Includes es d false) (opener limit es d false) → AgreesValue es (Includes es d false) (values_of es d false).opener
    → StepsAgree (within limit es d open_around) (Includes es d false) src)
    → (d : ℕ) (main : Bool) → AgreesContent es limit (Includes es d main) (opener limit es d main)
contents_agree limit es texts steps zero main = contents_none limit es main
contents_agree limit es texts steps (suc d) main =
    contents_one_more limit es texts d (λ open_around src utf8. steps d open_around src utf8 (contents_agree limit es texts steps d false) (values_agree es texts d false)) main
