-- What a reference opens by the grammar is what is read, by the number of texts that may still be open.
use Rattle.std.proofs.Common.{◌≡◌, ℕ, zero, suc, ◌<◌, Bool, false, List, length, refl, ap, subst, arith}
use Rattle.std.specs.Prelude.{Some, Ok}
use Rattle.std.proofs.lemmas.Bool.{false≢true}
use Rattle.rox_grammar.specs.Names.{byte}
use Rattle.rox_grammar.specs.Entities.{Replacement, Entity, text_of, Spends, Includes}
use Rattle.rox_reading.specs.Refusals.{elsewhere}
use Rattle.rox_reading.specs.Values.{value_text}
use Rattle.rox_reading.specs.Machine.{budget, left_behind, value_opener}
use Rattle.rox_theory.specs.Openers.{IsStop, AreTexts, AgreesValue}
use Rattle.rox_theory.proofs.Basics.{ok_same, bind_ok, bind_lifted, elsewhere_ok}
use Rattle.rox_theory.proofs.ValueLemmas.{value_text_sound, value_text_chars, value_text_complete}

-- ---- openings that are left

pub budget_sound : (main : Bool) (after b r l : ℕ) → budget main after b ≡ Ok r → Spends main b r l (left_behind main b l)
budget_sound main after b r l h = grind arith

pub budget_complete : (main : Bool) (after b r l c : ℕ) → Spends main b r l c → (budget main after b ≡ Ok r) × (left_behind main b l ≡ c)
budget_complete main after b r l c h = grind arith

-- ---- values

-- Nothing is after the end.
pub no_stop : (src : List ℕ) → length src < length src → IsStop (byte src (length src))
no_stop src past = absurd (omega arith)

values_none : (es : List Entity) (main : Bool) → AgreesValue es (Includes es zero main) (value_opener es zero main)
unfolding value_opener
values_none es main = grind arith

module _ (es : List Entity) (texts : AreTexts es) (d : ℕ) (inner : AgreesValue es (Includes es d false) (value_opener es d false)) (main : Bool) where
  opened_sound : (name : List ℕ) (t : Replacement) (after b c : ℕ) (w : List ℕ) → text_of es name ≡ Some t → value_opener es (suc d) main t after b ≡ Ok (w, c) → (Includes es (suc d) main).value name b w c
  unfolding value_opener
  opened_sound name t after b c w found h =
      let text = texts name t found in
      let src = t.source in
      bind_lifted (budget main after b) _ _ h (λ r spent h.
      bind_ok (elsewhere src (value_text false es (value_opener es d false) (length src) src (length src) t.start r)) _ _ h (λ x read h.
      let read' = elsewhere_ok src (value_text false es (value_opener es d false) (length src) src (length src) t.start r) x read in
      let f : left_behind main b x.1 ≡ c = ap (λ (p : List ℕ × ℕ). p.1) (ok_same _ _ h) in
      let value = value_text_sound es src text.0 (length src) (omega arith) (no_stop src) false (Includes es d false) (value_opener es d false) inner (length src) t.start r x.1 x.0 text.1.0 (omega arith) (λ z. absurd (false≢true z)) read' in
      let chars = value_text_chars es src text.0 (length src) (omega arith) (no_stop src) false (Includes es d false) (value_opener es d false) inner (length src) t.start r x.1 x.0 refl text.1 text.1.0 (omega arith) read' in
      subst (λ (v : List ℕ). (Includes es (suc d) main).value name b v c) (ap (λ (p : List ℕ × ℕ). p.0) (ok_same _ _ h))
      (subst (λ (n : ℕ). (Includes es (suc d) main).value name b x.0 n) f (t, r, x.1, found, budget_sound main after b r x.1 spent, chars, value))))

  opened_complete : (name : List ℕ) (after b c : ℕ) (w : List ℕ) → (Includes es (suc d) main).value name b w c → (t : Replacement) × (text_of es name ≡ Some t) × (value_opener es (suc d) main t after b ≡ Ok (w, c))
  unfolding value_opener
  opened_complete name after b c w (t, r, l, found, spends, chars, value) =
      let text = texts name t found in
      let src = t.source in
      let spent = budget_complete main after b r l c spends in
      let read = value_text_complete es src text.0 (length src) (omega arith) (no_stop src) false (Includes es d false) (value_opener es d false) inner (length src) t.start r l w text.1.0 (omega arith) text.1 (λ z. chars) value in
      (t, found, rw (spent.0, read, spent.1) refl)

  values_one_more : AgreesValue es (Includes es (suc d) main) (value_opener es (suc d) main)
  values_one_more = record { sound = opened_sound; complete = opened_complete }

-- A reference in a value.
pub values_agree : (es : List Entity) → AreTexts es → (d : ℕ) (main : Bool) → AgreesValue es (Includes es d main) (value_opener es d main)
values_agree es texts zero main = values_none es main
values_agree es texts (suc d) main = values_one_more es texts d (values_agree es texts d false) main
