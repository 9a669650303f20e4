-- The names in the faults of runs and values are texts of the source that they count in.
use Rattle.std.proofs.Common.{◌≡◌, ℕ, zero, suc, ◌+◌, ◌==◌, ◌||◌, Bool, true, false, cond, ltb, List, Option, Some, length, take, subst, arith, IsUtf8}
use Rattle.std.specs.Prelude.{Result, Ok, Err}
use Rattle.rox_grammar.specs.declared.fault.Span.{Span}
use Rattle.rox_grammar.specs.declared.fault.Fault.{Fault}
use Rattle.rox_grammar.specs.Spans.{IsTextSpan, NamesText}
use Rattle.rox_grammar.specs.Chars.{is_name_char, is_char}
use Rattle.rox_grammar.specs.Runs.{run_end}
use Rattle.rox_grammar.specs.Search.{byte_from}
use Rattle.rox_grammar.specs.Names.{byte, slice}
use Rattle.rox_grammar.specs.Entities.{Replacement, Entity, text_of}
use Rattle.rox_reading.specs.Lexical.{◌>>=◌, chars_up_to}
use Rattle.rox_reading.specs.Refusals.{Refusal, here, there, refused, lifted, elsewhere}
use Rattle.rox_reading.specs.Values.{Reference, character_of, entity_at, number_at, name_reference_at, reference_at, Bit, bytes_of, opens as a_text, entity_bit, reference_bit, expansion_at, data_bit_at, Next, at_end, opening, after_bit, data_part, ReadText, is_special, tested_bit, value_reference_at, stretch_at, value_bit_at, ValueInclusion, after_value_bit, value_text, value_at}
use Rattle.rox_reading.specs.Machine.{budget, value_opener}
use Rattle.rox_theory.specs.Openers.{AreTexts}
use Rattle.rox_theory.proofs.Basics.{run_end_le}
use Rattle.rox_faults.proofs.NameSpans.{run_cut, cut_behind}

-- What a result gives has a property, or the names of its fault are texts of the source.
abbrev pub SpanIs : {A : Type 0} → List ℕ → (A → Type 0) → Result A Fault → Type 0
SpanIs src P (Ok x) = P x
SpanIs src P (Err f) = NamesText src f

pub record Spanned (A : Type 0) (src : List ℕ) (P : A → Type 0) (r : Result A Fault) : Type 0 where
  pub holds : SpanIs src P r

-- The names of its fault are texts of the source, whatever it gives.
abbrev pub FaultSpanned : {A : Type 0} → List ℕ → Result A Fault → Type 0
FaultSpanned {A = A} src r = Spanned A src (λ x. Unit {0}) r

-- So it is of a sequence, step by step.
pub spanned_bind : {A B : Type 0} (src : List ℕ) (P : A → Type 0) (Q : B → Type 0) (r : Result A Fault) (f : A → Result B Fault)
    → Spanned A src P r → ((x : A) → r ≡ Ok x → P x → Spanned B src Q (f x)) → Spanned B src Q (r >>= f)
spanned_bind src P Q r f h go = grind arith

-- And of a choice, branch by branch.
pub spanned_cond : {A : Type 0} (src : List ℕ) (P : A → Type 0) (b : Bool) (x y : Result A Fault)
    → (b ≡ true → Spanned A src P x) → (b ≡ false → Spanned A src P y) → Spanned A src P (cond b x y)
spanned_cond src P b x y holds fails = grind arith

-- What is known of its fault and of what it gives, apart.
pub spanned_by : {A : Type 0} (src : List ℕ) (P : A → Type 0) (r : Result A Fault)
    → ((f : Fault) → r ≡ Err f → NamesText src f) → ((x : A) → r ≡ Ok x → P x) → Spanned A src P r
spanned_by src P r fault gives = grind arith

-- The fault that it is.
pub spanned_fault : {A : Type 0} (src : List ℕ) (P : A → Type 0) (r : Result A Fault) (f : Fault) → Spanned A src P r → r ≡ Err f → NamesText src f
spanned_fault src P r f h e = subst (SpanIs src P) e h.holds

-- ---- the same of what may open entities: the names of a refusal are texts of the source that it counts in

abbrev pub IsTold : List ℕ → Refusal → Type 0
IsTold src (here f) = NamesText src f
IsTold src (there source f) = NamesText source f
IsTold src (refused request at message) = Unit {0}

abbrev pub Tells : {A : Type 0} → List ℕ → (A → Type 0) → Result A Refusal → Type 0
Tells src P (Ok x) = P x
Tells src P (Err e) = IsTold src e

pub record Told (A : Type 0) (src : List ℕ) (P : A → Type 0) (r : Result A Refusal) : Type 0 where
  pub tells : Tells src P r

-- Of a sequence.
pub told_bind : {A B : Type 0} (src : List ℕ) (P : A → Type 0) (Q : B → Type 0) (r : Result A Refusal) (f : A → Result B Refusal)
    → Told A src P r → ((x : A) → r ≡ Ok x → P x → Told B src Q (f x)) → Told B src Q (r >>= f)
told_bind src P Q r f h go = grind arith

-- Of a choice.
pub told_cond : {A : Type 0} (src : List ℕ) (P : A → Type 0) (b : Bool) (x y : Result A Refusal) → (b ≡ true → Told A src P x) → (b ≡ false → Told A src P y) → Told A src P (cond b x y)
told_cond src P b x y holds fails = grind arith

-- Of what opens no entity.
pub told_lifted : {A : Type 0} (src : List ℕ) (P : A → Type 0) (r : Result A Fault) → Spanned A src P r → Told A src P (lifted r)
told_lifted src P r h = grind arith

-- And of what follows it.
pub told_after : {A B : Type 0} (src : List ℕ) (P : A → Type 0) (Q : B → Type 0) (r : Result A Fault) (f : A → Result B Refusal)
    → Spanned A src P r → ((x : A) → r ≡ Ok x → P x → Told B src Q (f x)) → Told B src Q (lifted r >>= f)
told_after src P Q r f h go = grind arith

-- Of another source.
pub told_elsewhere : {A : Type 0} (src source : List ℕ) (P : A → Type 0) (r : Result A Refusal) → Told A source P r → Told A src P (elsewhere source r)
told_elsewhere src source P r h = grind arith

-- The refusal that it is.
pub told_refusal : {A : Type 0} (src : List ℕ) (P : A → Type 0) (r : Result A Refusal) (e : Refusal) → Told A src P r → r ≡ Err e → IsTold src e
told_refusal src P r e h is = subst (Tells src P) is h.tells

-- Chars up to a place: the fault has no name.
pub chars_spans : (src : List ℕ) (end i : ℕ) → FaultSpanned src (chars_up_to end src i)
unfolding chars_up_to
chars_spans src end i = spanned_cond src _ (ltb (run_end is_char (take end src) i) end) _ _ (λ ill. record { holds = tt }) (λ fine. record { holds = tt })

-- The name of an entity is a text of the source.
abbrev pub RefersTo : List ℕ → Reference → Type 0
RefersTo src (character_of c) = Unit {0}
RefersTo src (entity_at span) = IsTextSpan src span

module _ (src : List ℕ) (utf8 : IsUtf8 src) where
  -- A number refers to a character.
  number_spans : (base : ℕ) (is : ℕ → Bool) (i d : ℕ) → Spanned (Reference × ℕ) src (λ (r : Reference × ℕ). RefersTo src r.0) (number_at base is src i d)
  unfolding number_at
  number_spans base is i d = grind arith

  -- The name after `&`.
  name_span_text : (i : ℕ) → byte src i ≡ 38 → IsTextSpan src (record { start = i + 1; end = run_end is_name_char src (i + 1) })
  name_span_text i amp = grind (arith, cut_behind src i 38 utf8 amp (omega arith) (omega arith), run_end_le, run_cut)

  -- A name between `&` and `;`.
  name_reference_spans : (i : ℕ) → byte src i ≡ 38 → Spanned (Reference × ℕ) src (λ (r : Reference × ℕ). RefersTo src r.0) (name_reference_at src i)
  unfolding name_reference_at
  name_reference_spans i amp = grind (arith, name_span_text)

  -- A reference.
  pub reference_spanned : (i : ℕ) → byte src i ≡ 38 → Spanned (Reference × ℕ) src (λ (r : Reference × ℕ). RefersTo src r.0) (reference_at src i)
  unfolding reference_at
  reference_spanned i amp = grind (arith, number_spans, name_reference_spans)

  -- A replacement text is text.
  abbrev pub IsSource : Bit → Type 0
  IsSource (bytes_of bs) = Unit {0}
  IsSource (a_text t) = IsUtf8 t.source

  -- What ends a part, too.
  abbrev pub NextIsSource : Next → Type 0
  NextIsSource at_end = Unit {0}
  NextIsSource (opening t j) = IsUtf8 t.source

  module _ (es : List Entity) (texts : AreTexts es) where
    -- An entity, or its name.
    found_spans : (i : ℕ) (span : Span) (o : Option Replacement) → ((t : Replacement) → o ≡ Some t → IsUtf8 t.source) → IsTextSpan src span → Spanned Bit src IsSource (entity_bit o i span)
    found_spans i span o is text = grind arith

    -- What a reference stands for, or its name.
    expanded_spans : (i : ℕ) (r : Reference) → RefersTo src r → Spanned Bit src IsSource (reference_bit es src i r)
    expanded_spans i (character_of c) h = record { holds = tt }
    expanded_spans i (entity_at span) h = found_spans i span (text_of es (slice src span.start span.end)) (λ t is. (texts (slice src span.start span.end) t is).0) h

    -- A reference that is expanded.
    expansion_spans : (i : ℕ) → byte src i ≡ 38 → Spanned (Bit × ℕ) src (λ (x : Bit × ℕ). IsSource x.0) (expansion_at es src i)
    unfolding expansion_at
    expansion_spans i amp = grind (arith, reference_spanned, expanded_spans)

    -- A bit of a run.
    run_bit_spans : (main : Bool) (stop i : ℕ) → Spanned (Bit × ℕ) src (λ (x : Bit × ℕ). IsSource x.0) (data_bit_at main es src stop i)
    unfolding data_bit_at
    run_bit_spans main stop i = grind (arith, expansion_spans)

    -- A bit, and what follows it.
    after_bit_spans : (more : ℕ → Result (List ℕ × Next) Fault) (bit : Bit) (j : ℕ) → IsSource bit → Spanned (List ℕ × Next) src (λ (x : List ℕ × Next). NextIsSource x.1) (more j)
        → Spanned (List ℕ × Next) src (λ (x : List ℕ × Next). NextIsSource x.1) (after_bit more bit j)
    after_bit_spans more bit j is h = grind arith

    -- A part of a run.
    pub run_part_spans : (main : Bool) (n stop i : ℕ) → Spanned (List ℕ × Next) src (λ (x : List ℕ × Next). NextIsSource x.1) (data_part main es n src stop i)
    unfolding data_part
    run_part_spans main zero stop i = record { holds = tt }
    run_part_spans main (suc n) stop i =
        spanned_cond src _ (ltb i stop) _ _
        (λ h. spanned_bind src (λ (x : Bit × ℕ). IsSource x.0) _ (data_bit_at main es src stop i) _ (run_bit_spans main stop i) (λ x read is.
        after_bit_spans (λ j. data_part main es n src stop j) x.0 x.1 is (run_part_spans main n stop x.1)))
        (λ h. record { holds = tt })

    -- A reference in a value.
    tested_spans : (main : Bool) (i : ℕ) (r : Reference) → Spanned Bit src IsSource (reference_bit es src i r) → Spanned Bit src IsSource (tested_bit main i r (reference_bit es src i r))
    tested_spans main i r h = grind arith

    value_reference_spans : (main : Bool) (i : ℕ) → byte src i ≡ 38 → Spanned (Bit × ℕ) src (λ (x : Bit × ℕ). IsSource x.0) (value_reference_at main es src i)
    unfolding value_reference_at
    value_reference_spans main i amp = grind (arith, reference_spanned, expanded_spans)

    -- A stretch.
    stretch_spans : (main : Bool) (stop i : ℕ) → Spanned (Bit × ℕ) src (λ (x : Bit × ℕ). IsSource x.0) (stretch_at main src stop i)
    stretch_spans true stop i = record { holds = tt }
    stretch_spans false stop i =
        let j = byte_from (λ b. is_special b || b == 60) (take stop src) i in
        spanned_bind src (λ (x : List ℕ × ℕ). Unit {0}) _ (chars_up_to j src i) _ (chars_spans src j i) (λ x read h. grind arith)

    -- A bit of a value.
    value_bit_spans : (main : Bool) (stop i : ℕ) → Spanned (Bit × ℕ) src (λ (x : Bit × ℕ). IsSource x.0) (value_bit_at main es src stop i)
    unfolding value_bit_at
    value_bit_spans main stop i = grind (arith, value_reference_spans, stretch_spans)

    -- The refusals of what a replacement text is read to as a part of a value are told.
    abbrev pub OpenerTold : ValueInclusion → Type 0
    OpenerTold opener = (t : Replacement) (after openings_left : ℕ) → IsUtf8 t.source → Told (List ℕ × ℕ) src (λ x. Unit {0}) (opener t after openings_left)

    module _ (opener : ValueInclusion) (opens : OpenerTold opener) where
      -- A bit, and what follows it.
      after_value_told : (more : ℕ → ℕ → Result (List ℕ × ℕ) Refusal) → ((j openings_left : ℕ) → Told (List ℕ × ℕ) src (λ x. Unit {0}) (more j openings_left)) → (openings_left : ℕ) (bit : Bit) (j : ℕ) → IsSource bit
          → Told (List ℕ × ℕ) src (λ x. Unit {0}) (after_value_bit opener more openings_left bit j)
      after_value_told more rest openings_left bit j is = grind arith

      -- All bits of a value.
      pub value_text_told : (main : Bool) (n stop i openings_left : ℕ) → Told (List ℕ × ℕ) src (λ x. Unit {0}) (value_text main es opener n src stop i openings_left)
      unfolding value_text
      value_text_told main zero stop i openings_left = record { tells = tt }
      value_text_told main (suc n) stop i openings_left =
          told_cond src _ (ltb i stop) _ _
          (λ h. told_after src (λ (x : Bit × ℕ). IsSource x.0) _ (value_bit_at main es src stop i) _ (value_bit_spans main stop i) (λ x read is.
          after_value_told (λ j l. value_text main es opener n src stop j l) (λ j l. value_text_told main n stop j l) openings_left x.0 x.1 is))
          (λ h. record { tells = tt })

      -- A value.
      pub value_told : (main : Bool) (i stop openings_left : ℕ) → Told (ReadText × ℕ) src (λ x. Unit {0}) (value_at main es opener src i stop openings_left)
      unfolding value_at
      value_told main i stop openings_left = grind (arith, value_text_told)

-- How many may be opened: the fault has no name.
pub budget_spans : (src : List ℕ) (main : Bool) (after openings_left : ℕ) → FaultSpanned src (budget main after openings_left)
budget_spans src main after openings_left = grind arith

-- A replacement text as a part of a value, by how many may still be open.
pub value_opener_told : (es : List Entity) → AreTexts es → (d : ℕ) (main : Bool) (src : List ℕ) (t : Replacement) (after openings_left : ℕ) → IsUtf8 t.source → Told (List ℕ × ℕ) src (λ x. Unit {0}) (value_opener es d main t after openings_left)
unfolding value_opener
value_opener_told es texts zero main src t after openings_left utf8 = record { tells = tt }
value_opener_told es texts (suc d) main src t after openings_left utf8 =
    let inner = t.source in
    told_after src (λ (r : ℕ). Unit {0}) _ (budget main after openings_left) _ (budget_spans src main after openings_left) (λ r read h.
    told_bind src (λ (x : List ℕ × ℕ). Unit {0}) _ (elsewhere inner (value_text false es (value_opener es d false) (length inner) inner (length inner) t.start r)) _
    (told_elsewhere src inner _ (value_text false es (value_opener es d false) (length inner) inner (length inner) t.start r)
    (value_text_told inner utf8 es texts (value_opener es d false) (λ u after openings_left utf8. value_opener_told es texts d false inner u after openings_left utf8) false (length inner) (length inner) t.start r))
    (λ x read h. record { tells = tt }))
