-- Values that fail: in what they hold, or in a replacement text that is opened in them.
use Rattle.std.proofs.Common.{◌≡◌, ◌≢◌, ℕ, zero, suc, ◌+◌, ◌-◌, ◌<◌, ◌≤◌, ◌⊎◌, Bool, true, false, eqb, ltb, List, [], ◌∷◌, ◌++◌, length, take, refl, sym, ◌∙◌, subst, arith, inl, inr, IsUtf8, IsCharBoundary}
use Rattle.std.specs.Prelude.{Result, Err, Some}
use Rattle.std.proofs.lemmas.List.{get_or-take, get_or_past, length-take-le}
use Rattle.std.proofs.lemmas.Bool.{cases_lt, eqb-true, ltb-true, false≢true}
use Rattle.rox_grammar.specs.declared.fault.Fault.{Fault}
use Rattle.rox_grammar.specs.declared.fault.Fault.TheVariants as fault
use Rattle.rox_grammar.specs.Chars.{is_char}
use Rattle.rox_grammar.specs.Runs.{StandsAt}
use Rattle.rox_grammar.specs.Names.{byte, slice}
use Rattle.rox_grammar.specs.References.{IsCharacter, entity_reference}
use Rattle.rox_grammar.specs.Content.{Inclusion, is_verbatim_value, value_bytes, Value, value_ends, line_end, white, other, a_character, an_entity}
use Rattle.rox_grammar.specs.Entities.{Replacement, Entity, text_of, most_deep}
use Rattle.rox_grammar.specs.Due.{IsMissing, no_char, chars_to}
use Rattle.rox_grammar.specs.ContentPoints.{is_main, RefersTo, MayOpen, IsSpent, ValuePart, opened}
use Rattle.rox_grammar.specs.Faults.{InReferences, InValue, in_reference, too_many, less}
use Rattle.rox_grammar.specs.Faults as faults
use Rattle.rox_reading.specs.Lexical.{chars_up_to}
use Rattle.rox_reading.specs.Refusals.{Refusal}
use Rattle.rox_reading.specs.Values.{Reference, reference_at, Bit, reference_bit, tested_bit, value_reference_at, stretch_at, value_bit_at, after_value_bit, value_text, value_at}
use Rattle.rox_reading.specs.Machine.{budget, value_opener}
use Rattle.rox_theory.specs.Openers.{IsStop, AreTexts, AgreesValue}
use Rattle.rox_theory.proofs.Basics.{chosen, run_end_le}
use Rattle.rox_theory.proofs.LiteralLemmas.{from_le}
use Rattle.rox_theory.proofs.StretchLemmas.{next_at, next_bound}
use Rattle.rox_theory.proofs.ReferenceLemmas.{IsRead, is_character, is_entity, reference_sound, reference_opens}
use Rattle.rox_theory.proofs.ValueLemmas.{stops, stops_ascii, ValueBit, bit_line_end, bit_white, bit_stretch, bit_character, bit_entity, next_cut, bit_moves, bit_cut, value_bit_sound}
use Rattle.rox_theory.proofs.FailedReadings.{bind_err, lifted_err, no_fault, chars_fails}
use Rattle.rox_faults.proofs.FaultRows.{reference_fails, unknown_fails}
use Rattle.rox_faults.proofs.PartFronts.{value_from}
use Rattle.rox_faults.proofs.FaultPoints.{Refuses, refuses_here, elsewhere_err, spent_here, may_open, deepest}

-- A value is from i up to j.
abbrev pub Reads : (main : Bool) → Inclusion → List ℕ → (i j b c : ℕ) → Type 0
Reads main O src i j b c = (v : List ℕ) × Value main O src j i b c v

-- A longer one.
module _ (main : Bool) (O : Inclusion) (src : List ℕ) (stop : ℕ) where
  reads_le : (p q b c : ℕ) → Reads main O src p q b c → p ≤ q
  reads_le p q b c (v, value) = value_from main O src p q b c v value

  over_line_end : (p q b c : ℕ) → byte src p ≡ 13 → byte src (p + 1) ≡ 10 → Reads main O src (p + 1) q b c → Reads main O src p q b c
  over_line_end p q b c cr lf (v, value) =
      let le = reads_le (p + 1) q b c (v, value) in
      elim (cases_lt (p + 1) q) as (λ z. Reads main O src p q b c) [
        | inl more ↦ (v, line_end p b c v more cr lf value)
        | inr past ↦ (let end : q ≡ p + 1 = omega arith in (32 ∷ v, white p b c v (omega arith) (inr (inr (cr, inl end))) value))
      ]

  over_white : (p q b c : ℕ) → q ≤ stop → (byte src p ≡ 9) ⊎ ((byte src p ≡ 10) ⊎ ((byte src p ≡ 13) × ((stop ≡ p + 1) ⊎ (byte src (p + 1) ≢ 10)))) → Reads main O src (p + 1) q b c
      → Reads main O src p q b c
  over_white p q b c short (inl tab) (v, value) = let le = reads_le (p + 1) q b c (v, value) in (32 ∷ v, white p b c v (omega arith) (inl tab) value)
  over_white p q b c short (inr (inl lf)) (v, value) = let le = reads_le (p + 1) q b c (v, value) in (32 ∷ v, white p b c v (omega arith) (inr (inl lf)) value)
  over_white p q b c short (inr (inr (cr, inl last))) (v, value) =
      let le = reads_le (p + 1) q b c (v, value) in let end : q ≡ p + 1 = omega arith in (32 ∷ v, white p b c v (omega arith) (inr (inr (cr, inl end))) value)
  over_white p q b c short (inr (inr (cr, inr more))) (v, value) = let le = reads_le (p + 1) q b c (v, value) in (32 ∷ v, white p b c v (omega arith) (inr (inr (cr, inr more))) value)

  over_stretch : (n p j q b c : ℕ) → p + n ≡ j
      → ((k : ℕ) → p ≤ k → k < j → ((byte src k ≢ 38) × (byte src k ≢ 9) × (byte src k ≢ 10) × (byte src k ≢ 13)) × (byte src k ≢ 60)) → Reads main O src j q b c → Reads main O src p q b c
  over_stretch zero p j q b c to plain rest = let e : j ≡ p = omega arith in subst (λ (m : ℕ). Reads main O src m q b c) e rest
  over_stretch (suc n) p j q b c to plain rest =
      let one = over_stretch n (p + 1) j q b c (omega arith) (λ k from below. plain k (omega arith) below) rest in
      let le = reads_le (p + 1) q b c one in
      let s = plain p (omega arith) (omega arith) in
      (byte src p ∷ one.0, other p b c one.0 (omega arith) s.0.0 s.0.1 s.0.2 s.0.3 s.1 one.1)

module _ (src : List ℕ) (utf8 : IsUtf8 src) (es : List Entity) (stop : ℕ) (long : stop ≤ length src) (closes : stop < length src → IsStop (byte src stop)) where
  -- What is wrong with one bit: rows 9, 10, 12 and 22.
  pub data IllBit (main : Bool) (p : ℕ) : Fault → Type 0 where
    ill_reference : (f : Fault) → InReferences es src p f → IllBit main p f
    gives_less : (j : ℕ) → main ≡ false → IsCharacter src p 60 j → IllBit main p (fault.InvalidAttributeValue p)
    is_less : (q : ℕ) → main ≡ false → p ≤ q → q < stop → byte src q ≡ 60 → IllBit main p (fault.InvalidAttributeValue q)
    ill_char : (q c : ℕ) → main ≡ false → p ≤ q → q < stop → StandsAt c src q → is_char c ≡ false → IllBit main p (fault.NonXmlChar c q)

  -- A reference.
  tested_fails : (main : Bool) (p j : ℕ) (r : Reference) (f : Fault) → IsRead src p r j → tested_bit main p r (reference_bit es src p r) ≡ Err f → IllBit main p f
  tested_fails true p j r f read h = ill_reference f (unknown_fails src utf8 es p j r f read h)
  tested_fails false p j r f (is_character c _ stands) h =
      chosen (eqb c 60) _ _ _ h
      (λ same h. let is : fault.InvalidAttributeValue p ≡ f = cc in
      subst (IllBit false p) is (gives_less j refl (subst (λ (c : ℕ). IsCharacter src p c j) (eqb-true _ _ same) stands)))
      (λ other h. no_fault _ f h)
  tested_fails false p j r f (is_entity n _ stands none) h = ill_reference f (unknown_fails src utf8 es p j r f (is_entity n j stands none) h)

  value_reference_fails : (main : Bool) (p : ℕ) (f : Fault) → byte src p ≡ 38 → value_reference_at main es src p ≡ Err f → IllBit main p f
  unfolding value_reference_at
  value_reference_fails main p f amp h =
      bind_err (reference_at src p) _ f h (λ bad. ill_reference f (reference_fails src utf8 es p f amp bad))
      (λ r read h. bind_err (tested_bit main p r.0 (reference_bit es src p r.0)) _ f h (λ bad. tested_fails main p r.1 r.0 f (reference_sound src p r amp read) bad) (λ bit ok h. no_fault _ f h))

  -- Chars up to a place.
  chars_ill : (p e : ℕ) (f : Fault) → e ≤ stop → IsMissing src p (chars_to e) f → IllBit false p f
  chars_ill p e f to (no_char _ q c is before stands ill) =
      let le = run_end_le is_char (take e src) p in
      ill_char q c refl (omega arith) (omega arith) stands ill

  -- A stretch.
  stretch_fails : (main : Bool) (p : ℕ) (f : Fault) → p < stop → IsCharBoundary src p → stretch_at main src stop p ≡ Err f → IllBit main p f
  stretch_fails true p f below cut h = no_fault _ f h
  stretch_fails false p f below cut h =
      let j = next_at src stop stops p in
      let le = from_le stops (take stop src) p in
      bind_err (chars_up_to j src p) _ f h
      (λ bad. chars_ill p j f (next_bound src stop long stops p (omega arith)) (chars_fails src p j f utf8 cut (next_cut es src utf8 stop long closes stops stops_ascii p (omega arith)) le bad))
      (λ raw read h. chosen (eqb (byte (take stop src) j) 60) _ _ _ h
      (λ tag h.
      let below' : j < stop = grind (arith, get_or_past, length-take-le) in
      let is : fault.InvalidAttributeValue j ≡ f = cc in
      subst (IllBit false p) is (is_less j refl le below' (sym (get_or-take stop src j 0 below') ∙ (eqb-true _ _ tag))))
      (λ none h. no_fault _ f h))

  -- A bit.
  bit_fails : (main : Bool) (p : ℕ) (f : Fault) → p < stop → IsCharBoundary src p → value_bit_at main es src stop p ≡ Err f → IllBit main p f
  unfolding value_bit_at
  bit_fails main p f below cut h = grind (arith, value_reference_fails, stretch_fails)

module _ (opens : ℕ → Inclusion) (es : List Entity) (k : ℕ) (whole : List ℕ) (start end b : ℕ) where
  -- A fault that is in a part of the value.
  pub data InPart (part : List ℕ) (f : Fault) : Type 0 where
    in_part : (l i stop d : ℕ) → ValuePart opens es k whole start end b l part i stop d → InValue es l (opens l) part i stop d f → InPart part f

  -- What is opened after a reference that ends at j fails.
  abbrev pub ValueOpenerFails : (d l : ℕ) → Type 0
  ValueOpenerFails d l =
      (src : List ℕ) (j openings_left : ℕ) (t : Replacement) (name : List ℕ) (e : Refusal) → text_of es name ≡ Some t → (IsSpent l openings_left → InPart src (fault.EntityReferenceLoop j))
      → ((r : ℕ) → MayOpen l openings_left r → ValuePart opens es k whole start end b (suc l) t.source t.start (length t.source) r) → value_opener es d (is_main l) t j openings_left ≡ Err e → Refuses es InPart src e

  module _ (d l : ℕ) (agrees : AgreesValue es (opens l) (value_opener es d (is_main l))) (opener_fails : ValueOpenerFails d l)
      (src : List ℕ) (utf8 : IsUtf8 src) (i stop c0 : ℕ) (long : stop ≤ length src) (closes : stop < length src → IsStop (byte src stop)) (no_tag : is_main l ≡ true → (q : ℕ) → i ≤ q → q < stop → byte src q ≢ 60)
      (part : ValuePart opens es k whole start end b l src i stop c0) where
    -- A fault of a bit is one of the part.
    bit_stands : (p : ℕ) (f : Fault) → i ≤ p → p < stop → IllBit src utf8 es stop long closes (is_main l) p f → InPart src f
    bit_stands p f from below (ill_reference _ ill) = in_part l i stop c0 part (in_reference p f from below ill)
    bit_stands p f from below (gives_less j within is) = in_part l i stop c0 part (less p within from below (inr (j, is)))
    bit_stands p f from below (is_less q within from' below' is) = in_part l i stop c0 part (less q within (omega arith) below' (inl is))
    bit_stands p f from below (ill_char q c within from' below' stands ill) = in_part l i stop c0 part (faults.InValue.no_char q c within (omega arith) below' stands ill)

    -- The value is read up to here.
    abbrev To : ℕ → ℕ → Type 0
    To p openings_left = (q c : ℕ) → q ≤ stop → Reads (is_main l) (opens l) src p q openings_left c → Reads (is_main l) (opens l) src i q c0 c

    -- After a bit.
    bit_goes : (p openings_left : ℕ) (bit : Bit) (j : ℕ) (e : Refusal) (next : ℕ → ℕ → Result (List ℕ × ℕ) Refusal) → To p openings_left → ValueBit (is_main l) es src stop p bit j
        → ((c : ℕ) → To j c → next j c ≡ Err e → Refuses es InPart src e) → after_value_bit (value_opener es d (is_main l)) next openings_left bit j ≡ Err e → Refuses es InPart src e
    bit_goes p openings_left bit j e next to (bit_line_end _ more cr lf) go h =
        bind_err (next (p + 1) openings_left) _ e h (go openings_left (λ q c short rest. to q c short (over_line_end (is_main l) (opens l) src stop p q openings_left c cr lf rest))) (λ x ok h. no_fault _ e h)
    bit_goes p openings_left bit j e next to (bit_white _ here' is) go h =
        bind_err (next (p + 1) openings_left) _ e h (go openings_left (λ q c short rest. to q c short (over_white (is_main l) (opens l) src stop p q openings_left c short is rest))) (λ x ok h. no_fault _ e h)
    bit_goes p openings_left bit j e next to (bit_stretch _ _ some to' cut plain chars) go h =
        bind_err (next j openings_left) _ e h (go openings_left (λ q c short rest. to q c short (over_stretch (is_main l) (opens l) src stop (j - p) p j q openings_left c (omega arith) plain rest))) (λ x ok h. no_fault _ e h)
    bit_goes p openings_left bit j e next to (bit_character _ x _ r to' any) go h =
        bind_err (next j openings_left) _ e h (go openings_left (λ q c short rest. to q c short (let le = reads_le (is_main l) (opens l) src stop j q openings_left c rest in (value_bytes (is_main l) x ++ rest.0, a_character p j x openings_left c rest.0 r le any rest.1)))) (λ x ok h. no_fault _ e h)
    bit_goes p openings_left bit j e next to (bit_entity _ n _ t r none to' found) go h =
        let name = slice src (p + 1) n in
        let moves = reference_opens src p n j r in
        let refers : RefersTo es src p j t = (name, entity_reference n r none, found) in
        let so_far = to p openings_left (omega (arith, moves.2)) ([], value_ends openings_left) in
        bind_err (value_opener es d (is_main l) t j openings_left) _ e h
        (λ bad. opener_fails src j openings_left t name e found (λ spent. in_part l i stop c0 part (too_many p j openings_left so_far.0 t so_far.1 (omega (arith, moves.2)) refers spent))
        (λ r' may. opened l i stop c0 openings_left r' p j src so_far.0 t part so_far.1 (omega (arith, moves.2)) refers may) bad)
        (λ x read h. bind_err (next j x.1) _ e h
        (go x.1 (λ q c short rest. to q c short (let le = reads_le (is_main l) (opens l) src stop j q x.1 c rest in (x.0 ++ rest.0, an_entity p j openings_left x.1 c _ x.0 rest.0 (entity_reference n r none) le (agrees.sound name t j openings_left x.1 x.0 found read) rest.1)))) (λ y ok h. no_fault _ e h))

    pub value_text_fails : (n p openings_left : ℕ) (e : Refusal) → i ≤ p → IsCharBoundary src p → To p openings_left → value_text (is_main l) es (value_opener es d (is_main l)) n src stop p openings_left ≡ Err e → Refuses es InPart src e
    unfolding value_text
    value_text_fails zero p openings_left e from cut to h = no_fault _ e h
    value_text_fails (suc n) p openings_left e from cut to h =
        chosen (ltb p stop) _ _ _ h
        (λ lt h.
        let below = ltb-true _ _ lt in
        lifted_err (value_bit_at (is_main l) es src stop p) _ e h
        (λ f bad is. refuses_here es InPart src f e is (bit_stands p f from below (bit_fails src utf8 es stop long closes (is_main l) p f below cut bad)))
        (λ x read h.
        let bit = value_bit_sound es src utf8 stop long closes (is_main l) p x below (λ main q from' below'. no_tag main q (omega arith) below') read in
        let moves = bit_moves es src utf8 stop long closes (is_main l) p x.0 x.1 bit in
        bit_goes p openings_left x.0 x.1 e (λ j c. value_text (is_main l) es (value_opener es d (is_main l)) n src stop j c) to bit
        (λ c to' h. value_text_fails n x.1 c e (omega (arith, moves.0)) (bit_cut es src utf8 stop long closes (is_main l) p x.0 x.1 bit) to' h) h))
        (λ past h. no_fault _ e h)

  module _ (agrees : (d l : ℕ) → d + l ≡ most_deep → AgreesValue es (opens l) (value_opener es d (is_main l))) (texts : AreTexts es) where
    pub value_opener_fails : (d l : ℕ) → d + l ≡ most_deep → ValueOpenerFails d l
    unfolding value_opener
    value_opener_fails zero l deep src j openings_left t name e found spent part h = refuses_here es InPart src (fault.EntityReferenceLoop j) e (cc h) (spent (deepest l openings_left deep))
    value_opener_fails (suc d) l deep src j openings_left t name e found spent part h =
        let text = texts name t found in
        lifted_err (budget (is_main l) j openings_left) _ e h
        (λ f bad is. let w = spent_here l j openings_left f bad in refuses_here es InPart src f e is (subst (InPart src) w.1 (spent w.0)))
        (λ r may h.
        elsewhere_err es t.source (value_text false es (value_opener es d false) (length t.source) t.source (length t.source) t.start r) _ e h
        (λ c bad back.
        back InPart src (name, t, found)
        (value_text_fails d (suc l) (agrees d (suc l) (omega arith)) (value_opener_fails d (suc l) (omega arith)) t.source text.0 t.start (length t.source) r (omega arith) (λ past. absurd (omega arith)) (λ main. absurd (false≢true main))
        (part r (may_open l j openings_left r (omega arith) may)) (length t.source) t.start r c (omega arith) text.1 (λ q c short rest. rest) bad))
        (λ x ok h. no_fault _ e h))

    -- A value.
    pub value_fails : (d : ℕ) (e : Refusal) → d + k ≡ most_deep → IsUtf8 whole → end ≤ length whole → (end < length whole → IsStop (byte whole end)) → ((q : ℕ) → start ≤ q → q < end → byte whole q ≢ 60) → IsCharBoundary whole start
        → value_at (is_main k) es (value_opener es d (is_main k)) whole start end b ≡ Err e → Refuses es InPart whole e
    unfolding value_at
    value_fails d e deep utf8 long closes no_tag cut h =
        chosen (is_verbatim_value (slice whole start end)) _ _ _ h (λ plain h. no_fault _ e h)
        (λ marked h. bind_err (value_text (is_main k) es (value_opener es d (is_main k)) (end - start) whole end start b) _ e h
        (λ bad. value_text_fails d k (agrees d k deep) (value_opener_fails d k deep) whole utf8 start end b long closes (λ main. no_tag) ValuePart.itself (end - start) start b e (omega arith) cut (λ q c short rest. rest) bad)
        (λ value read h. no_fault _ e h))
