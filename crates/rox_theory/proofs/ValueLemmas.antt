-- Values, for any opener that agrees: what is read is there, and what is there is read.
use Rattle.std.proofs.Common.{◌≡◌, ◌≢◌, ℕ, zero, suc, ◌+◌, ◌-◌, ◌<◌, ◌≤◌, ◌==◌, Bool, true, false, ◌||◌, eqb, ltb, List, [], ◌∷◌, ◌++◌, length, take, refl, sym, ap, ◌∙◌, subst, arith, inl, inr, ◌⊎◌, IsUtf8, IsCharBoundary}
use Rattle.std.specs.Prelude.{Option, Some, None, Result, Ok}
use Rattle.std.proofs.lemmas.List.{append-nil, get_or-take, get_or_past, length-take-le}
use Rattle.std.proofs.lemmas.Bool.{not-true, eqb-true, eqb-false, eq-eqb, ne_eqb, lt-ltb, le-ltb, ltb-true, ltb-false, or_parts, or_from, cases_lt, cases_Bool, false≢true}
use Rattle.std.proofs.lemmas.Bool.Decides.{nat_tests}
use Rattle.rox_grammar.specs.declared.fault.Span.{Span}
use Rattle.rox_grammar.specs.Chars.{is_char}
use Rattle.rox_grammar.specs.Names.{byte, slice}
use Rattle.rox_grammar.specs.Constructs.{AreChars}
use Rattle.rox_grammar.specs.References.{IsReference, IsCharacter, predefined, entity_reference}
use Rattle.rox_grammar.specs.Content.{Inclusion, is_verbatim_value, value_bytes, Value, value_ends, line_end, white, other, a_character, an_entity}
use Rattle.rox_grammar.specs.Entities.{Replacement, Entity, text_of}
use Rattle.rox_reading.specs.Lexical.{chars_up_to}
use Rattle.rox_reading.specs.Refusals.{Refusal}
use Rattle.rox_reading.specs.Values.{Reference, character_of, reference_at, Bit, bytes_of, opens, entity_bit, reference_bit, ReadText, is_special, tested_bit, value_reference_at, stretch_at, value_bit_at, ValueInclusion, after_value_bit, value_text, value_at}
use Rattle.rox_reading.proofs.ByteReads.{special_ascii}
use Rattle.rox_theory.specs.Openers.{IsStop, AgreesValue}
use Rattle.rox_theory.proofs.Basics.{ok_same, bind_ok, bind_lifted, chosen, chars_sound, chars_complete}
use Rattle.rox_theory.proofs.NameLemmas.{slice_nil}
use Rattle.rox_theory.proofs.LiteralLemmas.{from_le, from_here}
use Rattle.rox_theory.proofs.StretchLemmas.{slice_cons, slice_none, next_at, next_bound, next_before, next_more, follows, follows_not}
use Rattle.rox_theory.proofs.ReferenceLemmas.{IsRead, is_character, is_entity, reference_sound, character_complete, entity_complete, character_opens, character_inside, reference_opens, reference_inside}
use Rattle.rox_theory.proofs.CharTexts.{cut_behind, no_text}
use Rattle.rox_theory.proofs.CharCuts.{text_chars, chars_joined, chars_part, byte_chars, character_text, reference_text}

-- A byte that needs no replacement.
abbrev Stays : ℕ → Type 0
Stays b = (b ≢ 38) × (b ≢ 9) × (b ≢ 10) × (b ≢ 13)

-- A byte that is not special needs no replacement.
stays : (b : ℕ) → is_special b ≡ false → Stays b
stays b h = grind arith

-- A byte that needs no replacement is not special.
pub not_special : (b : ℕ) → Stays b → is_special b ≡ false
not_special b s = or_from (eqb b 38) (eqb b 9 || (eqb b 10 || eqb b 13)) (ne_eqb _ _ s.0) (or_from (eqb b 9) (eqb b 10 || eqb b 13) (ne_eqb _ _ s.1) (or_from (eqb b 10) (eqb b 13) (ne_eqb _ _ s.2) (ne_eqb _ _ s.3)))

-- White space except a CR before a LF, where the value stops.
abbrev IsWhite : List ℕ → ℕ → ℕ → Type 0
IsWhite src stop i = (byte src i ≡ 9) ⊎ ((byte src i ≡ 10) ⊎ ((byte src i ≡ 13) × ((stop ≡ i + 1) ⊎ (byte src (i + 1) ≢ 10))))

-- White space but CR.
no_return : (b : ℕ) → is_special b ≡ true → eqb b 38 ≡ false → eqb b 13 ≡ false → (b ≡ 9) ⊎ (b ≡ 10)
no_return b h amp cr = grind arith

-- What stops a stretch within a replacement text.
abbrev pub stops : ℕ → Bool
stops b = is_special b || b == 60

pub stops_ascii : (b : ℕ) → stops b ≡ true → b < 128
stops_ascii b h = grind (arith, nat_tests)

-- White space is ASCII, and Chars.
white_ascii : (src : List ℕ) (stop i : ℕ) → IsWhite src stop i → (byte src i < 128) × (is_char (byte src i) ≡ true)
white_ascii src stop i h = grind arith

-- A text that is found.
pub found_ok : (o : Option Replacement) (i : ℕ) (span : Span) (bit : Bit) → entity_bit o i span ≡ Ok bit → (t : Replacement) × (o ≡ Some t) × (opens t ≡ bit)
found_ok o i span bit h = grind arith

-- What is in a value at a place, up to a place, in so far as it is one bit of its reading.
pub data ValueBit (main : Bool) (es : List Entity) (src : List ℕ) (stop : ℕ) : ℕ → Bit → ℕ → Type 0 where
  bit_line_end : (i : ℕ) → i + 1 < stop → byte src i ≡ 13 → byte src (i + 1) ≡ 10 → ValueBit main es src stop i (bytes_of []) (i + 1)
  bit_white : (i : ℕ) → i < stop → IsWhite src stop i → ValueBit main es src stop i (bytes_of (32 ∷ [])) (i + 1)
  bit_stretch : (i j : ℕ) → i < j → j ≤ stop → IsCharBoundary src j → ((k : ℕ) → i ≤ k → k < j → Stays (byte src k) × (byte src k ≢ 60)) → (main ≡ false → AreChars src i j)
      → ValueBit main es src stop i (bytes_of (slice src i j)) j
  bit_character : (i x j : ℕ) → IsCharacter src i x j → j ≤ stop → (main ≡ true) ⊎ (x ≢ 60) → ValueBit main es src stop i (bytes_of (value_bytes main x)) j
  bit_entity : (i n j : ℕ) (t : Replacement) → IsReference src i n j → predefined (slice src (i + 1) n) ≡ None → j ≤ stop → text_of es (slice src (i + 1) n) ≡ Some t → ValueBit main es src stop i (opens t) j

module _ (es : List Entity) (src : List ℕ) (utf8 : IsUtf8 src) (stop : ℕ) (long : stop ≤ length src) (closes : stop < length src → IsStop (byte src stop)) where
  -- A character begins at the stop, or the text ends there.
  pub stop_cut : IsCharBoundary src stop
  stop_cut = omega arith

  -- And where a stretch ends.
  pub next_cut : (p : ℕ → Bool) → ((b : ℕ) → p b ≡ true → b < 128) → (i : ℕ) → i ≤ stop → IsCharBoundary src (next_at src stop p i)
  next_cut p ascii i to = grind (arith, next_bound, length-take-le, from_here, get_or-take)

  -- Each bit moves forward, but not past the stop.
  pub bit_moves : (main : Bool) (i : ℕ) (bit : Bit) (j : ℕ) → ValueBit main es src stop i bit j → (i < j) × (j ≤ stop)
  bit_moves main i bit j h = grind (arith, reference_opens)

  -- A character begins after it.
  pub bit_cut : (main : Bool) (i : ℕ) (bit : Bit) (j : ℕ) → ValueBit main es src stop i bit j → IsCharBoundary src j
  bit_cut main i bit j (bit_line_end _ more cr lf) = cut_behind src i 13 (i + 1) utf8 cr (omega arith) (omega arith) refl
  bit_cut main i bit j (bit_white _ here (inl tab)) = cut_behind src i 9 (i + 1) utf8 tab (omega arith) (omega arith) refl
  bit_cut main i bit j (bit_white _ here (inr (inl lf))) = cut_behind src i 10 (i + 1) utf8 lf (omega arith) (omega arith) refl
  bit_cut main i bit j (bit_white _ here (inr (inr (cr, more)))) = cut_behind src i 13 (i + 1) utf8 cr (omega arith) (omega arith) refl
  bit_cut main i bit j (bit_stretch _ _ some to cut plain chars) = cut
  bit_cut main i bit j (bit_character _ x _ r to any) = (character_text src i x j utf8 r).1
  bit_cut main i bit j (bit_entity _ n _ t r none to is) = (reference_text src i n j utf8 r).1

  -- And within a replacement text it is Chars.
  pub bit_chars : (i : ℕ) (bit : Bit) (j : ℕ) → ValueBit false es src stop i bit j → AreChars src i j
  bit_chars i bit j (bit_line_end _ more cr lf) = text_chars src i (i + 1) (omega arith) (omega arith) (byte_chars src i (omega arith) (omega arith) (rw cr refl))
  bit_chars i bit j (bit_white _ here is) = let w = white_ascii src stop i is in text_chars src i (i + 1) (omega arith) (omega arith) (byte_chars src i (omega arith) w.0 w.1)
  bit_chars i bit j (bit_stretch _ _ some to cut plain chars) = chars refl
  bit_chars i bit j (bit_character _ x _ r to any) = text_chars src i j (omega (arith, character_opens src i x j r)) (omega arith) (character_text src i x j utf8 r).0
  bit_chars i bit j (bit_entity _ n _ t r none to is) = text_chars src i j (omega (arith, reference_opens src i n j r)) (omega arith) (reference_text src i n j utf8 r).0

  -- ---- a bit that is read is there

  -- A reference.
  tested_sound : (main : Bool) (i : ℕ) (r : Reference) (j : ℕ) (bit : Bit) → i < stop → IsRead src i r j → tested_bit main i r (reference_bit es src i r) ≡ Ok bit → ValueBit main es src stop i bit j
  tested_sound true i r j bit below (is_character c _ stands) h =
      subst (λ (x : Bit). ValueBit true es src stop i x j) (ok_same _ _ h) (bit_character i c j stands (character_inside src i stop c j utf8 below long closes stands) (inl refl))
  tested_sound false i r j bit below (is_character c _ stands) h = chosen (eqb c 60) _ _ _ h
      (λ tag h. cc)
      (λ fine h. subst (λ (x : Bit). ValueBit false es src stop i x j) (ok_same _ _ h) (bit_character i c j stands (character_inside src i stop c j utf8 below long closes stands) (inr (eqb-false _ _ fine))))
  tested_sound true i r j bit below (is_entity n _ stands none) h =
      let f = found_ok (text_of es (slice src (i + 1) n)) i (record { start = i + 1; end = n }) bit h in
      subst (λ (x : Bit). ValueBit true es src stop i x j) f.2 (bit_entity i n j f.0 stands none (reference_inside src i stop n j utf8 below long closes stands) f.1)
  tested_sound false i r j bit below (is_entity n _ stands none) h =
      let f = found_ok (text_of es (slice src (i + 1) n)) i (record { start = i + 1; end = n }) bit h in
      subst (λ (x : Bit). ValueBit false es src stop i x j) f.2 (bit_entity i n j f.0 stands none (reference_inside src i stop n j utf8 below long closes stands) f.1)

  value_reference_sound : (main : Bool) (i : ℕ) (x : Bit × ℕ) → i < stop → byte src i ≡ 38 → value_reference_at main es src i ≡ Ok x → ValueBit main es src stop i x.0 x.1
  unfolding value_reference_at
  value_reference_sound main i x below amp h =
      bind_ok (reference_at src i) _ _ h (λ r read h. bind_ok (tested_bit main i r.0 (reference_bit es src i r.0)) _ _ h (λ bit tested h.
      subst (λ (y : Bit × ℕ). ValueBit main es src stop i y.0 y.1) (ok_same _ _ h) (tested_sound main i r.0 r.1 bit below (reference_sound src i r amp read) tested)))

  -- A stretch.
  stretch_sound : (main : Bool) (i : ℕ) (x : Bit × ℕ) → i < stop → is_special (byte src i) ≡ false → (main ≡ true → (k : ℕ) → i ≤ k → k < stop → byte src k ≢ 60) → stretch_at main src stop i ≡ Ok x
      → ValueBit main es src stop i x.0 x.1
  stretch_sound true i x below plain no_tag h =
      let bound = next_bound src stop long is_special i (omega arith) in
      subst (λ (y : Bit × ℕ). ValueBit true es src stop i y.0 y.1) (ok_same _ _ h)
      (bit_stretch i (next_at src stop is_special i) (next_more src stop long is_special i below plain) bound (next_cut is_special special_ascii i (omega arith))
      (λ k from lt. (stays (byte src k) (next_before src stop long is_special i k (omega arith) from lt), no_tag refl k from (omega arith))) (λ z. absurd (false≢true (sym z))))
  stretch_sound false i x below plain no_tag h =
      let j = next_at src stop stops i in
      bind_ok (chars_up_to j src i) _ _ h (λ raw read h. chosen (eqb (byte (take stop src) j) 60) _ _ _ h
      (λ tag h. cc)
      (λ fine h.
      let c = chars_sound j src i raw utf8 (from_le stops (take stop src) i) read in
      let e : ◌≡◌ {A = Bit × ℕ} (bytes_of (slice src i j), j) x = ap (λ (bs : List ℕ). (bytes_of bs, j)) (sym c.1) ∙ ok_same _ _ h in
      subst (λ (y : Bit × ℕ). ValueBit false es src stop i y.0 y.1) e
      (bit_stretch i j (some fine) (next_bound src stop long stops i (omega arith)) (next_cut stops stops_ascii i (omega arith))
      (λ k from lt. let both = or_parts (is_special (byte src k)) (eqb (byte src k) 60) (next_before src stop long stops i k (omega arith) from lt) in (stays (byte src k) both.0, eqb-false _ _ both.1)) (λ z. c.0))))
    where
      some : eqb (byte (take stop src) (next_at src stop stops i)) 60 ≡ false → i < next_at src stop stops i
      some fine =
          let taken = length-take-le stop src long in
          grind (arith, from_le, from_here, get_or-take)

  -- Any bit.
  pub value_bit_sound : (main : Bool) (i : ℕ) (x : Bit × ℕ) → i < stop → (main ≡ true → (k : ℕ) → i ≤ k → k < stop → byte src k ≢ 60) → value_bit_at main es src stop i ≡ Ok x → ValueBit main es src stop i x.0 x.1
  unfolding value_bit_at
  value_bit_sound main i x below no_tag h = chosen (eqb (byte src i) 38) _ _ _ h
      (λ amp h. value_reference_sound main i x below (eqb-true _ _ amp) h)
      (λ no_amp h. chosen (is_special (byte src i)) _ _ _ h
      (λ special h. chosen (eqb (byte src i) 13) _ _ _ h
      (λ cr h. chosen (eqb (byte (take stop src) (i + 1)) 10) _ _ _ h
      (λ lf h.
      let f = follows src stop long (i + 1) lf in
      subst (λ (y : Bit × ℕ). ValueBit main es src stop i y.0 y.1) (ok_same _ _ h) (bit_line_end i f.0 (eqb-true _ _ cr) f.1))
      (λ no_lf h.
      let alone : (stop ≡ i + 1) ⊎ (byte src (i + 1) ≢ 10) = elim (cases_lt (i + 1) stop) as (λ s. (stop ≡ i + 1) ⊎ (byte src (i + 1) ≢ 10))
      [ inl l ↦ inr (follows_not src stop long (i + 1) no_lf l) | inr g ↦ inl (omega arith) ] in
      subst (λ (y : Bit × ℕ). ValueBit main es src stop i y.0 y.1) (ok_same _ _ h) (bit_white i below (inr (inr (eqb-true _ _ cr, alone))))))
      (λ no_cr h.
      let is : IsWhite src stop i = elim (no_return (byte src i) special no_amp no_cr) as (λ s. IsWhite src stop i) [ inl t ↦ inl t | inr l ↦ inr (inl l) ] in
      subst (λ (y : Bit × ℕ). ValueBit main es src stop i y.0 y.1) (ok_same _ _ h) (bit_white i below is)))
      (λ plain h. stretch_sound main i x below plain no_tag h))

  -- ---- a bit that is there is read

  -- A CR before a LF is read to nothing.
  line_end_read : (main : Bool) (i : ℕ) → i + 1 < stop → byte src i ≡ 13 → byte src (i + 1) ≡ 10 → value_bit_at main es src stop i ≡ Ok (bytes_of [], i + 1)
  unfolding value_bit_at
  line_end_read main i below cr lf = grind (arith, get_or-take)

  -- White space is read to a space.
  white_read : (main : Bool) (i : ℕ) → i < stop → IsWhite src stop i → value_bit_at main es src stop i ≡ Ok (bytes_of (32 ∷ []), i + 1)
  unfolding value_bit_at
  white_read main i below (inl tab) = rw tab refl
  white_read main i below (inr (inl lf)) = rw lf refl
  white_read main i below (inr (inr (cr, inl end))) =
      let t : byte (take stop src) (i + 1) ≡ 0 = get_or_past (take stop src) (i + 1) 0 (omega (arith, length-take-le stop src long)) in
      rw (t, cr) refl
  white_read main i below (inr (inr (cr, inr apart))) = grind (arith, follows)

  -- A character is let through.
  tested_character : (main : Bool) (i x : ℕ) → (main ≡ true) ⊎ (x ≢ 60) → tested_bit main i (character_of x) (reference_bit es src i (character_of x)) ≡ Ok (bytes_of (value_bytes main x))
  tested_character main i x any = grind arith

  -- A reference to a character is read.
  character_read : (main : Bool) (i x m : ℕ) → IsCharacter src i x m → (main ≡ true) ⊎ (x ≢ 60) → value_bit_at main es src stop i ≡ Ok (bytes_of (value_bytes main x), m)
  unfolding value_bit_at value_reference_at
  character_read main i x m r any =
      rw ((eq-eqb _ _ (character_opens src i x m r).0), (character_complete src i x m r), (tested_character main i x any)) refl

  -- A reference to an entity is read.
  entity_read : (main : Bool) (i n k : ℕ) (t : Replacement) → IsReference src i n k → predefined (slice src (i + 1) n) ≡ None → text_of es (slice src (i + 1) n) ≡ Some t → value_bit_at main es src stop i ≡ Ok (opens t, k)
  unfolding value_bit_at value_reference_at
  entity_read main i n k t r none is = grind (arith, entity_complete)

  -- Where a stretch ends: within a replacement text at a `<` too.
  abbrev stretch_end : (main : Bool) → ℕ → ℕ
  stretch_end true i = next_at src stop is_special i
  stretch_end false i = next_at src stop stops i

  -- What is known of it.
  stretch_bounds : (main : Bool) (i : ℕ) → i < stop → Stays (byte src i) → byte src i ≢ 60
      → (i < stretch_end main i) × (stretch_end main i ≤ stop) × IsCharBoundary src (stretch_end main i) × ((k : ℕ) → i ≤ k → k < stretch_end main i → Stays (byte src k))
  stretch_bounds main i below s tag = grind (arith, next_more, next_bound, next_cut, next_before)

  -- A stretch is read.
  stretch_read : (main : Bool) (i : ℕ) → i < stop → Stays (byte src i) → byte src i ≢ 60 → (main ≡ false → AreChars src i (stretch_end main i)) → (stretch_end main i < stop → byte src (stretch_end main i) ≢ 60)
      → value_bit_at main es src stop i ≡ Ok (bytes_of (slice src i (stretch_end main i)), stretch_end main i)
  unfolding value_bit_at
  stretch_read true i below s tag chars no_tag = grind arith
  stretch_read false i below s tag chars no_tag =
      let fine : eqb (byte (take stop src) (next_at src stop stops i)) 60 ≡ false = elim (cases_lt (next_at src stop stops i) stop) as (λ s. eqb (byte (take stop src) (next_at src stop stops i)) 60 ≡ false) [
        | inl l ↦ (let t : byte (take stop src) (next_at src stop stops i) ≡ byte src (next_at src stop stops i) = get_or-take stop src (next_at src stop stops i) 0 l in rw t (ne_eqb _ _ (no_tag l)))
        | inr g ↦ (let t : byte (take stop src) (next_at src stop stops i) ≡ 0 = get_or_past (take stop src) (next_at src stop stops i) 0 (omega (arith, length-take-le stop src long)) in rw t refl)
      ] in
      rw ((not_special (byte src i) s), (ne_eqb (byte src i) 38 s.0), (chars_complete (next_at src stop stops i) src i (chars refl)), fine) refl

  -- ---- values

  module _ (main : Bool) (O : Inclusion) (opener : ValueInclusion) (agrees : AgreesValue es O opener) where
    -- The value from i up to the stop.
    abbrev ValueFrom : ℕ → ℕ → ℕ → List ℕ → Type 0
    ValueFrom i b c v = Value main O src stop i b c v

    -- The value with a stretch of bytes in front that need no replacement.
    stretch_on : (d i j b c : ℕ) (v : List ℕ) → i + d ≡ j → j ≤ stop → ((k : ℕ) → i ≤ k → k < j → Stays (byte src k) × (byte src k ≢ 60)) → ValueFrom j b c v → ValueFrom i b c (slice src i j ++ v)
    stretch_on zero i j b c v to inside plain p = grind arith
    stretch_on (suc d) i j b c v to inside plain p =
        let s = plain i (omega arith) (omega arith) in
        let ih = stretch_on d (i + 1) j b c v (omega arith) inside (λ k from below. plain k (omega arith) below) p in
        rw (slice_cons src i j (omega arith) (omega arith)) (other i b c (slice src (i + 1) j ++ v) (omega arith) s.0.0 s.0.1 s.0.2 s.0.3 s.1 ih)

    -- The value after a byte that needs no replacement.
    next_byte : (i b c : ℕ) (v : List ℕ) → i < stop → Stays (byte src i) → ValueFrom i b c v → (rest : List ℕ) × (v ≡ byte src i ∷ rest) × ValueFrom (i + 1) b c rest
    next_byte i b c v below s (value_ends _) = absurd (omega arith)
    next_byte i b c v below s (line_end _ _ _ _ lt cr lf p) = absurd (s.3 cr)
    next_byte i b c v below s (white _ _ _ rest lt (inl tab) p) = absurd (s.1 tab)
    next_byte i b c v below s (white _ _ _ rest lt (inr (inl lf)) p) = absurd (s.2 lf)
    next_byte i b c v below s (white _ _ _ rest lt (inr (inr cr)) p) = absurd (s.3 cr.0)
    next_byte i b c v below s (other _ _ _ rest lt a t l r m p) = (rest, refl, p)
    next_byte i b c v below s (a_character _ n x _ _ rest r inside any p) = absurd (s.0 (character_opens src i x n r).0)
    next_byte i b c v below s (an_entity _ k _ e _ _ w rest (entity_reference n r none) inside opened p) = absurd (s.0 (reference_opens src i n k r).0)

    -- The value after a stretch of bytes that need no replacement.
    stretch_off : (d i j b c : ℕ) (v : List ℕ) → i + d ≡ j → j ≤ stop → ((k : ℕ) → i ≤ k → k < j → Stays (byte src k)) → ValueFrom i b c v
        → (rest : List ℕ) × ValueFrom j b c rest × (v ≡ slice src i j ++ rest)
    stretch_off zero i j b c v to inside plain p =
        let e : i ≡ j = omega arith in
        (v, subst (λ (m : ℕ). ValueFrom m b c v) e p, rw (e, slice_nil src j) refl)
    stretch_off (suc d) i j b c v to inside plain p =
        let one = next_byte i b c v (omega arith) (plain i (omega arith) (omega arith)) p in
        let ih = stretch_off d (i + 1) j b c one.0 (omega arith) inside (λ k from below. plain k (omega arith) below) one.2 in
        (ih.0, ih.1, one.1 ∙ ap (λ (r : List ℕ). byte src i ∷ r) ih.2 ∙ ap (λ (r : List ℕ). r ++ ih.0) (sym (slice_cons src i j (omega arith) (omega arith))))

    -- No `<` is in a value.
    no_markup : (i b c : ℕ) (v : List ℕ) → i < stop → ValueFrom i b c v → byte src i ≢ 60
    no_markup i b c v below (value_ends _) = absurd (omega arith)
    no_markup i b c v below (line_end _ _ _ _ lt cr lf p) = λ z. omega arith
    no_markup i b c v below (white _ _ _ rest lt (inl tab) p) = λ z. omega arith
    no_markup i b c v below (white _ _ _ rest lt (inr (inl lf)) p) = λ z. omega arith
    no_markup i b c v below (white _ _ _ rest lt (inr (inr cr)) p) = λ z. omega (arith, cr.0)
    no_markup i b c v below (other _ _ _ rest lt a t l r m p) = m
    no_markup i b c v below (a_character _ n x _ _ rest r inside any p) = λ z. omega (arith, character_opens src i x n r)
    no_markup i b c v below (an_entity _ k _ e _ _ w rest (entity_reference n r none) inside opened p) = λ z. omega (arith, reference_opens src i n k r)

    -- A bit in front, and what is read after it.
    bit_on : (i j b c : ℕ) (bit : Bit) (v : List ℕ) (more : ℕ → ℕ → Result (List ℕ × ℕ) Refusal) → i < stop → ValueBit main es src stop i bit j
        → ((l : ℕ) (rest : List ℕ) → more j l ≡ Ok (rest, c) → ValueFrom j l c rest) → after_value_bit opener more b bit j ≡ Ok (v, c) → ValueFrom i b c v
    bit_on i j b c bit v more below (bit_line_end _ lt cr lf) ih h =
        bind_ok (more j b) _ _ h (λ rest read h.
        line_end i b c v lt cr lf (ih b v (read ∙ ap (λ (p : List ℕ × ℕ). Ok p) (ok_same _ _ h))))
    bit_on i j b c bit v more below (bit_white _ lt is) ih h =
        bind_ok (more j b) _ _ h (λ rest read h.
        let f : rest.1 ≡ c = ap (λ (p : List ℕ × ℕ). p.1) (ok_same _ _ h) in
        subst (λ (w : List ℕ). ValueFrom i b c w) (ap (λ (p : List ℕ × ℕ). p.0) (ok_same _ _ h)) (white i b c rest.0 lt is (ih b rest.0 (read ∙ ap (λ (n : ℕ). Ok (rest.0, n)) f))))
    bit_on i j b c bit v more below (bit_stretch _ _ some to cut plain chars) ih h =
        bind_ok (more j b) _ _ h (λ rest read h.
        let e : slice src i j ++ rest.0 ≡ v = ap (λ (p : List ℕ × ℕ). p.0) (ok_same _ _ h) in
        let f : rest.1 ≡ c = ap (λ (p : List ℕ × ℕ). p.1) (ok_same _ _ h) in
        subst (λ (w : List ℕ). ValueFrom i b c w) e (stretch_on (j - i) i j b c rest.0 (omega arith) to plain (ih b rest.0 (read ∙ ap (λ (n : ℕ). Ok (rest.0, n)) f))))
    bit_on i j b c bit v more below (bit_character _ x _ r to any) ih h =
        bind_ok (more j b) _ _ h (λ rest read h.
        let e : value_bytes main x ++ rest.0 ≡ v = ap (λ (p : List ℕ × ℕ). p.0) (ok_same _ _ h) in
        let f : rest.1 ≡ c = ap (λ (p : List ℕ × ℕ). p.1) (ok_same _ _ h) in
        subst (λ (w : List ℕ). ValueFrom i b c w) e (a_character i j x b c rest.0 r to any (ih b rest.0 (read ∙ ap (λ (n : ℕ). Ok (rest.0, n)) f))))
    bit_on i j b c bit v more below (bit_entity _ n _ t r none to is) ih h =
        bind_ok (opener t j b) _ _ h (λ x opened h. bind_ok (more j x.1) _ _ h (λ rest read h.
        let f : rest.1 ≡ c = ap (λ (p : List ℕ × ℕ). p.1) (ok_same _ _ h) in
        subst (λ (w : List ℕ). ValueFrom i b c w) (ap (λ (p : List ℕ × ℕ). p.0) (ok_same _ _ h))
        (an_entity i j b x.1 c _ x.0 rest.0 (entity_reference n r none) to (agrees.sound (slice src (i + 1) n) t j b x.1 x.0 is opened) (ih x.1 rest.0 (read ∙ ap (λ (n : ℕ). Ok (rest.0, n)) f)))))

    -- A value that is read is there.
    pub value_text_sound : (n i b c : ℕ) (v : List ℕ) → i ≤ stop → stop ≤ i + n → (main ≡ true → (k : ℕ) → i ≤ k → k < stop → byte src k ≢ 60) → value_text main es opener n src stop i b ≡ Ok (v, c) → ValueFrom i b c v
    unfolding value_text
    value_text_sound zero i b c v to enough no_tag h =
        subst (λ (m : ℕ). ValueFrom m b c v) (omega arith) (subst (λ (p : List ℕ × ℕ). ValueFrom stop b p.1 p.0) (ok_same _ _ h) (value_ends b))
    value_text_sound (suc n) i b c v to enough no_tag h = chosen (ltb i stop) _ _ _ h
        (λ lt h. let below = ltb-true _ _ lt in bind_lifted (value_bit_at main es src stop i) _ _ h (λ x read h.
        let bit = value_bit_sound main i x below no_tag read in
        let moves = bit_moves main i x.0 x.1 bit in
        bit_on i x.1 b c x.0 v (λ j l. value_text main es opener n src stop j l) below bit
        (λ l rest more. value_text_sound n x.1 l c rest moves.1 (omega arith) (λ is k from lt. no_tag is k (omega arith) lt) more) h))
        (λ past h.
        subst (λ (m : ℕ). ValueFrom m b c v) (omega (arith, ltb-false _ _ past)) (subst (λ (p : List ℕ × ℕ). ValueFrom stop b p.1 p.0) (ok_same _ _ h) (value_ends b)))

    -- Nothing is Chars.
    no_chars : (k : ℕ) → IsCharBoundary src k → AreChars src k k
    no_chars k at = text_chars src k k (omega arith) at.0 (rw slice_nil no_text)

    -- What is read after a bit.
    behind : (b c j : ℕ) (bit : Bit) (v : List ℕ) (more : ℕ → ℕ → Result (List ℕ × ℕ) Refusal) → ((l : ℕ) (rest : List ℕ) → more j l ≡ Ok (rest, c) → AreChars src j stop)
        → after_value_bit opener more b bit j ≡ Ok (v, c) → AreChars src j stop
    behind b c j (bytes_of bs) v more ih h = bind_ok (more j b) _ _ h (λ rest read h. ih b rest.0 (read ∙ ap (λ (n : ℕ). Ok (rest.0, n)) (ap (λ (p : List ℕ × ℕ). p.1) (ok_same _ _ h))))
    behind b c j (opens t) v more ih h = bind_ok (opener t j b) _ _ h (λ x opened h. bind_ok (more j x.1) _ _ h (λ rest read h. ih x.1 rest.0 (read ∙ ap (λ (n : ℕ). Ok (rest.0, n)) (ap (λ (p : List ℕ × ℕ). p.1) (ok_same _ _ h)))))

    -- Within a replacement text it is Chars.
    pub value_text_chars : (n i b c : ℕ) (v : List ℕ) → main ≡ false → IsCharBoundary src i → i ≤ stop → stop ≤ i + n → value_text main es opener n src stop i b ≡ Ok (v, c) → AreChars src i stop
    unfolding value_text
    value_text_chars zero i b c v within cut to enough h = grind (arith, no_chars)
    value_text_chars (suc n) i b c v within cut to enough h = chosen (ltb i stop) _ _ _ h
        (λ lt h. let below = ltb-true _ _ lt in bind_lifted (value_bit_at main es src stop i) _ _ h (λ x read h.
        let bit = value_bit_sound main i x below (λ z. absurd (false≢true (sym within ∙ z))) read in
        let moves = bit_moves main i x.0 x.1 bit in
        let next = bit_cut main i x.0 x.1 bit in
        let bit' : ValueBit false es src stop i x.0 x.1 = subst (λ (m : Bool). ValueBit m es src stop i x.0 x.1) within bit in
        chars_joined src i x.1 stop utf8 cut next stop_cut (omega arith) moves.1 (bit_chars i x.0 x.1 bit')
        (behind b c x.1 x.0 v (λ j l. value_text main es opener n src stop j l) (λ l rest more. value_text_chars n x.1 l c rest within next moves.1 (omega arith) more) h)))
        (λ past h.
        subst (λ (m : ℕ). AreChars src m stop) (omega (arith, ltb-false _ _ past)) (no_chars stop stop_cut))

    -- A bit of bytes is read, and then the rest.
    bytes_on : (n i j b c : ℕ) (bytes rest : List ℕ) → i < stop → value_bit_at main es src stop i ≡ Ok (bytes_of bytes, j) → value_text main es opener n src stop j b ≡ Ok (rest, c)
        → value_text main es opener (suc n) src stop i b ≡ Ok (bytes ++ rest, c)
    unfolding value_text
    bytes_on n i j b c bytes rest below bit more = let here = lt-ltb i stop below in rw (here, bit, more) refl

    -- A replacement text is opened, and then the rest is read.
    opened_on : (n i j b l c : ℕ) (t : Replacement) (w rest : List ℕ) → i < stop → value_bit_at main es src stop i ≡ Ok (opens t, j) → opener t j b ≡ Ok (w, l) → value_text main es opener n src stop j l ≡ Ok (rest, c)
        → value_text main es opener (suc n) src stop i b ≡ Ok (w ++ rest, c)
    unfolding value_text
    opened_on n i j b l c t w rest below bit opened more = let here = lt-ltb i stop below in rw (here, bit, opened, more) refl

    -- What are Chars are Chars after a bit.
    later : (i j : ℕ) → i ≤ stop → IsCharBoundary src i → IsCharBoundary src j → (main ≡ false → AreChars src i stop) → i ≤ j → j ≤ stop → main ≡ false → AreChars src j stop
    later i j to cut next are le le' is = chars_part src i stop j stop utf8 cut stop_cut (are is) le le' (omega arith) next stop_cut

    -- The value there is read.
    pub value_text_complete : (n i b c : ℕ) (v : List ℕ) → i ≤ stop → stop ≤ i + n → IsCharBoundary src i → (main ≡ false → AreChars src i stop) → ValueFrom i b c v → value_text main es opener n src stop i b ≡ Ok (v, c)
    unfolding value_text
    value_text_complete zero i b c v to enough cut are (value_ends _) = refl
    value_text_complete zero i b c v to enough cut are (line_end _ _ _ _ lt cr lf p) = absurd (omega arith)
    value_text_complete zero i b c v to enough cut are (white _ _ _ rest lt is p) = absurd (omega arith)
    value_text_complete zero i b c v to enough cut are (other _ _ _ rest lt a t l r m p) = absurd (omega arith)
    value_text_complete zero i b c v to enough cut are (a_character _ n x _ _ rest r inside any p) = absurd (omega (arith, (character_opens src i x n r).1))
    value_text_complete zero i b c v to enough cut are (an_entity _ k _ e _ _ w rest (entity_reference n r none) inside opened p) = absurd (omega (arith, (reference_opens src i n k r).2))
    value_text_complete (suc n) i b c v to enough cut are (value_ends _) = let past = le-ltb stop stop (omega arith) in rw past refl
    value_text_complete (suc n) i b c v to enough cut are (line_end _ _ _ _ lt cr lf p) =
        let next = bit_cut main i (bytes_of []) (i + 1) (bit_line_end i lt cr lf) in
        let ih = value_text_complete n (i + 1) b c v (omega arith) (omega arith) next (later i (i + 1) to cut next are (omega arith) (omega arith)) p in
        bytes_on n i (i + 1) b c [] v (omega arith) (line_end_read main i lt cr lf) ih
    value_text_complete (suc n) i b c v to enough cut are (white _ _ _ rest lt is p) =
        let next = bit_cut main i (bytes_of (32 ∷ [])) (i + 1) (bit_white i lt is) in
        let ih = value_text_complete n (i + 1) b c rest (omega arith) (omega arith) next (later i (i + 1) to cut next are (omega arith) (omega arith)) p in
        bytes_on n i (i + 1) b c (32 ∷ []) rest lt (white_read main i lt is) ih
    value_text_complete (suc n) i b c v to enough cut are (other _ _ _ rest lt amp tab lf cr tag p) =
        let s : Stays (byte src i) = (amp, tab, lf, cr) in
        let j = stretch_end main i in
        let known = stretch_bounds main i lt s tag in
        let o = stretch_off (j - i) i j b c (byte src i ∷ rest) (omega (arith, known.0)) known.1 known.3 (other i b c rest lt amp tab lf cr tag p) in
        let ih = value_text_complete n j b c o.0 known.1 (omega (arith, known.0)) known.2 (later i j to cut known.2 are (omega (arith, known.0)) known.1) o.1 in
        let read = stretch_read main i lt s tag (λ is. chars_part src i stop i j utf8 cut stop_cut (are is) (omega arith) (omega (arith, known.0)) known.1 cut known.2) (λ more. no_markup j b c o.0 more o.1) in
        bytes_on n i j b c (slice src i j) o.0 lt read ih ∙ ap (λ (w : List ℕ). Ok (w, c)) (sym o.2)
    value_text_complete (suc n) i b c v to enough cut are (a_character _ m x _ _ rest r inside any p) =
        let moves = character_opens src i x m r in
        let next = (character_text src i x m utf8 r).1 in
        let ih = value_text_complete n m b c rest inside (omega (arith, moves.1)) next (later i m to cut next are (omega (arith, moves.1)) inside) p in
        bytes_on n i m b c (value_bytes main x) rest (omega (arith, moves.1)) (character_read main i x m r any) ih
    value_text_complete (suc n) i b c v to enough cut are (an_entity _ k _ l _ _ w rest (entity_reference m r none) inside opened p) =
        let moves = reference_opens src i m k r in
        let next = (reference_text src i m k utf8 r).1 in
        let t = agrees.complete (slice src (i + 1) m) k b l w opened in
        let ih = value_text_complete n k l c rest inside (omega (arith, moves.2)) next (later i k to cut next are (omega (arith, moves.2)) inside) p in
        opened_on n i k b l c t.0 w rest (omega (arith, moves.2)) (entity_read main i m k t.0 r none t.1) t.2 ih

    -- At the stop the value is empty.
    nothing_left : (i b c : ℕ) (v : List ℕ) → stop ≤ i → ValueFrom i b c v → (v ≡ []) × (b ≡ c)
    nothing_left i b c v past (value_ends _) = (refl, refl)
    nothing_left i b c v past (line_end _ _ _ _ lt cr lf p) = absurd (omega arith)
    nothing_left i b c v past (white _ _ _ rest lt is p) = absurd (omega arith)
    nothing_left i b c v past (other _ _ _ rest lt a t l r m p) = absurd (omega arith)
    nothing_left i b c v past (a_character _ n x _ _ rest r inside any p) = absurd (omega (arith, character_opens src i x n r))
    nothing_left i b c v past (an_entity _ k _ e _ _ w rest (entity_reference n r none) inside opened p) = absurd (omega (arith, reference_opens src i n k r))

    -- The value of an attribute that is read is there.
    pub value_sound : (i b c : ℕ) (x : ReadText) → i ≤ stop → ((k : ℕ) → i ≤ k → k < stop → byte src k ≢ 60) → value_at main es opener src i stop b ≡ Ok (x, c)
        → ValueFrom i b c x.value × (x.borrowed ≡ is_verbatim_value (slice src i stop))
    unfolding value_at
    value_sound i b c x to no_tag h = chosen (is_verbatim_value (slice src i stop)) _ _ _ h
        (λ plain h.
        let s = stretch_on (stop - i) i stop b b [] (omega arith) (omega arith) (λ k from below. (stays (byte src k) (slice_none is_special src i stop k long (not-true _ plain) from below), no_tag k from below)) (value_ends b) in
        let s' : ValueFrom i b b (slice src i stop) = subst (λ (w : List ℕ). ValueFrom i b b w) (append-nil (slice src i stop)) s in
        subst (λ (y : ReadText × ℕ). ValueFrom i b y.1 y.0.value × (y.0.borrowed ≡ is_verbatim_value (slice src i stop))) (ok_same _ _ h) (s', sym plain))
        (λ marked h. bind_ok (value_text main es opener (stop - i) src stop i b) _ _ h (λ v read h.
        let s = value_text_sound (stop - i) i b v.1 v.0 to (omega arith) (λ is. no_tag) read in
        subst (λ (y : ReadText × ℕ). ValueFrom i b y.1 y.0.value × (y.0.borrowed ≡ is_verbatim_value (slice src i stop))) (ok_same _ _ h) (s, sym marked)))

    -- The value of an attribute that is there is read.
    pub value_complete : (i b c : ℕ) (v : List ℕ) → i ≤ stop → IsCharBoundary src i → (main ≡ false → AreChars src i stop) → ValueFrom i b c v
        → value_at main es opener src i stop b ≡ Ok (record { value = v; borrowed = is_verbatim_value (slice src i stop) }, c)
    unfolding value_at
    value_complete i b c v to cut are p =
        elim (cases_Bool (is_verbatim_value (slice src i stop))) as (λ s. value_at main es opener src i stop b ≡ Ok (record { value = v; borrowed = is_verbatim_value (slice src i stop) }, c)) [
          | inl plain ↦ (
              let o = stretch_off (stop - i) i stop b c v (omega arith) (omega arith) (λ k from below. stays (byte src k) (slice_none is_special src i stop k long (not-true _ plain) from below)) p in
              let z = nothing_left stop b c o.0 (omega arith) o.1 in
              let v_is : v ≡ slice src i stop = o.2 ∙ ap (λ (r : List ℕ). slice src i stop ++ r) z.0 ∙ append-nil (slice src i stop) in
              rw (plain, v_is, z.1) refl)
          | inr marked ↦ grind (arith, value_text_complete)
        ]
