-- The same for references, in a run and in a value.
use Rattle.std.proofs.Common.{◌≡◌, ◌≢◌, ℕ, ◌+◌, ◌<◌, ◌≤◌, ◌⊎◌, Bool, true, false, List, Some, length, refl, sym, ap, ◌∙◌, subst, arith, inl, inr, IsUtf8}
use Rattle.std.specs.Prelude.{None}
use Rattle.std.proofs.lemmas.Bool.{true≢false, cases_lt, cases_eq}
use Rattle.std.proofs.lemmas.Str.{IsCharBoundary-after_ascii}
use Rattle.rox_grammar.specs.declared.fault.Fault.{Fault}
use Rattle.rox_grammar.specs.Chars.{is_name_char, is_name_start}
use Rattle.rox_grammar.specs.Forest.{Forest}
use Rattle.rox_grammar.specs.Written.{Item}
use Rattle.rox_grammar.specs.Names.{byte, slice}
use Rattle.rox_grammar.specs.References.{is_digit, is_hex_digit, IsNumber, IsReference, IsCharacter, decimal, hexadecimal, named, predefined, entity_reference}
use Rattle.rox_grammar.specs.Content.{Inclusion, DataByte, Part, part_ends, as_written, from_reference, last_part, then_entity, Value, value_ends, line_end, white, other, a_character, an_entity}
use Rattle.rox_grammar.proofs.RunParts.{Parts}
use Rattle.rox_grammar.specs.Entities.{Replacement, Entity, text_of}
use Rattle.rox_grammar.specs.Faults.{InReferences, malformed, undeclared}
use Rattle.rox_theory.proofs.ReferenceStarts.{hash_bytes, hex_bytes}
use Rattle.rox_theory.proofs.Productions.{reference_parts}
use Rattle.rox_theory.proofs.Basics.{within}
use Rattle.rox_theory.proofs.CharLemmas.{run_within}
use Rattle.rox_theory.proofs.ReferenceLemmas.{bytes_pass, name_no_hash, character_opens}
use Rattle.rox_theory.proofs.PartOnce.{no_entity_here, character_ends}

-- An ASCII byte that is in no reference after its `&`.
record NoPart (b : ℕ) : Type 0 where
  ascii : b < 128
  no_name : is_name_char b ≡ false
  no_digit : is_digit b ≡ false
  no_hex : is_hex_digit b ≡ false
  no_hash : b ≢ 35
  no_x : b ≢ 120
  no_semicolon : b ≢ 59

amp_no_part : NoPart 38
unfolding is_name_char is_name_start
amp_no_part = record { ascii = omega arith; no_name = refl; no_digit = refl; no_hex = refl; no_hash = λ e. omega arith; no_x = λ e. omega arith; no_semicolon = λ e. omega arith }

less_no_part : NoPart 60
unfolding is_name_char is_name_start
less_no_part = record { ascii = omega arith; no_name = refl; no_digit = refl; no_hex = refl; no_hash = λ e. omega arith; no_x = λ e. omega arith; no_semicolon = λ e. omega arith }

module _ (b : ℕ) (none : NoPart b) (src : List ℕ) (utf8 : IsUtf8 src) where
  -- Not in a number.
  number_apart : (base : ℕ) (is : ℕ → Bool) (d c j q : ℕ) → is b ≡ false → IsNumber base is src d c j → d ≤ q → q < j → byte src q ≡ b → ⊥
  number_apart base is d c j q fails m from below here = grind (arith, bytes_pass)

  -- Nor in a name.
  name_apart : (i n j q : ℕ) → IsReference src i n j → i < q → q < j → byte src q ≡ b → ⊥
  name_apart i n j q r from below here =
      let l = (reference_parts r).name.longest in let next = (reference_parts r).next in let closes = (reference_parts r).closes in let opens = (reference_parts r).opens in let ascii = none.ascii in
      let inside' : n < length src = within src n (λ z. omega arith) in
      let cut = IsCharBoundary-after_ascii src i utf8 (within src i (λ z. omega arith)) (omega arith) in
      let le = run_within is_name_char src (i + 1) q utf8 cut (omega arith) (omega arith) (omega arith) (ap is_name_char here ∙ none.no_name) in
      none.no_semicolon (sym here ∙ ap (byte src) (omega arith) ∙ closes)

  -- So after its `&` a reference holds none.
  character_apart : (i c j q : ℕ) → IsCharacter src i c j → i < q → q < j → byte src q ≡ b → ⊥
  character_apart i c j q (decimal opens m) from below here =
      let hash = (hash_bytes src i opens).1 in
      grind (arith, number_apart)
  character_apart i c j q (hexadecimal opens m) from below here =
      let bytes = hex_bytes src i opens in let hash = bytes.1 in let hex = bytes.2 in
      grind (arith, number_apart)
  character_apart i c j q (named n r is) from below here = name_apart i n j q r from below here

-- A reference to a character is neither malformed nor undeclared.
character_stands : (es : List Entity) (src : List ℕ) (p c j : ℕ) (f : Fault) → IsCharacter src p c j → InReferences es src p f → ⊥
character_stands es src p c j f is (malformed amp no_character no_reference) = no_character c j is
character_stands es src p c j f (decimal opens m) (undeclared k _ name (entity_reference n ref none) nothing holds) = name_no_hash src (p + 1) (reference_parts ref).name.starts (hash_bytes src p opens).1
character_stands es src p c j f (hexadecimal opens m) (undeclared k _ name (entity_reference n ref none) nothing holds) = name_no_hash src (p + 1) (reference_parts ref).name.starts (hex_bytes src p opens).1
character_stands es src p c j f (named m r is) (undeclared k _ name (entity_reference n ref none) nothing holds) = grind (arith, reference_parts)

-- Nor is one to an entity that is declared.
entity_stands : (es : List Entity) (src : List ℕ) (p n j : ℕ) (t : Replacement) (f : Fault) → IsReference src p n j → text_of es (slice src (p + 1) n) ≡ Some t → InReferences es src p f → ⊥
entity_stands es src p n j t f r found (malformed amp no_character no_reference) = no_reference n j r
entity_stands es src p n j t f r found (undeclared k _ name (entity_reference m ref none) nothing holds) = grind (arith, reference_parts)

-- A fault of a reference begins with `&`.
reference_opens : (es : List Entity) (src : List ℕ) (p : ℕ) (f : Fault) → InReferences es src p f → byte src p ≡ 38
reference_opens es src p f h = grind (arith, reference_parts)

-- What an `&` begins: a reference to such a character, or to a declared entity.
data Begins (es : List Entity) (src : List ℕ) (Allowed : ℕ → Type 0) (q : ℕ) : Type 0 where
  to_character : (c n : ℕ) → IsCharacter src q c n → Allowed c → Begins es src Allowed q
  to_entity : (n j : ℕ) (t : Replacement) → IsReference src q n j → predefined (slice src (q + 1) n) ≡ None → text_of es (slice src (q + 1) n) ≡ Some t → Begins es src Allowed q

begun_apart : (es : List Entity) (src : List ℕ) (Allowed : ℕ → Type 0) (q : ℕ) (f : Fault) → Begins es src Allowed q → InReferences es src q f → ⊥
begun_apart es src Allowed q f (to_character c n is allowed) ill = character_stands es src q c n f is ill
begun_apart es src Allowed q f (to_entity n j t is none found) ill = entity_stands es src q n j t f is found ill

module _ (es : List Entity) (main : Bool) (O : Inclusion) (src : List ℕ) (utf8 : IsUtf8 src) where
  -- In a run any character may be.
  abbrev Any : ℕ → Type 0
  Any c = Unit {0}

  -- Each `&` of a part begins a reference to a character.
  part_amp : (j i q : ℕ) (ss : List DataByte) → Part main src j i ss → i ≤ q → q < j → byte src q ≡ 38 → Begins es src Any q
  part_amp j i q ss part_ends from below amp = absurd (omega arith)
  part_amp j i q ss (as_written _ more less no_amp rest) from below amp =
      elim (cases_eq q i) as (λ s. Begins es src Any q) [
        | inl same ↦ absurd (no_amp (ap (byte src) (sym same) ∙ amp))
        | inr apart ↦ part_amp j (i + 1) q more rest (omega arith) below amp
      ]
  part_amp j i q ss (from_reference _ n c more is less rest) from below amp =
      elim (cases_eq q i) as (λ s. Begins es src Any q) [
        | inl same ↦ to_character c n (subst (λ (i : ℕ). IsCharacter src i c n) (sym same) is) tt
        | inr apart ↦ elim (cases_lt q n) as (λ s. Begins es src Any q) [
          | inl l ↦ absurd (character_apart 38 amp_no_part src utf8 i c n q is (omega arith) l amp)
          | inr g ↦ part_amp j n q more rest g below amp
        ]
      ]

  -- And so of a run, or one to an entity.
  module _ (declared : (name : List ℕ) (b c : ℕ) (items : Forest Item) → O.content name b items c → (t : Replacement) × (text_of es name ≡ Some t)) where
    parts_amp : (start stop i q b c : ℕ) (items : Forest Item) → Parts main O src start stop i b c items → i ≤ q → q < stop → byte src q ≡ 38 → Begins es src Any q
    parts_amp start stop i q b c items (last_part _ _ ss part) from below amp = part_amp stop i q ss part from below amp
    parts_amp start stop i q b c items (then_entity _ p j _ d _ _ ss one more part (entity_reference n ref none) opens rest) from below amp =
        elim (cases_lt q p) as (λ s. Begins es src Any q) [
          | inl l ↦ part_amp p i q ss part from l amp
          | inr g ↦ elim (cases_eq q p) as (λ s. Begins es src Any q) [
            | inl same ↦ (
                let found = declared (slice src (p + 1) n) b d one opens in
                subst (Begins es src Any) (sym same) (to_entity n j found.0 ref none found.1))
            | inr apart ↦ elim (cases_lt q j) as (λ s. Begins es src Any q) [
              | inl l ↦ absurd (name_apart 38 amp_no_part src utf8 p n j q ref (omega arith) l amp)
              | inr g' ↦ parts_amp start stop j q d c more rest g' below amp
            ]
          ]
        ]

    -- In the references of a run: rows 9 and 10.
    pub run_reference_apart : (start stop b c q : ℕ) (items : Forest Item) (f : Fault) → Parts main O src start stop start b c items → start ≤ q → q < stop → InReferences es src q f → ⊥
    run_reference_apart start stop b c q items f parts from below ill = begun_apart es src Any q f (parts_amp start stop start q b c items parts from below (reference_opens es src q f ill)) ill

  -- In a value outside replacement texts any character, and within them none but `<`.
  abbrev Given : ℕ → Type 0
  Given c = (main ≡ true) ⊎ (c ≢ 60)

  module _ (declared : (name : List ℕ) (b c : ℕ) (v : List ℕ) → O.value name b v c → (t : Replacement) × (text_of es name ≡ Some t)) where
    value_amp : (e i q b c : ℕ) (v : List ℕ) → Value main O src e i b c v → i ≤ q → q < e → byte src q ≡ 38 → Begins es src Given q
    value_amp e i q b c v (value_ends _) from below amp = absurd (omega arith)
    value_amp e i q b c v (line_end _ _ _ _ more cr lf rest) from below amp =
        let apart : q ≢ i = λ same. let h : byte src q ≡ 13 = ap (byte src) same ∙ cr in absurd (omega arith) in
        value_amp e (i + 1) q b c v rest (omega arith) below amp
    value_amp e i q b c v (white _ _ _ w more is rest) from below amp =
        let apart : q ≢ i = λ same. let h : byte src i ≡ 38 = ap (byte src) (sym same) ∙ amp in absurd (omega arith) in
        value_amp e (i + 1) q b c w rest (omega arith) below amp
    value_amp e i q b c v (other _ _ _ w more no_amp x₂ x₃ x₄ x₅ rest) from below amp =
        let apart : q ≢ i = λ same. no_amp (ap (byte src) (sym same) ∙ amp) in
        value_amp e (i + 1) q b c w rest (omega arith) below amp
    value_amp e i q b c v (a_character _ n x _ _ w is less allowed rest) from below amp =
        elim (cases_eq q i) as (λ s. Begins es src Given q) [
          | inl same ↦ to_character x n (subst (λ (i : ℕ). IsCharacter src i x n) (sym same) is) allowed
          | inr apart ↦ elim (cases_lt q n) as (λ s. Begins es src Given q) [
            | inl l ↦ absurd (character_apart 38 amp_no_part src utf8 i x n q is (omega arith) l amp)
            | inr g ↦ value_amp e n q b c w rest g below amp
          ]
        ]
    value_amp e i q b c v (an_entity _ k _ d _ _ u w (entity_reference n ref none) less opens rest) from below amp =
        elim (cases_eq q i) as (λ s. Begins es src Given q) [
          | inl same ↦ (
              let found = declared (slice src (i + 1) n) b d u opens in
              subst (Begins es src Given) (sym same) (to_entity n k found.0 ref none found.1))
          | inr apart ↦ elim (cases_lt q k) as (λ s. Begins es src Given q) [
            | inl l ↦ absurd (name_apart 38 amp_no_part src utf8 i n k q ref (omega arith) l amp)
            | inr g ↦ value_amp e k q d c w rest g below amp
          ]
        ]

    -- In the references of a value: rows 9 and 10.
    pub value_reference_apart : (i e b c q : ℕ) (v : List ℕ) (f : Fault) → Value main O src e i b c v → i ≤ q → q < e → InReferences es src q f → ⊥
    value_reference_apart i e b c q v f value from below ill = begun_apart es src Given q f (value_amp e i q b c v value from below (reference_opens es src q f ill)) ill

    -- Nor does one give `<` within a replacement text: row 12.
    pub value_gives_less : (i e b c q j : ℕ) (v : List ℕ) → Value main O src e i b c v → main ≡ false → i ≤ q → q < e → IsCharacter src q 60 j → ⊥
    value_gives_less i e b c q j v value inner from below is = by_begun (value_amp e i q b c v value from below (character_opens src q 60 j is).0)
      where
        by_begun : Begins es src Given q → ⊥
        by_begun (to_character x n is' (inl main')) = true≢false (sym main' ∙ inner)
        by_begun (to_character x n is' (inr apart)) = apart (character_ends src q x 60 n j is' is).0
        by_begun (to_entity n k t ref none found) = no_entity_here src q 60 j n k is ref none

  -- Nor does `<` stand in a value: row 12.
  pub value_no_less : (e i q b c : ℕ) (v : List ℕ) → Value main O src e i b c v → i ≤ q → q < e → byte src q ≡ 60 → ⊥
  value_no_less e i q b c v (value_ends _) from below here = absurd (omega arith)
  value_no_less e i q b c v (line_end _ _ _ _ more cr lf rest) from below here =
      let apart : q ≢ i = λ same. let h : byte src q ≡ 13 = ap (byte src) same ∙ cr in absurd (omega arith) in
      value_no_less e (i + 1) q b c v rest (omega arith) below here
  value_no_less e i q b c v (white _ _ _ w more is rest) from below here =
      let apart : q ≢ i = λ same. let h : byte src i ≡ 60 = ap (byte src) (sym same) ∙ here in absurd (omega arith) in
      value_no_less e (i + 1) q b c w rest (omega arith) below here
  value_no_less e i q b c v (other _ _ _ w more x₁ x₂ x₃ x₄ no_less rest) from below here =
      let apart : q ≢ i = λ same. no_less (ap (byte src) (sym same) ∙ here) in
      value_no_less e (i + 1) q b c w rest (omega arith) below here
  value_no_less e i q b c v (a_character _ n x _ _ w is less allowed rest) from below here =
      let amp = (character_opens src i x n is).0 in
      let apart : q ≢ i = λ same. let h : byte src i ≡ 60 = ap (byte src) (sym same) ∙ here in absurd (omega arith) in
      elim (cases_lt q n) as (λ s. ⊥) [
        | inl l ↦ character_apart 60 less_no_part src utf8 i x n q is (omega arith) l here
        | inr g ↦ value_no_less e n q b c w rest g below here
      ]
  value_no_less e i q b c v (an_entity _ k _ d _ _ u w (entity_reference n ref none) less opens rest) from below here =
      let amp = (reference_parts ref).opens in
      let apart : q ≢ i = λ same. let h : byte src i ≡ 60 = ap (byte src) (sym same) ∙ here in absurd (omega arith) in
      elim (cases_lt q k) as (λ s. ⊥) [
        | inl l ↦ name_apart 60 less_no_part src utf8 i n k q ref (omega arith) l here
        | inr g ↦ value_no_less e k q d c w rest g below here
      ]
