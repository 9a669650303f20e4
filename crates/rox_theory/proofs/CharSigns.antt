-- What is read of characters and references to them, in a run or a value, is a text of Chars.
use Rattle.std.proofs.Common.{◌≡◌, ◌≢◌, ℕ, suc, ◌+◌, ◌<◌, ◌≤◌, ◌==◌, Bool, true, false, ◌||◌, List, [], ◌∷◌, ◌++◌, length, get_or, refl, sym, ap, ◌∙◌, subst, arith, inl, inr, ◌⊎◌, append_assoc, encode_utf8, chars, IsUtf8, IsCharBoundary, append-nil}
use Rattle.std.specs.Prelude.{Some}
use Rattle.std.specs.List.{list_all}
use Rattle.std.proofs.Math.Utf8.{encodes, scalar, scalars}
use Rattle.std.proofs.lemmas.Bool.{and_parts, ne_eqb, cond_both, cases_eq}
use Rattle.std.proofs.lemmas.Str.{encodes-chars, scalars-chars, encode_ascii, inside_one}
use Rattle.rox_grammar.specs.Chars.{is_char, is_name_char, is_part_char}
use Rattle.rox_grammar.specs.CharText.{IsCharText}
use Rattle.rox_grammar.specs.Forest.{Forest, Nil, Cons, join}
use Rattle.rox_grammar.specs.Written.{Item}
use Rattle.rox_grammar.specs.Names.{byte, slice}
use Rattle.rox_grammar.specs.Constructs.{AreChars}
use Rattle.rox_grammar.specs.References.{number, character, predefined, IsNumber, IsCharacter, decimal, hexadecimal, named, entity_reference}
use Rattle.rox_grammar.specs.Content.{Inclusion, DataByte, literal, data_bytes_of, literals, line_ends, piece, Part, part_ends, as_written, from_reference, last_part, then_entity, value_bytes, Value, value_ends, line_end, white, other, a_character, an_entity}
use Rattle.rox_grammar.proofs.RunParts.{Parts}
use Rattle.rox_grammar.proofs.Stretches.{range_parts}
use Rattle.rox_theory.specs.CharItems.{ItemsChars}
use Rattle.rox_theory.proofs.Productions.{number_parts, reference_parts}
use Rattle.rox_theory.proofs.NameLemmas.{slice_nil}
use Rattle.rox_theory.proofs.StretchLemmas.{slice_cons}
use Rattle.rox_theory.proofs.ReferenceLemmas.{reference_opens, character_opens}
use Rattle.rox_theory.proofs.CharTexts.{no_text, texts_joined, char_text, byte_text, cut_at, cut_behind, chars_within}
use Rattle.rox_theory.proofs.CharCuts.{name_char}
use Rattle.rox_theory.proofs.Onward.{part_bytes, reference_onward}
use Rattle.rox_theory.proofs.PartLemmas.{kept_ends}

-- Each character of a part of a name is a Char.
pub part_char : (c : ℕ) → is_part_char c ≡ true → is_char c ≡ true
unfolding is_part_char
part_char c h = name_char c (and_parts (is_name_char c) _ h).0

-- ---- references

-- A character that is a Char.
abbrev IsAllowed : ℕ → Type 0
IsAllowed c = (scalar c ≡ true) × (is_char c ≡ true)

-- No number stands for a surrogate, or for none.
number_scalar : (n : ℕ) → scalar (character n) ≡ true
number_scalar n = grind arith

-- A character begins after a reference, and its character is a Char.
abbrev pub Referenced : List ℕ → ℕ → ℕ → Type 0
Referenced src c j = IsAllowed c × IsCharBoundary src j

-- A number.
of_number : (base : ℕ) (is : ℕ → Bool) (src : List ℕ) (d c j : ℕ) → IsUtf8 src → IsNumber base is src d c j → Referenced src c j
of_number base is src d c j utf8 m =
    let e = (number_parts m).e in
    ((rw (number_parts m).is_character (number_scalar (number base (slice src d e))), (number_parts m).allowed), cut_behind src e 59 j utf8 (number_parts m).closes (omega arith) (omega arith) (number_parts m).next)

-- One of the five names.
of_name : (name : List ℕ) (c : ℕ) → predefined name ≡ Some c → IsAllowed c
of_name name c h = grind arith

-- A reference to a character.
pub referenced : (src : List ℕ) (i c j : ℕ) → IsUtf8 src → IsCharacter src i c j → Referenced src c j
referenced src i c j utf8 (decimal opens m) = of_number 10 _ src (i + 2) c j utf8 m
referenced src i c j utf8 (hexadecimal opens m) = of_number 16 _ src (i + 3) c j utf8 m
referenced src i c j utf8 (named n r is) = (of_name (slice src (i + 1) n) c is, cut_behind src n 59 j utf8 (reference_parts r).closes (omega arith) (omega arith) (reference_parts r).next)

-- ---- signs

-- What is read of them is a text of Chars.
abbrev pub SignChars : List DataByte → Type 0
SignChars ss = IsCharText (line_ends ss)

pub no_signs : SignChars []
no_signs = no_text

literals_append : (v w : List ℕ) (ss : List DataByte) → literals (v ++ w) ++ ss ≡ literals v ++ (literals w ++ ss)
literals_append [] w ss = refl
literals_append (b ∷ v) w ss = ap (λ (r : List DataByte). literal b ∷ r) (literals_append v w ss)

-- No byte of a character but CR is one.
no_return : (c k : ℕ) → c ≢ 13 → k < length (encode_utf8 c) → get_or (encode_utf8 c) k 0 ≢ 13
no_return c k no_cr below =
    let same : get_or (encode_utf8 c) k 0 < 128 → c ≡ get_or (encode_utf8 c) k 0 = inside_one c [] (encode_utf8 c) k (sym (append-nil (encode_utf8 c))) below in
    λ cr. no_cr (same (omega arith) ∙ cr)

-- Bytes but CR need no replacement.
bytes_stay : (bs : List ℕ) (ss : List DataByte) → ((k : ℕ) → k < length bs → get_or bs k 0 ≢ 13) → line_ends (literals bs ++ ss) ≡ bs ++ line_ends ss
bytes_stay [] ss none = refl
bytes_stay (b ∷ bs) ss none = grind (arith, ne_eqb b 13 (none 0 (omega arith)), bytes_stay bs ss (λ k below. none (suc k) (omega arith)))

-- Characters in front.
chars_front : (cs : List ℕ) (ss : List DataByte) → scalars cs ≡ true → list_all is_char cs ≡ true → SignChars ss → SignChars (literals (encodes cs) ++ ss)
chars_front [] ss s h rest = rest
chars_front (c ∷ cs) ss s h rest =
    let s' = and_parts (scalar c) (scalars cs) s in
    let h' = and_parts (is_char c) (list_all is_char cs) h in
    let more = chars_front cs ss s'.1 h'.1 rest in
    let all = literals (encodes cs) ++ ss in
    let feed : IsCharText (10 ∷ line_ends all) = texts_joined (10 ∷ []) (line_ends all) (byte_text 10 (omega arith) refl) more in
    subst SignChars (sym (literals_append (encode_utf8 c) (encodes cs) ss))
    (elim (cases_eq c 13) as (λ s. SignChars (literals (encode_utf8 c) ++ all)) [
      | inl cr ↦ grind (arith, encode_ascii)
      | inr no_cr ↦ (
          let stay = bytes_stay (encode_utf8 c) all (λ k below. no_return c k no_cr below) in
          rw stay (texts_joined (encode_utf8 c) (line_ends all) (char_text c s'.0 h'.0) more))
    ])

-- A text in front, literal or kept.
pub text_front : (main : Bool) (v : List ℕ) (ss : List DataByte) → IsCharText v → SignChars ss → SignChars (data_bytes_of main v ++ ss)
text_front false v ss h rest =
    subst (λ (w : List ℕ). SignChars (literals w ++ ss)) (encodes-chars v h.utf8) (chars_front (chars v) ss (scalars-chars v h.utf8) h.all rest)
text_front true v ss h rest = subst (λ (w : List ℕ). IsCharText w) (sym (kept_ends v ss)) (texts_joined v (line_ends ss) h rest)

-- The text of a part.
pub piece_items : (i j : ℕ) (borrowed : Bool) (ss : List DataByte) → SignChars ss → ItemsChars (piece i j borrowed ss)
piece_items i j borrowed ss h = grind arith

-- ---- items

-- Of two rows together.
pub items_joined : (f g : Forest Item) → ItemsChars f → ItemsChars g → ItemsChars (join f g)
items_joined Nil g h k = k
items_joined (Cons item c r) g h k = (h.0, h.1, items_joined r g h.2 k)

-- What a reference opens are texts of Chars.
pub record OpensChars (O : Inclusion) : Type 0 where
  pub content : (name : List ℕ) (b : ℕ) (items : Forest Item) (c : ℕ) → O.content name b items c → ItemsChars items
  pub value : (name : List ℕ) (b : ℕ) (v : List ℕ) (c : ℕ) → O.value name b v c → IsCharText v

-- ---- runs and values

module _ (src : List ℕ) (utf8 : IsUtf8 src) (start stop : ℕ) (first : IsCharBoundary src start) (last : IsCharBoundary src stop) (are : AreChars src start stop) where
  -- What is between two places.
  stretch : (k i : ℕ) → start ≤ k → k ≤ i → i ≤ stop → IsCharBoundary src k → IsCharBoundary src i → IsCharText (slice src k i)
  stretch k i = chars_within src start stop k i utf8 first last are

  -- One byte more.
  grown : (k i : ℕ) → k ≤ i → i < stop → slice src k (i + 1) ≡ slice src k i ++ (byte src i ∷ [])
  grown k i on within =
      range_parts src k i (i + 1) on (omega arith) (omega (arith, last.0))
      ∙ ap (λ (r : List ℕ). slice src k i ++ r) (slice_cons src i (i + 1) (omega arith) (omega (arith, last.0)) ∙ ap (λ (r : List ℕ). byte src i ∷ r) (slice_nil src (i + 1)))

  -- The signs of a part, with what is in front of it.
  part_signs : (main : Bool) (p i : ℕ) (ss : List DataByte) → Part main src p i ss → IsCharBoundary src p → p ≤ stop → (k : ℕ) → start ≤ k → k ≤ i → IsCharBoundary src k → SignChars (literals (slice src k i) ++ ss)
  part_signs main p i ss part_ends cut le k from on front = text_front false (slice src k p) [] (stretch k p from on le front cut) no_signs
  part_signs main p i ss (as_written _ more within no_amp rest) cut le k from on front = grind (arith, part_signs main p (i + 1) more rest cut le k from (omega arith) front, grown, literals_append)
  part_signs main p i ss (from_reference _ n c more is within rest) cut le k from on front =
      let opens = character_opens src i c n is in
      let amp = opens.0 in
      let r = referenced src i c n utf8 is in
      let later = part_signs main p n more rest cut le n (omega (arith, opens.1)) (omega arith) r.1 in
      let behind : SignChars more = subst (λ (v : List ℕ). SignChars (literals v ++ more)) (slice_nil src n) later in
      text_front false (slice src k i) (data_bytes_of main (encode_utf8 c) ++ more) (stretch k i from on (omega (arith, opens.1)) front (cut_at src i 38 amp (omega arith) (omega arith)))
      (text_front main (encode_utf8 c) more (char_text c r.0.0 r.0.1) behind)

  -- From where a character begins.
  part_chars : (main : Bool) (p i : ℕ) (ss : List DataByte) → Part main src p i ss → IsCharBoundary src p → p ≤ stop → start ≤ i → IsCharBoundary src i → SignChars ss
  part_chars main p i ss part cut le from front =
      subst (λ (v : List ℕ). SignChars (literals v ++ ss)) (slice_nil src i) (part_signs main p i ss part cut le i from (omega arith) front)

  -- A value, with what is in front of it.
  value_front : (main : Bool) (O : Inclusion) → OpensChars O → (i b c : ℕ) (v : List ℕ) → Value main O src stop i b c v → (k : ℕ) → start ≤ k → k ≤ i → IsCharBoundary src k → IsCharText (slice src k i ++ v)
  value_front main O oc i b c v (value_ends _) k from on front = subst (λ (w : List ℕ). IsCharText w) (sym (append-nil (slice src k stop))) (stretch k stop from on (omega arith) front last)
  value_front main O oc i b c v (line_end _ _ _ _ more cr lf rest) k from on front =
      let next = cut_behind src i 13 (i + 1) utf8 cr (omega arith) (omega arith) refl in
      let later = value_front main O oc (i + 1) b c v rest (i + 1) (omega arith) (omega arith) next in
      texts_joined (slice src k i) v (stretch k i from on (omega arith) front (cut_at src i 13 cr (omega arith) (omega arith)))
      (subst (λ (w : List ℕ). IsCharText (w ++ v)) (slice_nil src (i + 1)) later)
  value_front main O oc i b c v (white _ _ _ w more is rest) k from on front = white_front (λ next. value_front main O oc (i + 1) b c w rest (i + 1) (omega arith) (omega arith) next) is
    where
      -- White space that is this byte.
      white_at : (IsCharBoundary src (i + 1) → IsCharText (slice src (i + 1) (i + 1) ++ w)) → (z : ℕ) → byte src i ≡ z → 0 < z → z < 128 → IsCharText (slice src k i ++ (32 ∷ w))
      white_at later z here some low =
          let next = cut_behind src i z (i + 1) utf8 here some low refl in
          texts_joined (slice src k i) (32 ∷ w) (stretch k i from on (omega arith) front (cut_at src i z here some low))
          (texts_joined (32 ∷ []) w (byte_text 32 (omega arith) refl) (subst (λ (r : List ℕ). IsCharText (r ++ w)) (slice_nil src (i + 1)) (later next)))

      white_front : (IsCharBoundary src (i + 1) → IsCharText (slice src (i + 1) (i + 1) ++ w)) → (byte src i ≡ 9) ⊎ ((byte src i ≡ 10) ⊎ ((byte src i ≡ 13) × ((stop ≡ i + 1) ⊎ (byte src (i + 1) ≢ 10)))) → IsCharText (slice src k i ++ (32 ∷ w))
      white_front later (inl tab) = white_at later 9 tab (omega arith) (omega arith)
      white_front later (inr (inl lf)) = white_at later 10 lf (omega arith) (omega arith)
      white_front later (inr (inr (cr, alone))) = white_at later 13 cr (omega arith) (omega arith)
  value_front main O oc i b c v (other _ _ _ w more x₁ x₂ x₃ x₄ x₅ rest) k from on front = grind (arith, value_front main O oc (i + 1) b c w rest k from (omega arith) front, grown, append_assoc)
  value_front main O oc i b c v (a_character _ n x _ _ w is within allowed rest) k from on front =
      let opens = character_opens src i x n is in
      let r = referenced src i x n utf8 is in
      let later = value_front main O oc n b c w rest n (omega (arith, opens.1)) (omega arith) r.1 in
      texts_joined (slice src k i) (value_bytes main x ++ w) (stretch k i from on (omega (arith, opens.1)) front (cut_at src i 38 opens.0 (omega arith) (omega arith)))
      (texts_joined (value_bytes main x) w (given main (char_text x r.0.0 r.0.1)) (subst (λ (v : List ℕ). IsCharText (v ++ w)) (slice_nil src n) later))
    where
      given : (main : Bool) → IsCharText (encode_utf8 x) → IsCharText (value_bytes main x)
      given true h = h
      given false h = cond_both (x == 9 || (x == 10 || x == 13)) (32 ∷ []) (encode_utf8 x) (λ (v : List ℕ). IsCharText v) (λ space. byte_text 32 (omega arith) refl) (λ none. h)
  value_front main O oc i b d v (an_entity _ m _ c _ _ u w (entity_reference n is name) within opened rest) k from on front =
      let opens = reference_opens src i n m is in
      let next = cut_behind src n 59 m utf8 (reference_parts is).closes (omega arith) (omega arith) (reference_parts is).next in
      let later = value_front main O oc m c d w rest m (omega (arith, opens.2)) (omega arith) next in
      texts_joined (slice src k i) (u ++ w) (stretch k i from on (omega (arith, opens.2)) front (cut_at src i 38 ((reference_parts is).opens) (omega arith) (omega arith)))
      (texts_joined u w (oc.value _ b u c opened) (subst (λ (v : List ℕ). IsCharText (v ++ w)) (slice_nil src m) later))

  -- From where a character begins.
  pub value_chars : (main : Bool) (O : Inclusion) → OpensChars O → (b c : ℕ) (v : List ℕ) → Value main O src stop start b c v → IsCharText v
  value_chars main O oc b c v is =
      subst (λ (w : List ℕ). IsCharText (w ++ v)) (slice_nil src start) (value_front main O oc start b c v is start (omega arith) (omega arith) first)

  -- Parts end where the run does, or before.
  parts_within : (main : Bool) (O : Inclusion) (from i b c : ℕ) (items : Forest Item) → Parts main O src from stop i b c items → i ≤ stop
  parts_within main O from i b c items (last_part _ _ ss part) = let h = part_bytes main src stop i ss part in omega (arith, h)
  parts_within main O from i b d items (then_entity _ p j _ c _ _ ss front more part (entity_reference n reference name) opened rest) = grind (arith, part_bytes main src p i ss part, reference_onward src p n j reference, parts_within main O from j c d more rest)

  -- The parts of a run.
  pub parts_items : (main : Bool) (O : Inclusion) → OpensChars O → (from i b c : ℕ) (items : Forest Item) → Parts main O src from stop i b c items → start ≤ i → IsCharBoundary src i → ItemsChars items
  parts_items main O oc from i b c items (last_part _ _ ss part) on cut = piece_items from stop _ ss (part_chars main stop i ss part last (omega arith) on cut)
  parts_items main O oc from i b d items (then_entity _ p j _ c _ _ ss front more part (entity_reference n reference name) opened rest) on cut =
      let k = reference_onward src p n j reference in
      let l = parts_within main O from j c d more rest in
      let amp = cut_at src p 38 (reference_parts reference).opens (omega arith) (omega arith) in
      let next = cut_behind src n 59 j utf8 (reference_parts reference).closes (omega arith) (omega arith) (reference_parts reference).next in
      grind (arith, parts_items main O oc from j c d more rest (omega (arith, (part_bytes main src p i ss part), k)) next, items_joined, part_chars)
