-- References to the predefined names.
use Rattle.std.proofs.Common.{◌≡◌, ℕ, ◌+◌, ◌-◌, ◌<◌, ◌≤◌, ◌&&◌, Bool, true, false, List, length, Some, slice_index, slice_range, drop, nat_lt, codes, bytes_eq, inl, inr, refl, sym, ap, ◌∙◌, arith, Ok, get_or-drop, IsUtf8, IsCharBoundary, get_or-take}
use Rattle.std.specs.List.{list_all}
use Rattle.std.proofs.lemmas.Bool.{and_parts, cases_Bool, ltb-true}
use Rattle.std.proofs.lemmas.List.Folds.{list_all_at}
use Rattle.std.proofs.lemmas.Slice.Eq.{bytes_eq-Decides}
use Rattle.std.proofs.lemmas.Str.{IsCharBoundary-after_ascii}
use Rattle.rox_grammar.specs.Chars.{is_name_char, is_name_start, is_part_char}
use Rattle.rox_grammar.specs.References.{predefined}
use Rattle.rox_grammar.specs.Runs.{run_end, begins}
use Rattle.rox_grammar.proofs.Stretches.{range_length}
use Rattle.rox_reading.specs.Values.{character_of, name_reference_at}
use Rattle.rox_bytes.specs.ByteSets.{AllPass, is_part_byte}
use Rattle.rox_bytes.proofs.NearLemmas.{part_begins}
use Rattle.rox_bytes.proofs.RunLemmas.{run_stops_ascii, stands_within}
use Rattle.rox_values.specs.Values.{IsBeforeSemicolon, NamesCharacter}
use Rattle.rox_scan.proofs.NameRuns.{name_goes_on}

-- ---- the predefined names are of letters

is_letter : ℕ → Bool
is_letter b = is_part_byte b && nat_lt 63 b

are_letters : List ℕ → Bool
are_letters name = list_all is_letter name && nat_lt 0 (length name)

letters_of : (name known : List ℕ) → bytes_eq name known ≡ true → are_letters known ≡ true → are_letters name ≡ true
letters_of name known is h = let e = (bytes_eq-Decides name known).0 is in rw e h

named : (name : List ℕ) (c : ℕ) → predefined name ≡ Some c → are_letters name ≡ true
unfolding are_letters is_letter is_part_byte is_part_char is_name_char is_name_start
named name c h = elim (cases_Bool (bytes_eq name (codes "lt"))) [
  | inl is ↦ letters_of name (codes "lt") is refl
  | inr no_lt ↦ elim (cases_Bool (bytes_eq name (codes "gt"))) [
    | inl is ↦ letters_of name (codes "gt") is refl
    | inr no_gt ↦ elim (cases_Bool (bytes_eq name (codes "amp"))) [
      | inl is ↦ letters_of name (codes "amp") is refl
      | inr no_amp ↦ elim (cases_Bool (bytes_eq name (codes "quot"))) [
        | inl is ↦ letters_of name (codes "quot") is refl
        | inr no_quot ↦ elim (cases_Bool (bytes_eq name (codes "apos"))) [
          | inl is ↦ letters_of name (codes "apos") is refl
          | inr no_apos ↦ let none = rw (no_lt, no_gt, no_amp, no_quot, no_apos) at h in cc none
        ]
      ]
    ]
  ]
]

letter_is : (b : ℕ) → is_letter b ≡ true → (is_part_byte b ≡ true) × (63 < b)
unfolding is_letter
letter_is b h = let both = and_parts (is_part_byte b) (nat_lt 63 b) h in (both.0, ltb-true 63 b both.1)

-- each byte of a stretch of letters is one
letter_at : (src : List ℕ) (i e k : ℕ) → list_all is_letter (slice_range src i e) ≡ true → e ≤ length src → i ≤ k → k < e → is_letter (slice_index src k) ≡ true
letter_at src i e k all within low high =
    let long = range_length src i e (omega arith) within in
    let at : i + (k - i) ≡ k = omega arith in
    let read : slice_index (slice_range src i e) (k - i) ≡ slice_index src k = get_or-take (e - i) (drop i src) (k - i) 0 (omega arith) ∙ get_or-drop i src (k - i) 0 ∙ ap (λ (n : ℕ). slice_index src n) at in
    grind (arith, list_all_at)

no_name_char : is_name_char 59 ≡ false
unfolding is_name_char is_name_start
no_name_char = refl

-- ---- a reference to one

reads_name : (src : List ℕ) (i n c : ℕ) → begins is_name_start src (i + 1) ≡ true → run_end is_name_char src (i + 1) ≡ n → slice_index src n ≡ 59 → predefined (slice_range src (i + 1) n) ≡ Some c
    → name_reference_at src i ≡ Ok (character_of c, n + 1)
unfolding name_reference_at
reads_name src i n c letter end behind known = rw (letter, end, behind, known) refl

pub names_character : (src : List ℕ) (i n c : ℕ) → IsUtf8 src → IsBeforeSemicolon src i n → predefined (slice_range src (i + 1) n) ≡ Some c → NamesCharacter src i c (n + 1)
unfolding are_letters
names_character src i n c utf8 is known =
    let within = stands_within src n 59 is.behind (omega arith) in
    let both = and_parts (list_all is_letter (slice_range src (i + 1) n)) (nat_lt 0 (length (slice_range src (i + 1) n))) (named (slice_range src (i + 1) n) c known) in
    let on = is.onward in
    let long = range_length src (i + 1) n (omega (arith, on)) (omega (arith, within)) in
    let more : i + 1 < n = omega (arith, ltb-true _ _ both.1, long) in
    let all : AllPass is_part_byte src (i + 1) n = λ k low high. (letter_is _ (letter_at src (i + 1) n k both.0 (omega (arith, within)) low high)).0 in
    let first = (letter_is _ (letter_at src (i + 1) n (i + 1) both.0 (omega (arith, within)) (omega arith) more)).1 in
    let ascii : slice_index src n < 128 = omega (arith, is.behind) in
    let stop : is_name_char (slice_index src n) ≡ false = rw is.behind no_name_char in
    let end = sym (name_goes_on src (i + 1) n utf8 (omega (arith, more)) (omega (arith, within)) all) ∙ run_stops_ascii is_name_char src n utf8 within ascii stop in
    let letter = part_begins src (i + 1) n utf8 more (omega (arith, within)) all first in
    record {
      value = reads_name src i n c letter end is.behind known;
      onward = omega (arith, on);
      cut = IsCharBoundary-after_ascii src n utf8 within ascii;
    }

pub after_sign : (src : List ℕ) (i n : ℕ) → IsUtf8 src → IsBeforeSemicolon src i n → IsCharBoundary src (i + 1)
after_sign src i n utf8 is =
    IsCharBoundary-after_ascii src i utf8 (stands_within src i 38 is.here (omega arith)) (omega (arith, is.here))
