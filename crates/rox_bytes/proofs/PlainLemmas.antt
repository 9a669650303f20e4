-- Bytes that show a text to hold Chars alone.
use Rattle.std.proofs.Common.{◌≡◌, ℕ, ◌<◌, true, false, ◌&&◌, List, [], ◌∷◌, length, drop, refl, sym, ap, ◌∙◌, inl, inr, arith, length-append, length-drop, IsUtf8, chars, IsCharBoundary}
use Rattle.std.specs.Char.{encode_utf8}
use Rattle.std.specs.List.{list_all}
use Rattle.std.proofs.Math.Utf8.{encodes}
use Rattle.std.proofs.lemmas.Bool.{false≢true, cases_lt, cases_eq, and_parts}
use Rattle.std.proofs.lemmas.Bool.Decides.{nat_tests}
use Rattle.std.proofs.lemmas.List.Folds.{list_all-append}
use Rattle.std.proofs.lemmas.Str.{encode_ascii, length-encode, encodes-chars, IsUtf8-drop}
use Rattle.rox_grammar.specs.Chars.{is_char}
use Rattle.rox_grammar.specs.Runs.{passing, run_end}
use Rattle.rox_bytes.specs.ByteSets.{is_char_byte}

plain_ascii : (c : ℕ) → c < 128 → (is_char_byte c && true) ≡ true → is_char c ≡ true
plain_ascii c ascii h = grind (arith, nat_tests)

first_apart : list_all is_char_byte (encode_utf8 65534) ≡ false
unfolding encode_utf8
first_apart = refl

last_apart : list_all is_char_byte (encode_utf8 65535) ≡ false
unfolding encode_utf8
last_apart = refl

-- a character whose bytes are plain is a Char
plain_char : (c : ℕ) → list_all is_char_byte (encode_utf8 c) ≡ true → is_char c ≡ true
plain_char c h =
    elim (cases_lt c 128) [
      | inl ascii ↦ plain_ascii c ascii (rw (encode_ascii c ascii) at h)
      | inr wide ↦ elim (cases_eq c 65534) [
        | inl first ↦ absurd (false≢true (sym first_apart ∙ rw first at h))
        | inr other ↦ elim (cases_eq c 65535) [ inl last ↦ absurd (false≢true (sym last_apart ∙ rw last at h)) | inr others ↦ grind (arith, nat_tests) ]
      ]
    ]

plain_passing : (cs : List ℕ) → list_all is_char_byte (encodes cs) ≡ true → passing is_char cs ≡ length (encodes cs)
plain_passing [] h = refl
plain_passing (c ∷ cs) h =
    let (here, more) = and_parts _ _ (rw (list_all-append is_char_byte (encode_utf8 c) (encodes cs)) at h) in
    rw (plain_char c here, plain_passing cs more, length-append (encode_utf8 c) (encodes cs), length-encode c) refl

pub plain_run : (src : List ℕ) (i : ℕ) → IsUtf8 src → IsCharBoundary src i → list_all is_char_byte (drop i src) ≡ true → run_end is_char src i ≡ length src
unfolding run_end
plain_run src i utf8 cut h =
    let back = encodes-chars (drop i src) (IsUtf8-drop src i utf8 cut) in
    omega (arith, (plain_passing (chars (drop i src)) (rw back h)), ap length back, length-drop i src, cut.0)
