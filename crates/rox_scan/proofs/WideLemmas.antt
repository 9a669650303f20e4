-- A character that begins with 239.
use Rattle.std.proofs.Common.{◌≡◌, ◌≢◌, ◌⊎◌, ℕ, ◌+◌, ◌<◌, ◌≤◌, ◌==◌, ◌||◌, ◌&&◌, lt-ltb, Bool, true, false, List, [], ◌∷◌, ◌++◌, length, drop, get_or, sym, ap, ◌∙◌, arith, inl, inr, get_or-drop, length-drop, IsUtf8, IsCharBoundary, chars}
use Rattle.std.specs.Char.{encode_utf8, len_utf8}
use Rattle.std.proofs.Math.Utf8.{encodes}
use Rattle.std.proofs.lemmas.Bool.{cases_lt, cond-true, false≢true}
use Rattle.std.proofs.lemmas.Bool.Decides.{nat_tests}
use Rattle.std.proofs.lemmas.Str.{drop_past_char, encodes-chars, length-encode, IsUtf8-drop, IsCharBoundary-past_char}
use Rattle.rox_grammar.specs.Chars.{is_char}
use Rattle.rox_grammar.specs.Constructs.{AreChars}
use Rattle.rox_grammar.specs.Runs.{StandsAt}
use Rattle.rox_scan.proofs.CharLemmas.{encode_two, encode_three, encode_four, one_char, wide_bytes}

encode_one : (c : ℕ) → c < 0x80 → encode_utf8 c ≡ c ∷ []
unfolding encode_utf8
encode_one c low = cond-true _ _ _ (lt-ltb c 128 low)

-- what begins with 239 is of three bytes
three_bytes : (c : ℕ) (rest : List ℕ) → get_or (encode_utf8 c ++ rest) 0 0 ≡ 239 → (61440 ≤ c) × (c < 65536)
three_bytes c rest first =
    elim (cases_lt c 128) [
      | inl one ↦ absurd (let b = rw (encode_one c one) at first in omega (arith, b))
      | inr past ↦ grind (arith, encode_two, encode_three, encode_four)
    ]

-- all but two of them are Chars
most_chars : (c : ℕ) → 61440 ≤ c → c ≢ 65534 → c ≢ 65535 → is_char c ≡ true
most_chars c low one two = grind (arith, nat_tests)

read_at : (src : List ℕ) (i c j b : ℕ) → StandsAt c src i → get_or (encode_utf8 c ++ drop (i + len_utf8 c) src) j 0 ≡ b → get_or src (i + j) 0 ≡ b
read_at src i c j b stands is = sym (get_or-drop i src j 0) ∙ ap (λ (l : List ℕ). get_or l j 0) stands ∙ is

-- the first character of a text
first_char : (src : List ℕ) (i : ℕ) (cs : List ℕ) → IsUtf8 src → i < length src → drop i src ≡ encodes cs → (c : ℕ) × (rest : List ℕ) × (drop i src ≡ encode_utf8 c ++ rest)
first_char src i [] utf8 within is = absurd (let n = ap length is in omega (arith, n, length-drop i src))
first_char src i (c ∷ cs) utf8 within is = (c, encodes cs, is)

-- U+FFFE and U+FFFF, as they begin behind the first byte
abbrev pub begins_no_char : List ℕ → ℕ → Bool
begins_no_char src i = (get_or src (i + 1) 0 == 191) && ((get_or src (i + 2) 0 == 190) || (get_or src (i + 2) 0 == 191))

no_char : (src : List ℕ) (i c : ℕ) → StandsAt c src i → (c ≡ 65534) ⊎ (c ≡ 65535) → begins_no_char src i ≡ true
unfolding encode_utf8
no_char src i c stands either = grind (arith, read_at)

abbrev pub IsWide : List ℕ → ℕ → Type 0
IsWide src i = IsCharBoundary src (i + 3) × AreChars src i (i + 3) × ((k : ℕ) → i < k → k < i + 3 → 128 ≤ get_or src k 0)

wide_is : (src : List ℕ) (i c : ℕ) → IsUtf8 src → IsCharBoundary src i → i < length src → get_or src i 0 ≡ 239 → begins_no_char src i ≡ false → (rest : List ℕ) → drop i src ≡ encode_utf8 c ++ rest → IsWide src i
wide_is src i c utf8 cut within first other rest is =
    let stands : StandsAt c src i = is ∙ ap (λ r. encode_utf8 c ++ r) (sym (drop_past_char src rest i c is)) in
    let zero : i + 0 ≡ i = omega arith in
    let lead : get_or (encode_utf8 c ++ rest) 0 0 ≡ 239 = ap (λ (l : List ℕ). get_or l 0 0) (sym is) ∙ get_or-drop i src 0 0 ∙ ap (λ (n : ℕ). get_or src n 0) zero ∙ first in
    let three = three_bytes c rest lead in
    let long : len_utf8 c ≡ 3 = sym (length-encode c) ∙ ap length (encode_three c (omega (arith, three.0)) three.1) in
    let passes = most_chars c three.0 (λ h. false≢true (sym other ∙ no_char src i c stands (inl h))) (λ h. false≢true (sym other ∙ no_char src i c stands (inr h))) in
    let next = IsCharBoundary-past_char src rest i c (omega arith) (IsUtf8-drop src i utf8 cut) is in
    (rw long at next, rw long at (one_char src i c utf8 cut stands next passes), rw long at (wide_bytes src i c stands))

-- any other that begins with 239 is a Char
pub wide_char : (src : List ℕ) (i : ℕ) → IsUtf8 src → IsCharBoundary src i → i < length src → get_or src i 0 ≡ 239 → begins_no_char src i ≡ false → IsWide src i
wide_char src i utf8 cut within first other =
    let c = first_char src i (chars (drop i src)) utf8 within (sym (encodes-chars (drop i src) (IsUtf8-drop src i utf8 cut))) in
    wide_is src i c.0 utf8 cut within first other c.1 c.2
