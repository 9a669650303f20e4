-- Stretches of Chars, one behind another.
use Rattle.std.proofs.Common.{◌≡◌, ℕ, zero, suc, ◌+◌, ◌-◌, ◌/◌, ◌%◌, ◌<◌, ◌≤◌, Bool, true, false, leb, lt-ltb, le-ltb, List, [], ◌∷◌, ◌++◌, length, take, drop, get_or, slice_range, refl, sym, ap, ◌∙◌, arith, inl, inr, length-append, chars, IsUtf8, IsCharBoundary}
use Rattle.std.specs.Char.{encode_utf8, len_utf8}
use Rattle.std.specs.List.{list_all}
use Rattle.std.proofs.Math.Utf8.{encodes}
use Rattle.std.proofs.Math.Seq.{take-append_seam}
use Rattle.std.proofs.lemmas.Bool.{and_parts, and_from, cases_lt, cond-true, cond-false, le-leb, leb-true}
use Rattle.std.proofs.lemmas.List.{append-nil, drop-take, drop-drop, take-append-drop, get_or-drop}
use Rattle.std.proofs.lemmas.List.Folds.{list_all-append}
use Rattle.std.proofs.lemmas.Str.{chars-nil, chars-append, chars_past_char, encodes-chars, length-encode, len_utf8_ascii, IsUtf8-between, IsCharBoundary-before_ascii, IsCharBoundary-after_ascii}
use Rattle.rox_grammar.proofs.Stretches.{range_length, range_parts}
use Rattle.rox_bytes.proofs.RunLemmas.{stands_ascii}
use Rattle.rox_grammar.proofs.Passing.{all_pass, all_passing}
use Rattle.rox_grammar.specs.Chars.{is_char}
use Rattle.rox_grammar.specs.Runs.{run_end, passing, first_passes, begins, StandsAt}
use Rattle.rox_grammar.specs.Constructs.{AreChars}
use Rattle.rox_scan.specs.Lookahead.{IsStep}

-- what stands in front of j from i on
front : (src : List ℕ) (i j : ℕ) → i ≤ j → drop i (take j src) ≡ slice_range src i j
front src i j le =
    ap (λ (m : ℕ). drop i (take m src)) (sym (omega arith)) ∙ drop-take i (j - i) src

-- the characters of a stretch
pub chars_all : (src : List ℕ) (i j : ℕ) → IsUtf8 src → IsCharBoundary src i → IsCharBoundary src j → AreChars src i j → list_all is_char (chars (slice_range src i j)) ≡ true
unfolding run_end
chars_all src i j utf8 from to h =
    let le : i ≤ j = omega arith in
    let long = range_length src i j le to.0 in
    let h' : i + passing is_char (chars (slice_range src i j)) ≡ j = rw (front src i j le) at h in
    let spelled = ap length (encodes-chars (slice_range src i j) (IsUtf8-between src i j utf8 le from to)) in
    all_pass is_char (chars (slice_range src i j)) (omega arith)

pub all_chars : (src : List ℕ) (i j : ℕ) → IsUtf8 src → i ≤ j → IsCharBoundary src i → IsCharBoundary src j → list_all is_char (chars (slice_range src i j)) ≡ true → AreChars src i j
unfolding run_end
all_chars src i j utf8 le from to h =
    let long = range_length src i j le to.0 in
    let all = all_passing is_char (chars (slice_range src i j)) h in
    let spelled = ap length (encodes-chars (slice_range src i j) (IsUtf8-between src i j utf8 le from to)) in
    rw (front src i j le) (omega arith)

pub chars_joined : (src : List ℕ) (i j k : ℕ) → IsUtf8 src → IsCharBoundary src i → IsCharBoundary src j → IsCharBoundary src k → i ≤ j → j ≤ k → AreChars src i j → AreChars src j k → AreChars src i k
chars_joined src i j k utf8 a b c le le' f g =
    let all = ap (list_all is_char) (ap chars (range_parts src i j k le le' c.0) ∙ chars-append (slice_range src i j) (slice_range src j k) (IsUtf8-between src i j utf8 le a b))
    ∙ list_all-append is_char (chars (slice_range src i j)) (chars (slice_range src j k))
    ∙ and_from _ _ (chars_all src i j utf8 a b f) (chars_all src j k utf8 b c g) in
    all_chars src i k utf8 (omega arith) a c all

-- no character
no_chars : (src : List ℕ) (i : ℕ) → IsUtf8 src → IsCharBoundary src i → AreChars src i i
no_chars src i utf8 cut =
    let none : i - i ≡ 0 = omega arith in
    all_chars src i i utf8 (omega arith) cut cut (rw (none, chars-nil) refl)

pub no_step : (src : List ℕ) (i : ℕ) → IsUtf8 src → IsCharBoundary src i → IsStep src i i
no_step src i utf8 cut = record { onward = omega arith; chars = no_chars src i utf8 cut; cut = cut; wide = λ k more below. absurd (omega (arith, more, below)) }

-- one that stands there
pub one_char : (src : List ℕ) (i c : ℕ) → IsUtf8 src → IsCharBoundary src i → StandsAt c src i → IsCharBoundary src (i + len_utf8 c) → is_char c ≡ true → AreChars src i (i + len_utf8 c)
one_char src i c utf8 from stands to passes =
    let e : (i + len_utf8 c) - i ≡ length (encode_utf8 c) = omega (arith, length-encode c) in
    let slice : slice_range src i (i + len_utf8 c) ≡ encode_utf8 c = ap (λ (n : ℕ). take n (drop i src)) e ∙ ap (take (length (encode_utf8 c))) stands ∙ take-append_seam (encode_utf8 c) (drop (i + len_utf8 c) src) in
    let text = IsUtf8-between src i (i + len_utf8 c) utf8 (omega arith) from to in
    let spelled : chars (slice_range src i (i + len_utf8 c)) ≡ c ∷ chars [] = chars_past_char (slice_range src i (i + len_utf8 c)) [] c text (slice ∙ sym (append-nil (encode_utf8 c))) in
    all_chars src i (i + len_utf8 c) utf8 (omega arith) from to (rw (spelled, passes, chars-nil) refl)

-- one that is ASCII
pub ascii_char : (src : List ℕ) (i : ℕ) → IsUtf8 src → i < length src → get_or src i 0 < 128 → is_char (get_or src i 0) ≡ true → AreChars src i (i + 1)
ascii_char src i utf8 within ascii passes =
    let long = len_utf8_ascii (get_or src i 0) ascii in
    let next = IsCharBoundary-after_ascii src i utf8 within ascii in
    let one = one_char src i (get_or src i 0) utf8 (IsCharBoundary-before_ascii src i within ascii) (stands_ascii src i within ascii) (rw long next) passes in
    rw long at one

-- a run goes on behind characters that pass
passing_on : (p : ℕ → Bool) (cs ds : List ℕ) → list_all p cs ≡ true → passing p (cs ++ ds) ≡ length (encodes cs) + passing p ds
passing_on p [] ds h = omega arith
passing_on p (c ∷ cs) ds h =
    let both = and_parts (p c) (list_all p cs) h in
    rw both.0 (omega (arith, length-append (encode_utf8 c) (encodes cs), length-encode c, passing_on p cs ds both.1))

-- so it ends where the run from behind them does
pub chars_go_on : (src : List ℕ) (i j : ℕ) → IsUtf8 src → IsCharBoundary src i → IsCharBoundary src j → i ≤ j → AreChars src i j → run_end is_char src j ≡ run_end is_char src i
unfolding run_end
chars_go_on src i j utf8 from to le h =
    let text = IsUtf8-between src i j utf8 le from to in
    let at : i + (j - i) ≡ j = omega arith in
    let parts : drop i src ≡ slice_range src i j ++ drop j src = sym (take-append-drop (j - i) (drop i src)) ∙ ap (λ l. slice_range src i j ++ l) (drop-drop (j - i) i src ∙ ap (λ (n : ℕ). drop n src) at) in
    let both = ap chars parts ∙ chars-append (slice_range src i j) (drop j src) text in
    let count = passing_on is_char (chars (slice_range src i j)) (chars (drop j src)) (chars_all src i j utf8 from to h) in
    let spelled = ap length (encodes-chars (slice_range src i j) text) in
    let long = range_length src i j le to.0 in
    let whole : passing is_char (chars (drop i src)) ≡ (j - i) + passing is_char (chars (drop j src)) = ap (passing is_char) both ∙ count ∙ ap (λ (n : ℕ). n + passing is_char (chars (drop j src))) (spelled ∙ long) in
    omega (arith, whole)

none_passing : (p : ℕ → Bool) (cs : List ℕ) → first_passes p cs ≡ false → passing p cs ≡ 0
none_passing p cs h = grind arith

-- and it ends where none begins that passes
pub run_ends_here : (p : ℕ → Bool) (src : List ℕ) (i : ℕ) → begins p src i ≡ false → run_end p src i ≡ i
unfolding run_end begins
run_ends_here p src i h = omega (arith, none_passing p (chars (drop i src)) h)

-- ---- no byte of a character past ASCII is ASCII

pub encode_two : (c : ℕ) → 0x80 ≤ c → c < 0x800 → encode_utf8 c ≡ (192 + c / 64) ∷ (128 + c % 64) ∷ []
unfolding encode_utf8
encode_two c low high = cond-false _ _ _ (le-ltb c 128 low) ∙ cond-true _ _ _ (lt-ltb c 2048 high)

pub encode_three : (c : ℕ) → 0x800 ≤ c → c < 0x1_0000 → encode_utf8 c ≡ (224 + c / 4096) ∷ (128 + (c / 64) % 64) ∷ (128 + c % 64) ∷ []
unfolding encode_utf8
encode_three c low high = cond-false _ _ _ (le-ltb c 128 (omega arith)) ∙ cond-false _ _ _ (le-ltb c 2048 low) ∙ cond-true _ _ _ (lt-ltb c 65536 high)

pub encode_four : (c : ℕ) → 0x1_0000 ≤ c → encode_utf8 c ≡ (240 + c / 262144) ∷ (128 + (c / 4096) % 64) ∷ (128 + (c / 64) % 64) ∷ (128 + c % 64) ∷ []
unfolding encode_utf8
encode_four c low = cond-false _ _ _ (le-ltb c 128 (omega arith)) ∙ cond-false _ _ _ (le-ltb c 2048 (omega arith)) ∙ cond-false _ _ _ (le-ltb c 65536 low)

wide : (n : ℕ) → leb 128 (128 + n) ≡ true
wide n = le-leb 128 (128 + n) (omega arith)

lead : (m n : ℕ) → 128 ≤ m → leb 128 (m + n) ≡ true
lead m n le = le-leb 128 (m + n) (omega arith)

encode_wide : (c : ℕ) → 128 ≤ c → list_all (λ b. leb 128 b) (encode_utf8 c) ≡ true
encode_wide c low =
    elim (cases_lt c 2048) [
      | inl two ↦ rw (encode_two c low two, lead 192 (c / 64) (omega arith), wide (c % 64)) refl
      | inr more ↦ elim (cases_lt c 65536) [
        | inl three ↦ rw (encode_three c more three, lead 224 (c / 4096) (omega arith), wide ((c / 64) % 64), wide (c % 64)) refl
        | inr four ↦ rw (encode_four c four, lead 240 (c / 262144) (omega arith), wide ((c / 4096) % 64), wide ((c / 64) % 64), wide (c % 64)) refl
      ]
    ]

each_wide : (xs ys : List ℕ) → list_all (λ b. leb 128 b) xs ≡ true → (j : ℕ) → j < length xs → 128 ≤ get_or (xs ++ ys) j 0
each_wide [] ys h j lt = absurd (omega (arith, lt))
each_wide (x ∷ xs) ys h zero lt = leb-true 128 x (and_parts (leb 128 x) (list_all (λ b. leb 128 b) xs) h).0
each_wide (x ∷ xs) ys h (suc j) lt = each_wide xs ys (and_parts (leb 128 x) (list_all (λ b. leb 128 b) xs) h).1 j (omega (arith, lt))

pub wide_bytes : (src : List ℕ) (i c : ℕ) → StandsAt c src i → (k : ℕ) → i < k → k < i + len_utf8 c → 128 ≤ get_or src k 0
wide_bytes src i c stands k more below =
    elim (cases_lt c 128) [
      | inl ascii ↦ absurd (omega (arith, len_utf8_ascii c ascii))
      | inr past ↦ (
          let read : get_or (drop i src) (k - i) 0 ≡ get_or src k 0 = get_or-drop i src (k - i) 0 ∙ ap (λ (n : ℕ). get_or src n 0) (omega arith) in
          let each = each_wide (encode_utf8 c) (drop (i + len_utf8 c) src) (encode_wide c past) (k - i) (omega (arith, length-encode c)) in
          omega (arith, each, sym read ∙ ap (λ (l : List ℕ). get_or l (k - i) 0) stands))
    ]
