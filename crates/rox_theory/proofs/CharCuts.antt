-- Where stretches of Chars are joined and cut, and the Chars of references.
use Rattle.std.proofs.Common.{◌≡◌, ℕ, zero, suc, ◌+◌, ◌-◌, ◌<◌, ◌≤◌, Bool, true, ◌||◌, ◌&&◌, leb, ltb, List, [], ◌∷◌, length, take, drop, refl, sym, ap, ◌∙◌, subst, arith, inl, ◌⊎◌, chars, IsUtf8, IsCharBoundary}
use Rattle.std.proofs.lemmas.Bool.Decides.{nat_tests}
use Rattle.std.proofs.lemmas.List.{drop-take}
use Rattle.std.proofs.lemmas.Str.{encodes-chars}
use Rattle.rox_grammar.specs.Chars.{is_char, is_name_start, is_name_char}
use Rattle.rox_grammar.specs.Runs.{run_end}
use Rattle.rox_grammar.proofs.Passing.{all_passing}
use Rattle.rox_grammar.specs.Names.{byte, slice}
use Rattle.rox_grammar.specs.Constructs.{AreChars}
use Rattle.rox_grammar.specs.References.{is_digit, is_hex_digit, IsNumber, IsReference, IsCharacter, decimal, hexadecimal, named}
use Rattle.rox_grammar.proofs.Stretches.{range_parts, range_length}
use Rattle.rox_theory.proofs.ReferenceStarts.{hash_bytes, hex_bytes}
use Rattle.rox_theory.proofs.Productions.{number_parts, reference_parts}
use Rattle.rox_theory.proofs.Basics.{within}
use Rattle.rox_theory.proofs.NameLemmas.{slice_nil}
use Rattle.rox_theory.proofs.StretchLemmas.{slice_cons}
use Rattle.rox_theory.proofs.ReferenceLemmas.{bytes_pass, reference_opens}
use Rattle.rox_theory.proofs.CharTexts.{IsCharText, no_text, texts_joined, byte_text, chars_between, chars_within, cut_behind, run_of_chars}

-- A stretch that is a text of Chars.
pub text_chars : (src : List ℕ) (i j : ℕ) → i ≤ j → j ≤ length src → IsCharText (slice src i j) → AreChars src i j
unfolding run_end
text_chars src i j le inside text =
    let front : drop i (take j src) ≡ slice src i j = ap (λ (m : ℕ). drop i (take m src)) (sym (omega arith)) ∙ drop-take i (j - i) src in
    let long = range_length src i j le inside in
    let all = all_passing is_char (chars (slice src i j)) text.all in
    let spelled = ap length (encodes-chars (slice src i j) text.utf8) in
    rw front (omega arith)

-- Two stretches in a row are one.
pub stretches_joined : (src : List ℕ) (i j k : ℕ) → i ≤ j → j ≤ k → k ≤ length src → IsCharText (slice src i j) → IsCharText (slice src j k) → IsCharText (slice src i k)
stretches_joined src i j k le le' inside a b = subst (λ (v : List ℕ). IsCharText v) (sym (range_parts src i j k le le' inside)) (texts_joined (slice src i j) (slice src j k) a b)

pub chars_joined : (src : List ℕ) (i j k : ℕ) → IsUtf8 src → IsCharBoundary src i → IsCharBoundary src j → IsCharBoundary src k → i ≤ j → j ≤ k → AreChars src i j → AreChars src j k → AreChars src i k
chars_joined src i j k utf8 a b c le le' f g =
    text_chars src i k (omega arith) c.0 (stretches_joined src i j k le le' c.0 (chars_between src i j utf8 a b f) (chars_between src j k utf8 b c g))

-- And of one that is longer.
pub chars_part : (src : List ℕ) (from to i j : ℕ) → IsUtf8 src → IsCharBoundary src from → IsCharBoundary src to → AreChars src from to
    → from ≤ i → i ≤ j → j ≤ to → IsCharBoundary src i → IsCharBoundary src j → AreChars src i j
chars_part src from to i j utf8 first last are le le' le'' a b = text_chars src i j le' b.0 (chars_within src from to i j utf8 first last are le le' le'' a b)

-- One byte.
pub byte_chars : (src : List ℕ) (i : ℕ) → i < length src → byte src i < 128 → is_char (byte src i) ≡ true → IsCharText (slice src i (i + 1))
byte_chars src i here low allowed =
    let e : slice src i (i + 1) ≡ byte src i ∷ [] = slice_cons src i (i + 1) (omega arith) (omega arith) ∙ ap (λ (r : List ℕ). byte src i ∷ r) (slice_nil src (i + 1)) in
    subst (λ (v : List ℕ). IsCharText v) (sym e) (byte_text (byte src i) low allowed)

-- Some bytes, each of them ASCII.
pub bytes_chars : (src : List ℕ) (d i j : ℕ) → i + d ≡ j → j ≤ length src → ((k : ℕ) → i ≤ k → k < j → (byte src k < 128) × (is_char (byte src k) ≡ true)) → IsCharText (slice src i j)
bytes_chars src zero i j to inside each = let e : j ≡ i = omega arith in rw (e, slice_nil src i) no_text
bytes_chars src (suc d) i j to inside each =
    let here = each i (omega arith) (omega arith) in
    stretches_joined src i (i + 1) j (omega arith) (omega arith) inside (byte_chars src i (omega arith) here.0 here.1) (bytes_chars src d (i + 1) j (omega arith) inside (λ k from below. each k (omega arith) below))

-- ---- single characters

-- From 32 on all but two numbers are Chars.
allowed : (c : ℕ) → 32 ≤ c → (c < 0xFFFE) ⊎ (0xFFFF < c) → is_char c ≡ true
allowed c some k = grind arith

-- A range of such numbers.
fine_range : ℕ × ℕ → Bool
fine_range r = leb 32 r.0 && (ltb r.1 0xFFFE || ltb 0xFFFF r.0)

-- Each character of a name is a Char.
pub name_char : (c : ℕ) → is_name_char c ≡ true → is_char c ≡ true
unfolding is_name_char is_name_start fine_range
name_char c h = grind (arith, nat_tests)

-- ---- references

-- An ASCII character but the first 32 is a Char.
pub printable : (b : ℕ) → 32 ≤ b → b < 128 → is_char b ≡ true
printable b some low = allowed b some (inl (omega arith))

hex_range : (b : ℕ) → is_hex_digit b ≡ true → (32 ≤ b) × (b < 128)
hex_range b h = grind (arith, nat_tests)

digit_range : (b : ℕ) → is_digit b ≡ true → (32 ≤ b) × (b < 128)
digit_range b h = grind (arith, nat_tests)

-- A byte of known value.
known : (src : List ℕ) (i b : ℕ) → byte src i ≡ b → 32 ≤ b → b < 128 → IsCharText (slice src i (i + 1)) × (i < length src)
known src i b is some low =
    let here = within src i (λ z. omega arith) in
    (byte_chars src i here (omega arith) (printable (byte src i) (omega arith) (omega arith)), here)

-- Digits and `;`.
number_text : (base : ℕ) (is : ℕ → Bool) (src : List ℕ) (d c j : ℕ) → ((b : ℕ) → is b ≡ true → (32 ≤ b) × (b < 128)) → IsNumber base is src d c j → IsCharText (slice src d j) × (d ≤ j) × (j ≤ length src)
number_text base is src d c j fine m =
    let e = (number_parts m).e in
    let end = (number_parts m).end in let some = (number_parts m).some in let next = (number_parts m).next in
    let last = known src e 59 (number_parts m).closes (omega arith) (omega arith) in
    let digits = bytes_chars src (e - d) d e (omega arith) (omega (arith, last.1)) (λ k from below. let r = fine (byte src k) (bytes_pass is src d k from (omega arith)) in (r.1, printable (byte src k) r.0 r.1)) in
    (rw next (stretches_joined src d e (e + 1) (omega arith) (omega arith) (omega (arith, last.1)) digits last.0), omega arith, omega (arith, last.1))

-- One to a name.
pub reference_text : (src : List ℕ) (i n j : ℕ) → IsUtf8 src → IsReference src i n j → IsCharText (slice src i j) × IsCharBoundary src j
reference_text src i n j utf8 r =
    let next = (reference_parts r).next in let l = (reference_parts r).name.longest in
    let first = known src i 38 (reference_parts r).opens (omega arith) (omega arith) in
    let last = known src n 59 (reference_parts r).closes (omega arith) (omega arith) in
    let cut = cut_behind src i 38 (i + 1) utf8 (reference_parts r).opens (omega arith) (omega arith) refl in
    let name : IsCharText (slice src (i + 1) n) = rw l (run_of_chars is_name_char src (i + 1) utf8 cut name_char) in
    let le = (reference_opens src i n j r).1 in
    let front = stretches_joined src i (i + 1) n (omega arith) (omega arith) (omega (arith, last.1)) first.0 name in
    (rw next (stretches_joined src i n (n + 1) (omega arith) (omega arith) (omega (arith, last.1)) front last.0), cut_behind src n 59 j utf8 (reference_parts r).closes (omega arith) (omega arith) next)

-- One to a character.
pub character_text : (src : List ℕ) (i c j : ℕ) → IsUtf8 src → IsCharacter src i c j → IsCharText (slice src i j) × IsCharBoundary src j
character_text src i c j utf8 (decimal opens m) =
    let bytes = hash_bytes src i opens in let amp = bytes.0 in let hash = bytes.1 in
    let e = (number_parts m).e in
    let second = known src (i + 1) 35 hash (omega arith) (omega arith) in
    let second' : IsCharText (slice src (i + 1) (i + 2)) = subst (λ (k : ℕ). IsCharText (slice src (i + 1) k)) (omega arith) second.0 in
    let rest = number_text 10 is_digit src (i + 2) c j digit_range m in
    let front = stretches_joined src i (i + 1) (i + 2) (omega arith) (omega arith) (omega (arith, second.1)) (known src i 38 amp (omega arith) (omega arith)).0 second' in
    (stretches_joined src i (i + 2) j (omega arith) rest.1 rest.2 front rest.0, cut_behind src e 59 j utf8 (number_parts m).closes (omega arith) (omega arith) (number_parts m).next)
character_text src i c j utf8 (hexadecimal opens m) =
    let bytes = hex_bytes src i opens in let amp = bytes.0 in let hash = bytes.1 in let hex = bytes.2 in
    let e = (number_parts m).e in
    let second = known src (i + 1) 35 hash (omega arith) (omega arith) in
    let third = known src (i + 2) 120 hex (omega arith) (omega arith) in
    let second' : IsCharText (slice src (i + 1) (i + 2)) = subst (λ (k : ℕ). IsCharText (slice src (i + 1) k)) (omega arith) second.0 in
    let third' : IsCharText (slice src (i + 2) (i + 3)) = subst (λ (k : ℕ). IsCharText (slice src (i + 2) k)) (omega arith) third.0 in
    let rest = number_text 16 is_hex_digit src (i + 3) c j hex_range m in
    let front = stretches_joined src i (i + 1) (i + 2) (omega arith) (omega arith) (omega (arith, second.1)) (known src i 38 amp (omega arith) (omega arith)).0 second' in
    let front' = stretches_joined src i (i + 2) (i + 3) (omega arith) (omega arith) (omega (arith, third.1)) front third' in
    (stretches_joined src i (i + 3) j (omega arith) rest.1 rest.2 front' rest.0, cut_behind src e 59 j utf8 (number_parts m).closes (omega arith) (omega arith) (number_parts m).next)
character_text src i c j utf8 (named n r is) = reference_text src i n j utf8 r
