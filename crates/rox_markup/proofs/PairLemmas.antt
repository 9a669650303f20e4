-- A pair of the XML declaration that is written as most are.
use Rattle.std.proofs.Common.{◌≡◌, ℕ, ◌+◌, ◌-◌, ◌<◌, ◌≤◌, ◌==◌, ◌&&◌, ◌||◌, nat_lt, true, false, List, [], Ok, length, slice_index, slice_range, refl, sym, ap, ◌∙◌, arith, IsUtf8}
use Rattle.std.proofs.lemmas.Bool.{and_parts, lt-leb, ltb-true, true_from_ne_false, true≢false}
use Rattle.std.proofs.lemmas.List.Folds.{list_all_at}
use Rattle.std.specs.List.{list_all}
use Rattle.rox_grammar.specs.Chars.{is_space, is_name_char, is_name_start, is_part_char}
use Rattle.rox_grammar.specs.ExpectedTexts.{expected_text}
use Rattle.rox_grammar.specs.declared.fault.Expected.{Expected}
use Rattle.rox_grammar.specs.Names.{spaces_end}
use Rattle.rox_grammar.specs.Runs.{begins, run_end}
use Rattle.rox_grammar.specs.Search.{byte_from, stands}
use Rattle.rox_grammar.specs.Written.{Name}
use Rattle.rox_reading.specs.Lexical.{qname_at, quote_at, string_at, chars_up_to}
use Rattle.rox_reading.specs.Markup.{pair_at}
use Rattle.rox_grammar.specs.declared.fault.Word.TheVariants as word
use Rattle.rox_bytes.specs.ByteSets.{AllPass, is_part_byte, IsOfLetters}
use Rattle.rox_bytes.proofs.MarkLemmas.{stands_fits, stands_reads}
use Rattle.rox_reading.proofs.ByteReads.{byte_is}
use Rattle.rox_bytes.proofs.NearLemmas.{part_begins, part_stops}
use Rattle.rox_bytes.proofs.RunLemmas.{run_stops_ascii, stands_within}

quote_is : (src : List ℕ) (i : ℕ) → slice_index src i ≡ 34 → quote_at src i ≡ Ok (34, i + 1)
unfolding quote_at
quote_is src i is =
    let e : (slice_index src i == 39 || slice_index src i == 34) ≡ true = ap (λ (n : ℕ). n == 39 || n == 34) is in
    rw (lt-leb (length src) i (stands_within src i 34 is (omega arith)), e) (ap (λ (n : ℕ). Ok (n, i + 1)) is)

-- a name without colon, behind which `=` stands
pub name_is : (src : List ℕ) (i k : ℕ) → begins is_name_start src i ≡ true → k ≡ run_end is_part_char src i → slice_index src k ≡ 61 → qname_at src i ≡ Ok (record { prefix = []; local = slice_range src i k }, k)
unfolding qname_at
name_is src i k some end is = rw (← end, is, some) refl

-- a byte of a word of letters
letter_at : (w : List ℕ) (j : ℕ) → j < length w → list_all (λ b. is_part_byte b && nat_lt 63 b) w ≡ true → (is_part_byte (slice_index w j) && nat_lt 63 (slice_index w j)) ≡ true
letter_at w j more all = true_from_ne_false _ (λ fails. true≢false (sym all ∙ list_all_at (λ b. is_part_byte b && nat_lt 63 b) w j 0 more fails))

equals_is_no_part : is_part_byte 61 ≡ false
unfolding is_part_byte is_part_char is_name_char is_name_start
equals_is_no_part = refl

-- the same of a word of letters, which stands here
pub word_is : (w src : List ℕ) (i k : ℕ) → IsUtf8 src → 0 < length w → list_all (λ b. is_part_byte b && nat_lt 63 b) w ≡ true → stands w src i ≡ true → k ≡ i + length w → slice_index src k ≡ 61
    → qname_at src i ≡ Ok (record { prefix = []; local = slice_range src i k }, k)
word_is w src i k utf8 some all here place is =
    let within : k ≤ length src = omega (arith, stands_fits w src i some here, place) in
    let letter : (j : ℕ) → i ≤ j → j < k → (is_part_byte (slice_index src j) && nat_lt 63 (slice_index src j)) ≡ true = λ j from until.
    let n = j - i in
    let at : i + n ≡ j = omega (arith, from) in
    let read = stands_reads w src i n here (omega (arith, from, until, place)) in
    rw (← at, read) (letter_at w n (omega (arith, from, until, place)) all) in
    let passes : AllPass is_part_byte src i k = λ j from until. (and_parts _ _ (letter j from until)).0 in
    let start : i < k = omega (arith, some, place) in
    let b = slice_index src i in
    let first : 63 < b = ltb-true 63 b (and_parts (is_part_byte b) (nat_lt 63 b) (letter i (omega arith) start)).1 in
    let stops : k < length src → is_part_byte (slice_index src k) ≡ false = λ _. ap is_part_byte is ∙ equals_is_no_part in
    let ascii : k < length src → slice_index src k < 128 = λ _. omega (arith, is) in
    name_is src i k (part_begins src i k utf8 start within passes first) (part_stops src i k utf8 (omega (arith, place)) within passes stops ascii) is

-- its name, and right behind that `=` and a double quote
pub pair_is : (src : List ℕ) (i : ℕ) (name : Name) (k j e : ℕ) → IsUtf8 src → qname_at src i ≡ Ok (name, k) → slice_index src k ≡ 61 → slice_index src (k + 1) ≡ 34 → j ≡ k + 2
    → chars_up_to (byte_from (λ c. c == 34 || c == 60) src j) src j ≡ Ok (slice_range src j e, e) → slice_index src e ≡ 34 → pair_at src i ≡ Ok (tt, e + 1)
unfolding pair_at
pair_is src i name k j e utf8 named equals quote place value here =
    let within = stands_within src (k + 1) 34 quote (omega arith) in
    let first : k ≡ spaces_end src k = sym (run_stops_ascii is_space src k utf8 (omega arith) (omega (arith, equals)) (ap is_space equals)) in
    let second : k + 1 ≡ spaces_end src (k + 1) = sym (run_stops_ascii is_space src (k + 1) utf8 within (omega (arith, quote)) (ap is_space quote)) in
    let there : k + 1 + 1 ≡ j = omega arith in
    rw (named, ← first, byte_is src k 61 equals (omega arith), ← second, quote_is src (k + 1) quote, there, value, byte_is src e 34 here (omega arith)) refl

-- a fixed text that stands there
pub string_is : (w : Expected) (src : List ℕ) (i : ℕ) → stands (expected_text w) src i ≡ true → string_at w src i ≡ Ok (tt, i + length (expected_text w))
unfolding string_at
string_is w src i h = rw h refl

pub version_named : IsOfLetters word.Version
unfolding is_part_byte is_part_char is_name_char is_name_start
version_named = record { some = omega arith; all = refl }

pub encoding_named : IsOfLetters word.Encoding
unfolding is_part_byte is_part_char is_name_char is_name_start
encoding_named = record { some = omega arith; all = refl }

pub standalone_named : IsOfLetters word.Standalone
unfolding is_part_byte is_part_char is_name_char is_name_start
standalone_named = record { some = omega arith; all = refl }
