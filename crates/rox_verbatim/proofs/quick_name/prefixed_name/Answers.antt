use Rattle.std.proofs.Common.{◌≡◌, ℕ, ◌+◌, ◌<◌, ◌≤◌, ◌==◌, ◌||◌, Bool, true, false, List, Ok, length, slice_index, slice_range, arith, IsUtf8}
use Rattle.std.proofs.lemmas.Bool.Decides.{nat_tests}
use Rattle.rox_grammar.specs.Chars.{is_name_start, is_name_char, is_part_char}
use Rattle.rox_grammar.specs.Runs.{begins, run_end}
use Rattle.rox_reading.specs.Lexical.{qname_at}
use Rattle.rox_bytes.specs.ByteSets.{AllPass, is_part_byte}
use Rattle.rox_bytes.proofs.NearLemmas.{part_stops}
use Rattle.rox_bytes.proofs.RunLemmas.{begins_ascii}
use Rattle.rox_verbatim.proofs.quick_name.prefixed_name.Goals as goal

ascii : (b : ℕ) → is_part_byte b ≡ true → b < 128
unfolding is_part_byte
ascii b h = grind (arith, nat_tests)

starts : (b : ℕ) → is_part_byte b ≡ true → 65 ≤ b → is_name_start b ≡ true
unfolding is_part_byte is_part_char is_name_char is_name_start
starts b h letter = grind (arith, nat_tests)

-- a part that begins with a letter or `_` begins a name
part_begins : (src : List ℕ) (i e : ℕ) → IsUtf8 src → i < e → e ≤ length src → AllPass is_part_byte src i e → 65 ≤ slice_index src i → begins is_name_start src i ≡ true
part_begins src i e utf8 more within all letter = grind (arith, begins_ascii, ascii, starts)

or_last : (b : Bool) → (b || true) ≡ true
or_last b = grind arith

-- a name of two parts, behind which `=` stands
two_parts : (src : List ℕ) (i k j : ℕ) → begins is_name_start src i ≡ true → k ≡ run_end is_part_char src i → slice_index src k ≡ 58
    → begins is_name_start src (k + 1) ≡ true → (slice_index src (k + 1) == 58) ≡ false → j ≡ run_end is_part_char src (k + 1) → slice_index src j ≡ 61
    → qname_at src i ≡ Ok (record { prefix = slice_range src i k; local = slice_range src (k + 1) j }, j)
unfolding qname_at
two_parts src i k j some end colon second other behind is = grind arith

pub returns : goal.returns
returns c = grind (arith, part_stops, two_parts, part_begins)
