-- What each small step reads at an offset of a source: a value and the next offset, or the first fault.
use Prim.Native.Char.{code}
use Rattle.std.specs.Prelude.{ℕ, ◌+◌, ◌==◌, ◌||◌, ◌&&◌, not, Bool, List, [], Result, Ok, Err, length, take, drop, slice_index, slice_range, nat_lt, nat_le, if◌then◌else◌, chars}
use Rattle.rox_grammar.specs.declared.fault.Due.TheVariants.{Space, Quote}
use Rattle.rox_grammar.specs.declared.fault.Fault.{Fault}
use Rattle.rox_grammar.specs.declared.fault.Expected.{Expected}
use Rattle.rox_grammar.specs.declared.fault.Fault.TheVariants.{InvalidName, NonXmlChar, InvalidChar, InvalidChar2, InvalidString, UnexpectedEndOfStream}
use Rattle.rox_grammar.specs.Chars.{is_space, is_name_start, is_name_char, is_part_char, is_char}
use Rattle.rox_grammar.specs.Runs.{run_end, begins}
use Rattle.rox_grammar.specs.ExpectedTexts.{expected_text}
use Rattle.rox_grammar.specs.Search.{stands, mark_from}
use Rattle.rox_grammar.specs.Written.{Name}
use Rattle.rox_grammar.specs.Names.{spaces_end}

-- A value and the next offset, or a fault.
abbrev pub Read : Type 0 → Type 0
Read A = Result (A × ℕ) Fault

infixl 10 ◌>>=◌
abbrev pub ◌>>=◌ : {A B E : Type 0} → Result A E → (A → Result B E) → Result B E
(Ok x) >>= f = f x
(Err e) >>= f = Err e

-- Reads the byte `b`.
unfoldable pub byte_at : ℕ → List ℕ → ℕ → Read (Unit {0})
byte_at b src i =
    if nat_le (length src) i then Err UnexpectedEndOfStream
    else if slice_index src i == b then Ok (tt, i + 1)
    else Err (InvalidChar b (slice_index src i) i)

-- Reads white space, at least one character.
unfoldable pub space_at : List ℕ → ℕ → Read (Unit {0})
space_at src i =
    if nat_le (length src) i then Err UnexpectedEndOfStream
    else if is_space (slice_index src i) then Ok (tt, spaces_end src i)
    else Err (InvalidChar2 Space (slice_index src i) i)

-- Reads `'` or `"`.
unfoldable pub quote_at : List ℕ → ℕ → Read ℕ
quote_at src i =
    if nat_le (length src) i then Err UnexpectedEndOfStream
    else if slice_index src i == code "'" || slice_index src i == code "\"" then Ok (slice_index src i, i + 1)
    else Err (InvalidChar2 Quote (slice_index src i) i)

-- Reads the longest Name from `i` on.
unfoldable pub name_at : List ℕ → ℕ → Read (List ℕ)
name_at src i =
    if begins is_name_start src i then Ok (slice_range src i (run_end is_name_char src i), run_end is_name_char src i)
    else Err (InvalidName i)

-- Reads a fixed text.
unfoldable pub string_at : Expected → List ℕ → ℕ → Read (Unit {0})
string_at w src i =
    if stands (expected_text w) src i then Ok (tt, i + length (expected_text w))
    else Err (InvalidString w i)

-- Reads Chars from `i` up to `end`.
unfoldable pub chars_up_to : ℕ → List ℕ → ℕ → Read (List ℕ)
chars_up_to end src i =
    let ill = run_end is_char (take end src) i in
    if nat_lt ill end then Err (NonXmlChar (slice_index (chars (drop ill src)) 0) ill)
    else Ok (slice_range src i end, end)

-- Reads the text up to the first mark, and the mark.
unfoldable pub text_to : Expected → List ℕ → ℕ → Read (List ℕ)
text_to w src i = do
  text ← chars_up_to (mark_from (expected_text w) src i) src i
  end ← string_at w src text.1
  Ok (text.0, end.1)

-- The end of the run of name characters other than colons.
abbrev pub part_end : List ℕ → ℕ → ℕ
part_end src i = run_end is_part_char src i

-- Whether a colon is at `i`.
abbrev pub is_colon : List ℕ → ℕ → Bool
is_colon src i = slice_index src i == code ":"

-- Reads the longest run of NameChars, split at its colon. There is at most one colon, and only the prefix may be empty.
unfoldable pub qname_at : List ℕ → ℕ → Read Name
qname_at src i =
    let k = part_end src i in
    let j = part_end src (k + 1) in
    if is_colon src k then
    (if ((k == i || begins is_name_start src i) && begins is_name_start src (k + 1)) && not (is_colon src (k + 1) || is_colon src j)
    then Ok (record { prefix = slice_range src i k; local = slice_range src (k + 1) j }, j)
    else Err (InvalidName i))
    else if begins is_name_start src i then Ok (record { prefix = []; local = slice_range src i k }, k)
    else Err (InvalidName i)
