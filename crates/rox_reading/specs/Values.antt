-- Readings of references, and of the texts that contain them.
use Prim.Native.Char.{code}
use Rattle.std.specs.Prelude.{ℕ, zero, suc, ◌+◌, ◌-◌, ◌^◌, ◌==◌, ◌||◌, Bool, true, false, List, [], ◌∷◌, ◌++◌, Option, Some, None, Result, Ok, Err, take, slice_range, slice_index, nat_lt, nat_le, if◌then◌else◌, encode_utf8}
use Rattle.rox_grammar.specs.declared.fault.Fault.{Fault}
use Rattle.rox_grammar.specs.declared.fault.Span.{Span}
use Rattle.rox_grammar.specs.declared.fault.Fault.TheVariants.{MalformedEntityReference, UnknownEntityReference, InvalidCharacterData, InvalidAttributeValue}
use Rattle.rox_grammar.specs.declared.fault.Word.TheVariants as word
use Rattle.rox_grammar.specs.FixedTexts.{word_text}
use Rattle.rox_grammar.specs.Chars.{is_name_start, is_name_char, is_char}
use Rattle.rox_grammar.specs.Runs.{run_end, begins}
use Rattle.rox_grammar.specs.Search.{byte_from, has_mark}
use Rattle.rox_grammar.specs.References.{is_digit, is_hex_digit, number, bytes_end, character, predefined}
use Rattle.rox_grammar.specs.Content.{is_verbatim_value, literals, line_ends, value_bytes}
use Rattle.rox_grammar.specs.Entities.{Replacement, Entity, text_of}
use Rattle.rox_reading.specs.Refusals.{Refusal, lifted}
use Rattle.rox_reading.specs.Lexical.{Read, ◌>>=◌, chars_up_to}

-- A reference to a character, or to an entity.
pub data Reference : Type 0 where
  character_of : ℕ → Reference
  -- The name is the text of this span.
  entity_at : Span → Reference

-- Reads the digits from `d` on of the reference at `i`, and `;`.
unfoldable pub number_at : ℕ → (ℕ → Bool) → List ℕ → ℕ → ℕ → Read Reference
number_at base is src i d =
    let e = bytes_end is src d in
    let n = number base (slice_range src d e) in
    if e == d then Err (MalformedEntityReference i)
    else if nat_le (2 ^ 32) n then Err (MalformedEntityReference i)
    else if is_char (character n) then (if slice_index src e == code ";" then Ok (character_of (character n), e + 1) else Err (MalformedEntityReference i))
    else Err (MalformedEntityReference i)

abbrev pub named_or : Option ℕ → Span → Reference
named_or None span = entity_at span
named_or (Some c) span = character_of c

-- Reads the name of the reference at `i`, and `;`.
unfoldable pub name_reference_at : List ℕ → ℕ → Read Reference
name_reference_at src i =
    let n = run_end is_name_char src (i + 1) in
    if begins is_name_start src (i + 1) then
    (if slice_index src n == code ";" then Ok (named_or (predefined (slice_range src (i + 1) n)) (record { start = i + 1; end = n }), n + 1)
    else Err (MalformedEntityReference i))
    else Err (MalformedEntityReference i)

-- Reads a reference from `&` on.
unfoldable pub reference_at : List ℕ → ℕ → Read Reference
reference_at src i =
    if slice_index src (i + 1) == code "#" then
    (if slice_index src (i + 2) == code "x" then number_at 16 is_hex_digit src i (i + 3) else number_at 10 is_digit src i (i + 2))
    else name_reference_at src i

-- Bytes that are read, or a replacement text that is opened.
pub data Bit : Type 0 where
  bytes_of : List ℕ → Bit
  opens : Replacement → Bit

abbrev pub entity_bit : Option Replacement → ℕ → Span → Result Bit Fault
entity_bit None i span = Err (UnknownEntityReference span i)
entity_bit (Some t) i span = Ok (opens t)

-- The meaning of a reference that starts at `i`.
abbrev pub reference_bit : List Entity → List ℕ → ℕ → Reference → Result Bit Fault
reference_bit es src i (character_of c) = Ok (bytes_of (encode_utf8 c))
reference_bit es src i (entity_at span) = entity_bit (text_of es (slice_range src span.start span.end)) i span

unfoldable pub expansion_at : List Entity → List ℕ → ℕ → Read Bit
expansion_at es src i = reference_at src i >>= λ r. reference_bit es src i r.0 >>= λ bit. Ok (bit, r.1)

-- Reads an item of a run: a reference, a line end, or all bytes up to the next `&` or CR. In a replacement text, line ends are
-- replaced later, in the whole part.
unfoldable pub data_bit_at : (main : Bool) → List Entity → List ℕ → ℕ → ℕ → Read Bit
data_bit_at main es src stop i =
    if slice_index src i == code "&" then expansion_at es src i
    else if main then
    (if slice_index src i == code "\r" then Ok (bytes_of (code "\n" ∷ []), if slice_index (take stop src) (i + 1) == code "\n" then i + 2 else i + 1)
    else (let j = byte_from (λ c. c == code "&" || c == code "\r") (take stop src) i in Ok (bytes_of (slice_range src i j), j)))
    else (let j = byte_from (λ c. c == code "&") (take stop src) i in Ok (bytes_of (slice_range src i j), j))

-- The end of a part of a run or of a value. It is the end of the whole, or a replacement text, with the offset after its
-- reference.
pub data Next : Type 0 where
  at_end : Next
  opening : Replacement → ℕ → Next

abbrev pub after_bit : (ℕ → Result (List ℕ × Next) Fault) → Bit → ℕ → Result (List ℕ × Next) Fault
after_bit more (bytes_of bs) j = more j >>= λ rest. Ok (bs ++ rest.0, rest.1)
after_bit more (opens t) j = Ok ([], opening t j)

-- Reads the part of a run from `i` on, in at most `n` items.
unfoldable pub data_part : (main : Bool) → List Entity → ℕ → List ℕ → ℕ → ℕ → Result (List ℕ × Next) Fault
data_part main es zero src stop i = Ok ([], at_end)
data_part main es (suc n) src stop i =
    if nat_lt i stop then (data_bit_at main es src stop i >>= λ x. after_bit (λ j. data_part main es n src stop j) x.0 x.1) else Ok ([], at_end)

-- The text of a part.
abbrev pub part_text : (main : Bool) → List ℕ → List ℕ
part_text true bs = bs
part_text false bs = line_ends (literals bs)

-- Reads a run up to the next `<` or the end of the source. Tests that it has only Chars and no `]]>`.
unfoldable pub raw_character_data_at : List ℕ → ℕ → Read (List ℕ)
raw_character_data_at src i =
    let end = byte_from (λ c. c == code "<") src i in
    chars_up_to end src i >>= λ raw.
    if has_mark (word_text word.CDataEnd) raw.0 then Err (InvalidCharacterData end) else Ok (raw.0, end)

pub record ReadText : Type 0 where
  pub value : List ℕ
  -- Whether the value is a slice of the source.
  pub borrowed : Bool

-- Whether the byte is `&`, or white space other than a space.
abbrev pub is_special : ℕ → Bool
is_special b = b == code "&" || (b == code "\t" || (b == code "\n" || b == code "\r"))

-- Tests a reference in a value. In a replacement text its character may not be `<`, and gives a space if it is white space.
abbrev pub tested_bit : (main : Bool) → ℕ → Reference → Result Bit Fault → Result Bit Fault
tested_bit true i r read = read
tested_bit false i (character_of c) read = if c == code "<" then Err (InvalidAttributeValue i) else Ok (bytes_of (value_bytes false c))
tested_bit false i (entity_at span) read = read

unfoldable pub value_reference_at : (main : Bool) → List Entity → List ℕ → ℕ → Read Bit
value_reference_at main es src i = reference_at src i >>= λ r. tested_bit main i r.0 (reference_bit es src i r.0) >>= λ bit. Ok (bit, r.1)

-- Reads all bytes up to the next special one. In a replacement text the first `<`, or character that is not a Char, is a fault.
abbrev pub stretch_at : (main : Bool) → List ℕ → ℕ → ℕ → Read Bit
stretch_at true src stop i = (let j = byte_from is_special (take stop src) i in Ok (bytes_of (slice_range src i j), j))
stretch_at false src stop i =
    (let j = byte_from (λ b. is_special b || b == code "<") (take stop src) i in
    chars_up_to j src i >>= λ x. if slice_index (take stop src) j == code "<" then Err (InvalidAttributeValue j) else Ok (bytes_of x.0, j))

-- Reads an item of a value: a reference, white space, or all bytes up to the next special one. A CR right before a LF gives
-- nothing.
unfoldable pub value_bit_at : (main : Bool) → List Entity → List ℕ → ℕ → ℕ → Read Bit
value_bit_at main es src stop i =
    if slice_index src i == code "&" then value_reference_at main es src i
    else if is_special (slice_index src i) then
    (if slice_index src i == code "\r" then (if slice_index (take stop src) (i + 1) == code "\n" then Ok (bytes_of [], i + 1) else Ok (bytes_of (code " " ∷ []), i + 1))
    else Ok (bytes_of (code " " ∷ []), i + 1))
    else stretch_at main src stop i

-- How a replacement text is read as a part of a value, given the offset after its reference and the openings that are left.
abbrev pub ValueInclusion : Type 0
ValueInclusion = Replacement → ℕ → ℕ → Result (List ℕ × ℕ) Refusal

abbrev pub after_value_bit : ValueInclusion → (ℕ → ℕ → Result (List ℕ × ℕ) Refusal) → ℕ → Bit → ℕ → Result (List ℕ × ℕ) Refusal
after_value_bit opener more openings_left (bytes_of bs) j = more j openings_left >>= λ rest. Ok (bs ++ rest.0, rest.1)
after_value_bit opener more openings_left (opens t) j = opener t j openings_left >>= λ x. more j x.1 >>= λ rest. Ok (x.0 ++ rest.0, rest.1)

-- Reads the value from `i` up to `stop`, in at most `n` items: the bytes that they give, and the openings that are left.
unfoldable pub value_text : (main : Bool) → List Entity → ValueInclusion → ℕ → List ℕ → ℕ → ℕ → ℕ → Result (List ℕ × ℕ) Refusal
value_text main es opener zero src stop i openings_left = Ok ([], openings_left)
value_text main es opener (suc n) src stop i openings_left =
    if nat_lt i stop then (lifted (value_bit_at main es src stop i) >>= λ x. after_value_bit opener (λ j l. value_text main es opener n src stop j l) openings_left x.0 x.1)
    else Ok ([], openings_left)

-- Reads the value of an attribute from `i` up to `stop`.
unfoldable pub value_at : (main : Bool) → List Entity → ValueInclusion → List ℕ → ℕ → ℕ → ℕ → Result (ReadText × ℕ) Refusal
value_at main es opener src i stop openings_left =
    if is_verbatim_value (slice_range src i stop) then Ok (record { value = slice_range src i stop; borrowed = true }, openings_left)
    else (value_text main es opener (stop - i) src stop i openings_left >>= λ x. Ok (record { value = x.0; borrowed = false }, x.1))
