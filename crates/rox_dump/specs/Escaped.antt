use Rattle.std.specs.Prelude.{ℕ, ◌/◌, ◌%◌, Bool, false, ◌&&◌, List, [], ◌∷◌, ◌++◌, ◌==◌, nat_le, nat_lt, not, if◌then◌else◌, flat_map}
use Rattle.std.specs.Fmt.{digit_glyph}

-- Whether the byte is printable ASCII, except `"` and `\`.
abbrev pub is_printable : ℕ → Bool
is_printable byte = nat_le 32 byte && nat_lt byte 127 && not (byte == 34) && not (byte == 92)

-- The bytes of `\x` and two hexadecimal digits.
abbrev pub hexadecimal : ℕ → List ℕ
hexadecimal byte = 92 ∷ 120 ∷ digit_glyph false (byte / 16) ∷ digit_glyph false (byte % 16) ∷ []

abbrev pub escaped_byte : ℕ → List ℕ
escaped_byte byte = (if is_printable byte then byte ∷ [] else hexadecimal byte)

abbrev pub escaped : List ℕ → List ℕ
escaped text = flat_map escaped_byte text

-- A text, escaped, between double quotes.
abbrev pub quoted_bytes : List ℕ → List ℕ
quoted_bytes text = 34 ∷ (escaped text ++ 34 ∷ [])
