-- Sets of bytes that need no replacement, whichever character they are of. Byte 239 starts the two characters past ASCII that are
-- not Chars. Of these sets, only `is_stretch_byte` and `is_run_byte` have it: they do not say that a character is a Char.
use Rattle.rox_grammar.specs.Chars.{is_part_char}
use Rattle.std.specs.Prelude.{◌≡◌, ◌+◌, ◌≤◌, ◌<◌, ℕ, Bool, true, false, not, ◌&&◌, ◌||◌, ◌==◌, nat_le, nat_lt, bit_xor, cond, List, [], ◌∷◌, length, slice_index}
use Rattle.rox_grammar.specs.declared.fault.Word.{Word}
use Rattle.rox_grammar.specs.FixedTexts.{word_text}
use Rattle.std.specs.List.{list_all}

-- The byte `b` with its highest bit flipped: bytes past ASCII are less than controls then.
abbrev pub non_ascii_first : ℕ → ℕ
non_ascii_first b = bit_xor b 128

-- The byte `b` starts only Chars, or continues a character.
abbrev pub is_char_byte : ℕ → Bool
is_char_byte b = ((nat_le 32 b && not (b == 239)) || b == 9) || (b == 10 || b == 13)

-- The byte `b` is past ASCII, and not 239.
abbrev pub is_non_ascii_char_byte : ℕ → Bool
is_non_ascii_char_byte b = nat_le 128 b && not (b == 239)

-- The byte `b` is ASCII, and not a control, a quote, `&` or `<`.
unfoldable pub is_value_byte : ℕ → Bool
is_value_byte b = (nat_le 32 b && nat_lt b 128) && not ((b == 34 || b == 39) || (b == 38 || b == 60))

-- The byte `b` is a value byte, or past ASCII and not 239.
unfoldable pub is_any_value_byte : ℕ → Bool
is_any_value_byte b = is_value_byte b || is_non_ascii_char_byte b

-- The byte `b` is of `AnyValueByte`, or `'`.
unfoldable pub is_quoted_byte : ℕ → Bool
is_quoted_byte b = is_any_value_byte b || b == 39

-- The byte `b` is neither `&` nor white space other than the space.
unfoldable pub is_stretch_byte : ℕ → Bool
is_stretch_byte b = not (b == 38 || (b == 9 || (b == 10 || b == 13)))

-- The byte `b` is neither `&` nor CR.
unfoldable pub is_run_byte : ℕ → Bool
is_run_byte b = not (b == 38 || b == 13)

-- The byte `b` is not 239, `&`, `<` or `]`, and not a control except TAB and LF.
unfoldable pub is_text_byte : ℕ → Bool
is_text_byte b = (((b == 9 || b == 10) || nat_le 32 b) && not (b == 239)) && not ((b == 38 || b == 60) || b == 93)

-- The byte `b` is ASCII, and a text byte.
unfoldable pub is_ascii_text_byte : ℕ → Bool
is_ascii_text_byte b = nat_lt b 128 && is_text_byte b

-- The byte `b` is not 239 or `-`, and not a control except TAB, LF and CR.
unfoldable pub is_comment_byte : ℕ → Bool
is_comment_byte b = ((((b == 9 || b == 10) || b == 13) || nat_le 32 b) && not (b == 239)) && not (b == 45)

-- The byte `b` is ASCII, and a comment byte other than CR.
unfoldable pub is_ascii_comment_byte : ℕ → Bool
is_ascii_comment_byte b = (nat_lt b 128 && not (b == 13)) && is_comment_byte b

-- The byte `b` is ASCII, and in a part of a name.
unfoldable pub is_part_byte : ℕ → Bool
is_part_byte b = nat_lt b 128 && is_part_char b

-- Each byte from `i` up to `j` passes `p`.
abbrev pub AllPass : (ℕ → Bool) → List ℕ → ℕ → ℕ → Type 0
AllPass p src i j = (k : ℕ) → i ≤ k → k < j → p (slice_index src k) ≡ true

-- The byte `b` is 239, and `next`, the byte after it, is not 191. U+FFFE and U+FFFF start with 239 and 191, so `b` starts a Char.
abbrev pub leads_char : (b next : ℕ) → Bool
leads_char b next = (b == 239) && not (next == 191)

-- The bytes with 255 in place of each 239 that 191 does not follow.
abbrev pub eased : List ℕ → List ℕ
eased [] = []
eased (b ∷ bs) = cond (leads_char b (slice_index bs 0)) 255 b ∷ eased bs

-- The byte at `k` passes `p`, or it is a 239 that 191 does not follow.
abbrev pub passes_eased : (ℕ → Bool) → List ℕ → ℕ → Bool
passes_eased p src k = p (slice_index src k) || leads_char (slice_index src k) (slice_index src (k + 1))

-- The bytes from `i` up to `j` pass `p` or are 239 without 191 after it. The byte at `j`, if there is one, does not pass `p`, or
-- is 239.
pub record EndsEased (p : ℕ → Bool) (src : List ℕ) (i j : ℕ) : Type 0 where
  pub onward : i ≤ j
  pub within : j ≤ length src
  pub passes : (k : ℕ) → i ≤ k → k < j → passes_eased p src k ≡ true
  pub stops : j < length src → (p (slice_index src j) && not (slice_index src j == 239)) ≡ false

-- The bytes from `i` up to `j` pass `p`, and the byte at `j`, if there is one, does not.
pub record EndsSet (p : ℕ → Bool) (src : List ℕ) (i j : ℕ) : Type 0 where
  pub onward : i ≤ j
  pub within : j ≤ length src
  pub passes : AllPass p src i j
  pub stops : j < length src → p (slice_index src j) ≡ false

-- The bytes from `i` up to `j` pass `p`, and there is a byte at `j`, which does not.
pub record StopsSet (p : ℕ → Bool) (src : List ℕ) (i j : ℕ) : Type 0 where
  pub ends : EndsSet p src i j
  pub there : j < length src

-- The bytes of a word are letters or `_`, and there is at least one.
pub record IsOfLetters (w : Word) : Type 0 where
  pub some : 0 < length (word_text w)
  pub all : list_all (λ b. is_part_byte b && nat_lt 63 b) (word_text w) ≡ true
