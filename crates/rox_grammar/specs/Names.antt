-- Offsets in a source, white space and names. A source is a list of bytes, and a place is an offset into it, from 0. What is from
-- `i` up to `j` is without the byte at `j`.
use Prim.Native.Char.{code}
use Rattle.std.specs.Prelude.{◌≡◌, ◌≢◌, ℕ, ◌+◌, true, List, [], slice_index, slice_range}
use Rattle.rox_grammar.specs.Chars.{is_space, is_name_start, is_name_char, is_part_char}
use Rattle.rox_grammar.specs.Runs.{run_end, begins}
use Rattle.rox_grammar.specs.Written.{Name}

-- The byte at a place, or 0 from the end of the source on.
abbrev pub byte : List ℕ → ℕ → ℕ
byte src i = slice_index src i

-- The bytes from `i` up to `j`.
abbrev pub slice : List ℕ → ℕ → ℕ → List ℕ
slice src i j = slice_range src i j

-- XML 2.3 [3] S: the end of the white space that starts at `i`, which may be empty.
abbrev pub spaces_end : List ℕ → ℕ → ℕ
spaces_end src i = run_end is_space src i

-- XML 2.3 [5] Name: the longest name from `i` on, which ends at `j`.
pub record IsName (src : List ℕ) (i j : ℕ) : Type 0 where
  pub starts : begins is_name_start src i ≡ true
  pub longest : j ≡ run_end is_name_char src i

-- NS 3 [4] NCName: the longest name without a colon.
pub data IsNCName (src : List ℕ) (i : ℕ) : (j : ℕ) → Type 0 where
  ncname : begins is_name_start src i ≡ true → byte src i ≢ code ":" → IsNCName src i (run_end is_part_char src i)

-- NS 4 [7] QName, with no other colon right after it. Departure: it may start with a colon, which NS 4 forbids. The prefix is
-- empty then.
pub data IsQName (src : List ℕ) : (i : ℕ) → Name → (j : ℕ) → Type 0 where
  unprefixed : (i j : ℕ) → IsNCName src i j → byte src j ≢ code ":" → IsQName src i (record { prefix = []; local = slice src i j }) j
  prefixed : (i k j : ℕ) → IsNCName src i k → byte src k ≡ code ":" → IsNCName src (k + 1) j → byte src j ≢ code ":"
      → IsQName src i (record { prefix = slice src i k; local = slice src (k + 1) j }) j
  colon_first : (i j : ℕ) → byte src i ≡ code ":" → IsNCName src (i + 1) j → byte src j ≢ code ":" → IsQName src i (record { prefix = []; local = slice src (i + 1) j }) j
