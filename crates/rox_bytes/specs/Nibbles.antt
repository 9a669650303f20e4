-- Classes of bytes by tables over their halves.
use Rattle.std.specs.Prelude.{ℕ, ◌/◌, List, slice_index, bit_and, cond, nat_lt}

-- The entry of `table` at the low four bits of the byte `b` if it is ASCII, and 0 if it is not.
abbrev pub at_low : List ℕ → ℕ → ℕ
at_low table b = cond (nat_lt b 128) (slice_index table (bit_and b 15)) 0

-- The entry of `table` at the high four bits of the byte `b`.
abbrev pub at_high : List ℕ → ℕ → ℕ
at_high table b = slice_index table (b / 16)

-- The bits that both entries have.
abbrev pub class_of : List ℕ → List ℕ → ℕ → ℕ
class_of low high b = bit_and (at_low low b) (at_high high b)
