-- How the result of a step relates to what is read.
use Rattle.std.specs.Prelude.{◌≡◌, ◌≤◌, ◌<◌, ℕ, Bool, true, List, length, slice_index, IsCharBoundary}
use Rattle.std.specs.List.{position_or_len}
use Rattle.rox_bytes.specs.ByteSets.{EndsSet, is_part_byte}

-- The offsets `start` and `end` are between characters, in order.
pub record AreBoundaries (text : List ℕ) (start end : ℕ) : Type 0 where
  pub ordered : start ≤ end
  pub from : IsCharBoundary text start
  pub until : IsCharBoundary text end

-- A character starts at `at`.
pub record HasCharAt (text : List ℕ) (at : ℕ) : Type 0 where
  pub cut : IsCharBoundary text at
  pub within : at < length text

-- The offset `found` is that of what is searched for from `at` on. It is between two characters, and not before `at`.
pub record Finds (text : List ℕ) (at found wanted : ℕ) : Type 0 where
  pub place : found ≡ wanted
  pub onward : at ≤ found
  pub cut : IsCharBoundary text found

-- The first byte that passes `test` is after `count` bytes. If none does, `count` is the number of all bytes.
pub record FindsByte (test : ℕ → Bool) (bytes : List ℕ) (count : ℕ) : Type 0 where
  pub value : count ≡ position_or_len test bytes
  pub within : count ≤ length bytes
  pub found : count < length bytes → test (slice_index bytes count) ≡ true

-- The ASCII bytes of a part of a name that start at `at` end at `end`.
pub record EndsNear (text : List ℕ) (at end : ℕ) : Type 0 where
  pub cut : IsCharBoundary text at
  pub near : EndsSet is_part_byte text at end
