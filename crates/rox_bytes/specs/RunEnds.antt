-- The end of a run of bytes of a set, and what was seen of the bytes behind it.
use Rattle.std.specs.Prelude.{ℕ, ◌<◌, Bool, List}
use Rattle.rox_bytes.specs.ByteSets.{StopsSet}
use Rattle.rox_bytes.specs.Windows.{IsSeen}
use Rattle.rox_bytes.specs.declared.byte_set.RunEnd.{RunEnd}

-- The bytes from `i` up to `e.at` pass `p`, and there is a byte at `e.at`, which does not. If `e.others` is not 0, it is the mask of
-- the sixteen bytes from `i` on.
pub record EndsRun (p : ℕ → Bool) (src : List ℕ) (i : ℕ) (e : RunEnd) : Type 0 where
  pub stops : StopsSet p src i e.at
  pub seen : 0 < e.others → IsSeen p src i e.others
