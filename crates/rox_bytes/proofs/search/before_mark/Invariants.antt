use Rattle.std.proofs.Common.{◌≡◌, ◌==◌, ℕ, ◌<◌, ◌≤◌, ◌-◌, length, drop, false}
use Rattle.std.specs.List.{starts_with}
use Rattle.rox_bytes.proofs.search.before_mark.Given as goal

abbrev pub invariant-loop-at : goal.invariant-loop-at
invariant-loop-at l = (l.at ≤ length l.bytes) × ((j : ℕ) → j < l.at → starts_with ◌==◌ (drop j l.bytes) l.mark ≡ false)

abbrev pub decreases-loop-at : goal.decreases-loop-at
decreases-loop-at l = length l.bytes - l.at
