use Rattle.std.proofs.Common.{◌≡◌, ◌≤◌, ◌<◌, ◌-◌, ℕ, length, get_or}
use Rattle.rox_compare.proofs.compare.same_bytes.Given as goal

abbrev pub invariant-loop-at : goal.invariant-loop-at
invariant-loop-at l = record {
  within : l.at ≤ length l.pair.one.now;
  same : (k : ℕ) → k < l.at → get_or l.pair.one.now k 0 ≡ get_or l.pair.other.now k 0;
}

abbrev pub decreases-loop-at : goal.decreases-loop-at
decreases-loop-at l = length l.pair.one.now - l.at
