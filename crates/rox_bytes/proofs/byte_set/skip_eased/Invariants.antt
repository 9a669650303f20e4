use Rattle.std.proofs.Common.{◌≡◌, ◌≤◌, ◌<◌, ◌-◌, ℕ, true, length}
use Rattle.rox_bytes.specs.ByteSets.{passes_eased}
use Rattle.rox_bytes.proofs.byte_set.skip_eased.Given as goal

abbrev pub invariant-loop-block : goal.invariant-loop-block
invariant-loop-block g l = record {
  onward : l.at ≤ l.block;
  within : l.block ≤ length l.text;
  passes : (k : ℕ) → l.at ≤ k → k < l.block → passes_eased g.C.ByteSet.test l.text k ≡ true;
}

abbrev pub decreases-loop-block : goal.decreases-loop-block
decreases-loop-block g l = length l.text - l.block
