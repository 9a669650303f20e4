use Rattle.std.proofs.Common.{◌≤◌, ◌-◌, length}
use Rattle.rox_bytes.specs.ByteSets.{AllPass}
use Rattle.rox_bytes.proofs.byte_set.bytes_end_beyond.Given as goal

abbrev pub invariant-loop-block : goal.invariant-loop-block
invariant-loop-block g l = record {
  onward : l.at ≤ l.block;
  within : l.block ≤ length l.bytes;
  passes : AllPass g.C.ByteSet.test l.bytes l.at l.block;
}

abbrev pub decreases-loop-block : goal.decreases-loop-block
decreases-loop-block g l = length l.bytes - l.block
