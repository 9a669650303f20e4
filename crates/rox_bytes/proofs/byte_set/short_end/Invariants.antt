use Rattle.std.proofs.Common.{◌≤◌, ◌-◌, length}
use Rattle.rox_bytes.specs.ByteSets.{AllPass}
use Rattle.rox_bytes.proofs.byte_set.short_end.Given as goal

abbrev pub invariant-loop-end : goal.invariant-loop-end
invariant-loop-end g l = record {
  onward : l.at ≤ l.end;
  within : l.end ≤ length l.bytes;
  passes : AllPass g.C.ByteSet.test l.bytes l.at l.end;
}

abbrev pub decreases-loop-end : goal.decreases-loop-end
decreases-loop-end g l = length l.bytes - l.end
