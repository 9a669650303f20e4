use Rattle.std.proofs.Common.{◌≡◌, ◌-◌, length}
use Rattle.rox_values.proofs.SpacedLemmas.{SpacedUpTo}
use Rattle.rox_values.proofs.changed_value.put_spaces.Given as goal

abbrev pub invariant-loop-at : goal.invariant-loop-at
invariant-loop-at l = record {
  ends : l.at-end ≡ length l.initial.bytes;
  done : SpacedUpTo l.initial.bytes l.bytes l.at;
}

abbrev pub decreases-loop-at : goal.decreases-loop-at
decreases-loop-at l = l.at-end - l.at
