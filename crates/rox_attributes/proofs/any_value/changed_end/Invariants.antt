use Rattle.std.proofs.Common.{◌-◌, length, true}
use Rattle.rox_scan.specs.Lookahead.{IsLookahead, ends_value, none_changes}
use Rattle.rox_attributes.proofs.any_value.changed_end.Given as goal

abbrev pub invariant-loop-end : goal.invariant-loop-end
invariant-loop-end l = record {
  looked : IsLookahead (ends_value l.quote l.text) none_changes l.text l.start l.end true;
}

abbrev pub decreases-loop-end : goal.decreases-loop-end
decreases-loop-end l = length l.bytes - l.end
