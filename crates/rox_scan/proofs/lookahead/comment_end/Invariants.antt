use Rattle.std.proofs.Common.{◌-◌, true, length}
use Rattle.rox_scan.specs.Lookahead.{IsLookahead, ends_comment, none_changes}
use Rattle.rox_scan.proofs.lookahead.comment_end.Given as goal

abbrev pub invariant-loop-end : goal.invariant-loop-end
invariant-loop-end l = record {
  looked : IsLookahead (ends_comment l.text) none_changes l.text l.fn.from.pos l.end true;
}

abbrev pub decreases-loop-end : goal.decreases-loop-end
decreases-loop-end l = length l.bytes - l.end
