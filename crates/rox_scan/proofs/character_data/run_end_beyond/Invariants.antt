use Rattle.std.proofs.Common.{◌-◌, true, length}
use Rattle.rox_scan.specs.Lookahead.{IsLookahead, ends_run, changes_run}
use Rattle.rox_scan.proofs.character_data.run_end_beyond.Given as goal

abbrev pub invariant-loop-end : goal.invariant-loop-end
invariant-loop-end l = record {
  looked : IsLookahead (ends_run l.text) changes_run l.text l.fn.from.pos l.end true;
}

abbrev pub decreases-loop-end : goal.decreases-loop-end
decreases-loop-end l = length l.bytes - l.end
