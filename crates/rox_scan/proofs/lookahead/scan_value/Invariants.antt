use Rattle.std.proofs.Common.{◌-◌, length}
use Rattle.rox_reading.specs.Values.{is_special}
use Rattle.rox_scan.specs.Lookahead.{IsLookahead, ends_value}
use Rattle.rox_scan.proofs.lookahead.scan_value.Given as goal

abbrev pub invariant-loop-end : goal.invariant-loop-end
invariant-loop-end l = record {
  looked : IsLookahead (ends_value l.quote.byte l.text) is_special l.text l.fn.from.pos l.end l.is_verbatim;
}

abbrev pub decreases-loop-end : goal.decreases-loop-end
decreases-loop-end l = length l.bytes - l.end
