use Rattle.std.proofs.Common.{◌≤◌, ◌-◌, length, IsCharBoundary}
use Rattle.rox_grammar.specs.Constructs.{AreChars}
use Rattle.rox_scan.proofs.lookahead.chars_end.Given as goal

abbrev pub invariant-loop-end : goal.invariant-loop-end
invariant-loop-end l = record {
  onward : l.fn.from.pos ≤ l.end;
  cut : IsCharBoundary l.text l.end;
  chars : AreChars l.text l.fn.from.pos l.end;
}

abbrev pub decreases-loop-end : goal.decreases-loop-end
decreases-loop-end l = length l.bytes - l.end
