use Rattle.std.proofs.Common.{length, ◌-◌, ◌≡◌, ◌≤◌, IsCharBoundary}
use Rattle.rox_grammar.specs.Chars.{is_space}
use Rattle.rox_grammar.specs.Runs.{run_end}
use Rattle.rox_scan.proofs.cursor.space_end.Given as goal

abbrev pub invariant-loop-end : goal.invariant-loop-end
invariant-loop-end l = IsCharBoundary l.from.text.now l.end × (l.from.pos ≤ l.end) × (run_end is_space l.from.text.now l.end ≡ run_end is_space l.from.text.now l.from.pos)

abbrev pub decreases-loop-end : goal.decreases-loop-end
decreases-loop-end l = length l.from.text.now - l.end
