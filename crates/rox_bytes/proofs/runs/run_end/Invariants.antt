use Rattle.std.proofs.Common.{length, ◌-◌, ◌≡◌, ◌≤◌, IsCharBoundary}
use Rattle.rox_grammar.specs.Runs.{run_end}
use Rattle.rox_bytes.proofs.runs.run_end.Given as goal

abbrev pub invariant-loop-i : goal.invariant-loop-i
invariant-loop-i g l = IsCharBoundary l.text l.i × (l.at ≤ l.i) × (run_end g.C.Class.test l.text l.i ≡ run_end g.C.Class.test l.text l.at)

abbrev pub decreases-loop-i : goal.decreases-loop-i
decreases-loop-i g l = length l.text - l.i
