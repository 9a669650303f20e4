use Rattle.std.proofs.Common.{◌≡◌, length}
use Rattle.rox_measures.proofs.turns.measure.Given as goal

abbrev pub invariant-loop-done : goal.invariant-loop-done
invariant-loop-done g l = length l.times.items ≡ l.done
