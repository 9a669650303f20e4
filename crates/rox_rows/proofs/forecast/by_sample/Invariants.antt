use Rattle.std.specs.Bool.{⊤}
use Rattle.std.proofs.Common.{length}
use Rattle.rox_rows.proofs.forecast.by_sample.Given as goal

abbrev pub invariant-loop-rest : goal.invariant-loop-rest
invariant-loop-rest l = ⊤

abbrev pub decreases-loop-rest : goal.decreases-loop-rest
decreases-loop-rest l = length l.rest
