use Rattle.std.proofs.Common.{◌-◌, map, length, IsCharBoundary}
use Rattle.rox_path.specs.Steps.{step_of}
use Rattle.rox_path.proofs.PathLemmas.{Read}
use Rattle.rox_path.proofs.parse.parse_path.Given as goal

abbrev pub invariant-loop-at : goal.invariant-loop-at
invariant-loop-at l = record {
  read : Read l.text l.at (map step_of l.steps.items);
  cut : IsCharBoundary l.text l.at;
}

abbrev pub decreases-loop-at : goal.decreases-loop-at
decreases-loop-at l = length l.text - l.at
