use Rattle.rox_theory.proofs.Bound.{is_bounded}
use Rattle.rox_theory.proofs.expansion.trees_are_bounded.Goals as goal

pub returns : goal.returns
returns c = is_bounded
