use Rattle.std.proofs.Common.{◌-◌, length, IsCharBoundary}
use Rattle.rox_values.specs.DeclaredEntities.{AreMainValues}
use Rattle.rox_tags.proofs.DeferredNames.{TakesSoFar}
use Rattle.rox_tags.proofs.deferred_names.taken_end.Given as goal

abbrev pub invariant-loop-at : goal.invariant-loop-at
invariant-loop-at l = record {
  cut : IsCharBoundary l.text l.at;
  holds : TakesSoFar (AreMainValues l.context) l.fn.elements l.elements l.text l.start l.at l.buffers.taken.items;
}

abbrev pub decreases-loop-at : goal.decreases-loop-at
decreases-loop-at l = length l.text - l.at
