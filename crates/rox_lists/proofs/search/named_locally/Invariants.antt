use Rattle.std.proofs.Common.{◌≡◌, length}
use Rattle.rox_lists.specs.ExpandedNames.{named_locally}
use Rattle.rox_lists.proofs.search.named_locally.Given as goal

abbrev pub invariant-loop-attribute : goal.invariant-loop-attribute
invariant-loop-attribute l = named_locally l.local l.attributes ≡ named_locally l.local l.fn.attributes

abbrev pub decreases-loop-attribute : goal.decreases-loop-attribute
decreases-loop-attribute l = length l.attributes
