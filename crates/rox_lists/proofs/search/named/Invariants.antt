use Rattle.std.proofs.Common.{◌≡◌, length}
use Rattle.rox_lists.specs.ExpandedNames.{expanded, named}
use Rattle.rox_lists.proofs.search.named.Given as goal

abbrev pub invariant-loop-attribute : goal.invariant-loop-attribute
invariant-loop-attribute l = named (expanded l.name) l.attributes ≡ named (expanded l.name) l.fn.attributes

abbrev pub decreases-loop-attribute : goal.decreases-loop-attribute
decreases-loop-attribute l = length l.attributes
