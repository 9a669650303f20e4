use Rattle.std.proofs.Common.{◌≡◌, length, None}
use Rattle.rox_lists.specs.ExpandedNames.{named}
use Rattle.rox_lists.proofs.search.plain_named.Given as goal

abbrev pub invariant-loop-attribute : goal.invariant-loop-attribute
invariant-loop-attribute l = named (None, l.local) l.attributes ≡ named (None, l.local) l.fn.attributes

abbrev pub decreases-loop-attribute : goal.decreases-loop-attribute
decreases-loop-attribute l = length l.attributes
