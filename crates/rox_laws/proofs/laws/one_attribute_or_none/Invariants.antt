use Rattle.std.proofs.Common.{◌≡◌, ◌+◌, ◌≤◌}
use Rattle.roxmltree.specs.NodeParts.{attributes_of}
use Rattle.roxmltree.specs.NodeRef.{item_of}
use Rattle.roxmltree.specs.ExpandedNames.{expanded}
use Rattle.rox_laws.proofs.OnlyOne.{how_many}
use Rattle.rox_laws.proofs.laws.one_attribute_or_none.Given as goal

abbrev pub invariant-loop-attribute : goal.invariant-loop-attribute
invariant-loop-attribute l =
    (l.count + how_many (expanded l.name) l.attribute-iterator ≡ how_many (expanded l.name) (attributes_of (item_of l.fn.node)))
    × (how_many (expanded l.name) (attributes_of (item_of l.fn.node)) ≤ 1)
