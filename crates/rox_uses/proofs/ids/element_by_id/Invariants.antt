use Rattle.std.proofs.Common.{◌≡◌, find}
use Rattle.rox_uses.specs.Ids.{has_id}
use Rattle.rox_uses.specs.Nodes.{nodes_of}
use Rattle.rox_uses.proofs.ids.element_by_id.Given as goal

-- The first node with the id among those that are left is the first among all nodes.
abbrev pub invariant-loop-node : goal.invariant-loop-node
invariant-loop-node l = find (has_id l.id) l.node-iterator ≡ find (has_id l.id) (nodes_of l.document)
