use Rattle.std.proofs.Common.{◌≡◌, ◌+◌, ◌^◌, ◌<◌, max, map, fold}
use Rattle.roxmltree.specs.NodeRef.{id_of}
use Rattle.rox_uses.specs.Levels.{levels_of}
use Rattle.rox_uses.specs.Nodes.{children_of}
use Rattle.roxmltree.specs.LaterNodes.{nodes_left_from}
use Rattle.rox_uses.proofs.walks.+levels.Given as goal

-- `below` is the most levels of the children so far. They are fewer than the nodes from the parent on, and than the ids after its own.
abbrev pub invariant-loop-child : goal.invariant-loop-child
invariant-loop-child l = record {
  most : fold max l.below (map levels_of l.child-iterator) ≡ fold max 0 (map levels_of (children_of l.fn.node));
  few : l.below < nodes_left_from l.fn.node;
  ids : id_of l.fn.node + l.below < 2 ^ 32;
}

-- The number of nodes from the node on, in document order.
abbrev pub decreases-levels : goal.decreases-levels
decreases-levels l = nodes_left_from l.node
