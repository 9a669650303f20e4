use Rattle.std.proofs.Common.{◌≡◌, ◌≤◌, ◌-◌, List}
use Rattle.rox_rows.specs.StoredNodes.{whole_rows}
use Rattle.rox_rows.specs.declared.row.PI.{PI}
use Rattle.rox_rows.specs.declared.stored_node.StoredNode.{StoredNode}
use Rattle.rox_rows.proofs.node_table.fill.Given as goal

-- the rows stay as they are
abbrev pub invariant-loop-high : goal.invariant-loop-high
invariant-loop-high l =
    (l.high.len ≤ l.count) × ((pis : List PI) (rows : List StoredNode) → whole_rows pis l.high.items rows ≡ whole_rows pis l.fn.high.items rows)

abbrev pub decreases-loop-high : goal.decreases-loop-high
decreases-loop-high l = l.count - l.high.len
