use Rattle.std.proofs.Common.{arith, take_all}
use Rattle.rox_rows.proofs.StoredNodes.{length_nodes, whole-take, within-take}
use Rattle.rox_rows.proofs.node_table.NodeTable.truncate.Goals as goal

pub invariant_of-self : goal.invariant_of-self
invariant_of-self c = grind (arith, within-take)

pub returns : goal.returns
returns c = grind (arith, whole-take)

pub returns-then-len-count : goal.returns-then-len-count
returns-then-len-count c = grind (arith, length_nodes, take_all)
