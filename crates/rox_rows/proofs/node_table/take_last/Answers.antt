use Rattle.std.proofs.Common.{arith}
use Rattle.rox_rows.proofs.StoredNodes.{chain_cut}
use Rattle.rox_rows.proofs.node_table.take_last.Goals as goal

pub returns-in-Some : goal.returns-in-Some
returns-in-Some c = grind (arith, chain_cut)
