use Rattle.std.proofs.Common.{arith}
use Rattle.rox_rows.proofs.StoredNodes.{whole-fill}
use Rattle.rox_rows.proofs.node_table.fill.Goals as goal

pub loop-high-preserved : goal.loop-high-preserved
loop-high-preserved c = grind (arith, whole-fill)
