use Rattle.std.proofs.Common.{arith}
use Rattle.rox_rows.proofs.StoredNodes.{high-there, high-none}
use Rattle.rox_rows.proofs.node_table.high_places_at.Goals as goal

pub returns-then-index-high : goal.returns-then-index-high
returns-then-index-high c = high-there c.args.high.now c.args.index _ c.if-index-high.true

pub returns : goal.returns
returns c = high-none c.args.high.now c.args.index (omega arith)
