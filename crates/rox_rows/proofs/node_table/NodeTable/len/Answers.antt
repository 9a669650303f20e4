use Rattle.std.proofs.Common.{◌∙◌}
use Rattle.rox_rows.proofs.StoredNodes.{count_nodes}
use Rattle.rox_rows.proofs.node_table.NodeTable.len.Goals as goal

pub returns : goal.returns
returns c = record { rows = c.len.ensures; nodes = c.len.ensures ∙ count_nodes c.args.self.now }
