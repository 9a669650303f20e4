use Rattle.std.proofs.Common.{◌<◌, ◌^◌}
use Rattle.rox_rows.proofs.node_table.free_texts.Given as goal

abbrev pub invariant-loop-number : goal.invariant-loop-number
invariant-loop-number l = l.number < 2 ^ 32

abbrev pub decreases-loop-number : goal.decreases-loop-number
decreases-loop-number l = l.number
