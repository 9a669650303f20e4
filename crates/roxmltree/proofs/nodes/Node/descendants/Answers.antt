use Rattle.std.proofs.Common.{arith}
use Rattle.rox_rows.proofs.StoredNodes.{count_nodes}
use Rattle.roxmltree.proofs.Rows.{row_count}
use Rattle.roxmltree.proofs.Preorder.{place_end}
use Rattle.roxmltree.proofs.nodes.Node.descendants.Goals as goal

pub slice_bounds-rest-end : goal.slice_bounds-rest-end
slice_bounds-rest-end c = grind (arith, place_end, row_count, count_nodes)
