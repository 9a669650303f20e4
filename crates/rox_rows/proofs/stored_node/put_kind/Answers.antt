use Rattle.std.proofs.Common.{arith}
use Rattle.rox_rows.proofs.StoredNodes.{instruction-last, whole-more}
use Rattle.rox_rows.proofs.stored_node.put_kind.Goals as goal

pub returns : goal.returns
returns c = grind (arith, instruction-last, whole-more)
