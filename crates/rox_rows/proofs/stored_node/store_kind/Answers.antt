use Rattle.std.proofs.Common.{rules, arith}
use Rattle.rox_rows.proofs.StoredNodes.{instruction-last, whole-more}
use Rattle.rox_rows.proofs.stored_node.store_kind.Goals as goal

pub returns-in_ok-push-in-PI : goal.returns-in_ok-push-in-PI
returns-in_ok-push-in-PI c = grind (arith, instruction-last, whole-more)

pub returns-in-Element : goal.returns-in-Element
returns-in-Element c =
    record { stored = rw c.in-Element.is (c.stored_element.ensures c.args.instructions.now.items c.args.last); same = search rules; more = search rules; none = search rules }
