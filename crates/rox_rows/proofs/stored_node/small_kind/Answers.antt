use Rattle.rox_rows.proofs.stored_node.small_kind.Goals as goal

pub returns-in-Element : goal.returns-in-Element
returns-in-Element c = λ pis. rw c.in-Element.is (c.stored_element.ensures pis c.args.last)
