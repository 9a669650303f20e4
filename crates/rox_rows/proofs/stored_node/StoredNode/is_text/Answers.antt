use Rattle.rox_rows.proofs.StoredNodes.{other_text}
use Rattle.rox_rows.proofs.stored_node.StoredNode.is_text.Goals as goal

pub returns-in_default : goal.returns-in_default
returns-in_default c = λ pis. other_text pis c.args.self.now.kind c.in_default.not-Text
