use Rattle.rox_verbatim.proofs.Verbatim.{near_local}
use Rattle.rox_verbatim.proofs.quick_name.local_end.Goals as goal

pub returns-then-is_local_part : goal.returns-then-is_local_part
returns-then-is_local_part c = near_local c.args.text.now c.args.local c.args.near c.utf8.text c.requires.cut (c.is_local_part.ensures c.if-is_local_part.true)
