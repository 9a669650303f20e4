use Rattle.rox_verbatim.proofs.Verbatim.{near_named}
use Rattle.rox_verbatim.proofs.quick_name.ascii_name.Goals as goal

pub returns : goal.returns
returns c = rw c.range.ensures.value (near_named c.args.text.now c.args.start c.args.near c.utf8.text c.requires.near)
