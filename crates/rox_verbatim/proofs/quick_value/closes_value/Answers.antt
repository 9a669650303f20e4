use Rattle.rox_verbatim.proofs.Verbatim.{value_closed}
use Rattle.rox_verbatim.proofs.quick_value.closes_value.Goals as goal

pub returns : goal.returns
returns c = λ yes.
    let n = c.requires.sees.near in
    value_closed c.args.text.now c.args.start c.args.near c.args.quote c.utf8.text c.requires.sees.cut c.requires.sees.quote n.onward n.within n.passes (rw c.as_bytes.ensures.value at yes)
