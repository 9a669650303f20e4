use Rattle.std.proofs.Common.{inl, ap}
use Rattle.rox_error.specs.declared.error.Error.TheVariants as error
use Rattle.rox_error.proofs.from_fault.close_tag_error.Goals as goal

pub returns : goal.returns
returns c =
    let one = c.in-Ok.expected in
    let other = c.in-Ok-named.actual in
    inl (one, other, c.in-Ok.ensures, c.in-Ok-named.ensures, ap (error.UnexpectedCloseTag one other) c.pos.ensures)
