use Rattle.std.proofs.Common.{arith}
use Rattle.rox_values.proofs.EntityValues.{entity_is}
use Rattle.rox_values.proofs.entity_value.entity_value.Goals as goal

pub returns : goal.returns
returns c = λ values is openings_left.
    let named = c.in-Ok.named in
    entity_is c.args.context.now values is c.args.text.now c.args.start c.args.stop openings_left named c.requires.before c.requires.here.here (omega (arith, c.if-context-eq0.false)) (rw c.if-after-stop.false at (c.in-Ok.ensures.value is.entities is.declared)) (λ k low high. c.skip_set.ensures.passes k low (omega (arith, high, c.if-skip_set-named.false)))
