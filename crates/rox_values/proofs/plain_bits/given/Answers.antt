use Rattle.rox_values.proofs.StopLemmas.{inner_none}
use Rattle.rox_values.proofs.plain_bits.given.Goals as goal

pub returns-clause-none : goal.returns-clause-none
returns-clause-none c = inner_none c.args.main c.args.character c.inner_given.result c.if-main.false c.inner_given.ensures.none
