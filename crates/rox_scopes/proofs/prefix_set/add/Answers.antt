use Rattle.std.proofs.Common.{ap, ◌∙◌}
use Rattle.rox_scopes.specs.PrefixSet.{has_prefix}
use Rattle.rox_scopes.proofs.Remembering.{has_inserted}
use Rattle.rox_scopes.proofs.prefix_set.add.Goals as goal

pub returns-in-Ok : goal.returns-in-Ok
returns-in-Ok c = λ p. ap (has_prefix p) c.in-Ok.ensures.keys ∙ has_inserted c.args.prefixes.now.keys c.args.prefix p
