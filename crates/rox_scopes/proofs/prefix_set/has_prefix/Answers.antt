use Rattle.std.proofs.Common.{sym, ◌∙◌}
use Rattle.rox_scopes.proofs.Remembering.{has_is}
use Rattle.rox_scopes.proofs.prefix_set.has_prefix.Goals as goal

pub returns : goal.returns
returns c = c.contains.ensures ∙ sym (has_is c.args.prefixes.now.keys c.args.prefix)
