use Rattle.std.proofs.Common.{◌+◌}
use Rattle.rox_scopes.proofs.rope.+both.Given as goal

abbrev pub decreases-both : goal.decreases-both
decreases-both l = l.first + l.rest
