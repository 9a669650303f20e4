use Rattle.std.proofs.Common.{◌*◌, ◌+◌, max}
use Rattle.rox_lists.proofs.scopes.+scope.Given as goal

abbrev pub decreases-first_in_scope : goal.decreases-first_in_scope
decreases-first_in_scope l = 2 * l.scope

abbrev pub decreases-first_in_parts : goal.decreases-first_in_parts
decreases-first_in_parts l = 2 * max l.parts.first l.parts.rest + 1
