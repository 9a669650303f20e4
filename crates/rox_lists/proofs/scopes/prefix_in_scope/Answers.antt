use Rattle.std.proofs.Common.{arith}
use Rattle.rox_scopes.proofs.Ropes.{row_found}
use Rattle.rox_lists.proofs.scopes.prefix_in_scope.Goals as goal

pub returns-in-Few : goal.returns-in-Few
returns-in-Few c = grind (arith, row_found)
