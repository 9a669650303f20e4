use Rattle.std.proofs.Common.{arith}
use Rattle.rox_scopes.proofs.Remembering.{remembered}
use Rattle.rox_scopes.proofs.scope.is_own.Goals as goal

pub returns-then-own-gt-FEW : goal.returns-then-own-gt-FEW
returns-then-own-gt-FEW c = grind (arith, remembered)
