use Rattle.std.proofs.Common.{sym}
use Rattle.rox_scopes.proofs.Ropes.{row_found, few_not}
use Rattle.rox_scopes.proofs.scope.few_places.Goals as goal

pub returns-in-Few : goal.returns-in-Few
returns-in-Few c = record { few = sym (row_found c.args.listed.now _ _ _ c.requires.scopes.rows c.requires.within c.in-Few.is).lists; many = tt }

pub returns-in_default : goal.returns-in_default
returns-in_default c = record { few = tt; many = few_not c.args.scopes.now c.args.scope c.requires.within c.in_default.not-Few }
