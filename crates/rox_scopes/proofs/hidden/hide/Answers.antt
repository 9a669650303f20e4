use Rattle.std.proofs.Common.{arith}
use Rattle.rox_scopes.proofs.Hiding.{unlisted_none, unlisted_one}
use Rattle.rox_scopes.proofs.Ropes.{count_places}
use Rattle.rox_scopes.proofs.Sharing.{same_listed, rope_listed}
use Rattle.rox_scopes.proofs.hidden.hide.Goals as goal

pub returns-in_default : goal.returns-in_default
returns-in_default c = grind (arith, same_listed, unlisted_none)

pub without-requires : goal.without-requires
without-requires c = grind (arith, count_places)

pub returns : goal.returns
returns c = grind (arith, rope_listed, unlisted_one)
