use Rattle.rox_exchange.proofs.MovesContent.{element_moves}
use Rattle.rox_exchange.proofs.CutsContent.{element_cut}
use Rattle.rox_exchange.proofs.laws.element_is_local.Goals as goal

pub returns-clause-moves : goal.returns-clause-moves
returns-clause-moves c = λ v src to i j b c one same is. element_moves v src to i j b c one same is

pub returns-clause-cut : goal.returns-clause-cut
returns-clause-cut c = λ src to m i j b c one same fits is. element_cut src to m same i j b c one fits is
