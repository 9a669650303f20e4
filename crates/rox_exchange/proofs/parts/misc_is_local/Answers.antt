use Rattle.rox_exchange.proofs.Around.{around_moves, around_cut}
use Rattle.rox_exchange.proofs.parts.misc_is_local.Goals as goal

pub returns-clause-moves : goal.returns-clause-moves
returns-clause-moves c = λ v src to i j items same is. around_moves v src to i j items same is

pub returns-clause-cut : goal.returns-clause-cut
returns-clause-cut c = λ src to m i j items same fits is. around_cut src to m same i j items fits is
