use Rattle.rox_exchange.proofs.MovesContent.{content_moves}
use Rattle.rox_exchange.proofs.CutsContent.{content_cut}
use Rattle.rox_exchange.proofs.laws.content_is_local.Goals as goal

pub returns-clause-moves : goal.returns-clause-moves
returns-clause-moves c = λ v src to i j b c items same is. content_moves v src to i j b c items same is

pub returns-clause-cut : goal.returns-clause-cut
returns-clause-cut c = λ src to m i j b c items same fits is. content_cut src to m same i j b c items fits is
