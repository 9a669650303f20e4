use Rattle.rox_exchange.proofs.Found.{element_found}
use Rattle.rox_exchange.proofs.parts.element_is_found.Goals as goal

pub returns : goal.returns
returns c = λ src i j b c all s e t kids is stands. element_found src s e t kids i j b c all is stands
