use Rattle.rox_exchange.proofs.Put.{exchanged_whole}
use Rattle.rox_exchange.proofs.parts.element_is_exchanged.Goals as goal

pub returns : goal.returns
returns c = λ src other s e a z i j hole one all utf8 utf8' is new holds. exchanged_whole src other s e a z utf8 utf8' hole one is new i j all holds
