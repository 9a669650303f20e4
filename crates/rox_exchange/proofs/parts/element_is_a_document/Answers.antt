use Rattle.rox_exchange.proofs.Alone.{reparse_at}
use Rattle.rox_exchange.proofs.parts.element_is_a_document.Goals as goal

pub returns : goal.returns
returns c = λ src s e openings_left one utf8 is named. reparse_at src s e openings_left one utf8 is named
