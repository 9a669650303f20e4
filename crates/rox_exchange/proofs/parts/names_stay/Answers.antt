use Rattle.rox_exchange.proofs.Named.{named_exchanged}
use Rattle.rox_exchange.proofs.parts.names_stay.Goals as goal

pub returns : goal.returns
returns c = λ v one all s new within is. named_exchanged v one s new all within is
