use Rattle.rox_exchange.proofs.ExchangeLaws.{stays_contained}
use Rattle.rox_exchange.proofs.exchanges.elements_stay_contained.Goals as goal

pub returns : goal.returns
returns c = λ tree id other at is is'. stays_contained tree id other at is is'
