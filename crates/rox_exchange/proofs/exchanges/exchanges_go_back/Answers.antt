use Rattle.rox_exchange.proofs.ExchangeLaws.{goes_back}
use Rattle.rox_exchange.proofs.exchanges.exchanges_go_back.Goals as goal

pub returns : goal.returns
returns c = λ text tree id other_text other at utf8 utf8' h h' is is'. goes_back text tree id other_text other at utf8 utf8' h h' is is'
