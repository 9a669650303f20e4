use Rattle.rox_exchange.proofs.Wholes.{whole, exchange_whole, utf8_exchanged}
use Rattle.rox_exchange.proofs.whole.elements_may_be_exchanged.Goals as goal

pub returns-clause-parse : goal.returns-clause-parse
returns-clause-parse c = λ text tree id other_text other at utf8 h is utf8' h' is'. exchange_whole text tree id other_text other at utf8 utf8' (whole text tree id h is) (whole other_text other at h' is')

pub returns-clause-utf8 : goal.returns-clause-utf8
returns-clause-utf8 c = λ text tree id other_text other at utf8 h is utf8' h' is'. utf8_exchanged text tree id other_text other at utf8 utf8' (whole text tree id h is) (whole other_text other at h' is')
