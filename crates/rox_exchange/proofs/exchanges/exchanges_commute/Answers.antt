use Rattle.rox_exchange.proofs.ExchangeLaws.{commutes}
use Rattle.rox_exchange.proofs.exchanges.exchanges_commute.Goals as goal

pub returns : goal.returns
returns c = λ text tree i one_text one a j two_text two b u u_one u_two h h_one h_two is_i is_j is_a is_b apart.
    commutes text tree i one_text one a j two_text two b u u_one u_two h h_one h_two is_i is_j is_a is_b apart
