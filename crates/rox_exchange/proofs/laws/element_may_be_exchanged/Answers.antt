use Rattle.rox_exchange.proofs.Context.{element_whole, exchange_element}
use Rattle.rox_exchange.proofs.laws.element_may_be_exchanged.Goals as goal

pub returns-clause-whole : goal.returns-clause-whole
returns-clause-whole c = λ src s e hole i j all is with. element_whole src s e hole i j all is with

pub returns-clause-exchanged : goal.returns-clause-exchanged
returns-clause-exchanged c = λ v src own s e hole one i j all front behind is new with. exchange_element v src own s e hole one i j all front behind is new with
