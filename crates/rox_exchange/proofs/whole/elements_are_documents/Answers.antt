use Rattle.rox_exchange.proofs.Wholes.{whole, tree_of_text, reparse_whole, reparse_within, cut_is}
use Rattle.rox_exchange.proofs.whole.elements_are_documents.Goals as goal

pub returns-clause-parse : goal.returns-clause-parse
returns-clause-parse c = λ text tree id utf8 h is. reparse_whole text tree id utf8 (whole text tree id h is)

pub returns-clause-within : goal.returns-clause-within
returns-clause-within c = λ text tree id limit utf8 t is. reparse_within text tree id utf8 (whole text tree id (tree_of_text text limit tree t) is) limit t

pub returns-clause-cut : goal.returns-clause-cut
returns-clause-cut c = λ text tree id utf8 h is. cut_is text tree id utf8 (whole text tree id h is)
