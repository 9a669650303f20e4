use Rattle.rox_theory.proofs.Apart.{parse_has}
use Rattle.rox_theory.proofs.items.documents_have_an_element.Goals as goal

pub returns : goal.returns
returns c = parse_has
