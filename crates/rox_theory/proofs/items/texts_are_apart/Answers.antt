use Rattle.rox_theory.proofs.Apart.{parse_apart}
use Rattle.rox_theory.proofs.items.texts_are_apart.Goals as goal

pub returns : goal.returns
returns c = parse_apart
