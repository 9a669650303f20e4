use Rattle.rox_theory.proofs.Longest.{parse_short}
use Rattle.rox_theory.proofs.expansion.replacement_texts_are_short.Goals as goal

pub returns : goal.returns
returns c = parse_short
