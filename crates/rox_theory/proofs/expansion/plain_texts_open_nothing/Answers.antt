use Rattle.rox_theory.proofs.Without.{parse_without, parse_with}
use Rattle.rox_theory.proofs.expansion.plain_texts_open_nothing.Goals as goal

pub returns : goal.returns
returns c = record { opens_nothing = parse_without; is_parse = parse_with }
