use Rattle.rox_theory.proofs.Pieces.{parse_made}
use Rattle.rox_theory.proofs.items.empty_texts_are_sections.Goals as goal

pub returns : goal.returns
returns c = parse_made
