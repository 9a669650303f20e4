use Rattle.rox_theory.proofs.CharItems.{parse_items}
use Rattle.rox_theory.proofs.items.items_are_chars.Goals as goal

pub returns : goal.returns
returns c = parse_items
