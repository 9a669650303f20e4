use Rattle.std.proofs.Common.{arith}
use Rattle.std.proofs.lemmas.Slice.Eq.{bytes_eq-Decides}
use Rattle.rox_names.proofs.SpelledNames.{front_is_prefix}
use Rattle.rox_names.proofs.open_element.has_prefix.Goals as goal

pub returns : goal.returns
returns c = grind (arith, bytes_eq-Decides, front_is_prefix)
