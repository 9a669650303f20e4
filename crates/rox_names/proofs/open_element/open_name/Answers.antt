use Rattle.std.proofs.Common.{arith}
use Rattle.std.proofs.lemmas.List.{take_rest}
use Rattle.rox_names.proofs.SpelledNames.{spelled_parts, spelled_whole}
use Rattle.rox_names.proofs.open_element.open_name.Goals as goal

pub returns-then-before-bytes : goal.returns-then-before-bytes
returns-then-before-bytes c = grind (arith, take_rest, spelled_parts)

pub returns : goal.returns
returns c = grind (arith, spelled_whole)
