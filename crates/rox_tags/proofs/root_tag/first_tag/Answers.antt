use Rattle.std.proofs.Common.{arith}
use Rattle.std.proofs.lemmas.List.{take-append-le, take_all}
use Rattle.rox_tags.proofs.root_tag.first_tag.Goals as goal

pub returns : goal.returns
returns c = grind (arith, take-append-le, take_all)
