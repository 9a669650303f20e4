use Rattle.std.proofs.Common.{arith}
use Rattle.std.proofs.lemmas.Slice.Eq.{bytes_eq-Decides}
use Rattle.rox_tags.proofs.Repeating.{one_more}
use Rattle.rox_tags.proofs.repeated_declaration.are_one_more.Goals as goal

pub returns : goal.returns
returns c = grind (arith, one_more, bytes_eq-Decides)
