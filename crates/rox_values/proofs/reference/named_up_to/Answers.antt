use Rattle.std.proofs.Common.{arith}
use Rattle.rox_values.proofs.NamedLemmas.{after_sign, names_character}
use Rattle.rox_values.proofs.reference.named_up_to.Goals as goal

pub range-requires-clause-start_boundary : goal.range-requires-clause-start_boundary
range-requires-clause-start_boundary c = λ some. after_sign c.args.text.now c.args.at c.args.end c.utf8.text c.requires

pub returns-in-Some : goal.returns-in-Some
returns-in-Some c = grind (arith, names_character)
