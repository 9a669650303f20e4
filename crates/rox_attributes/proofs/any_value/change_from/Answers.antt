use Rattle.std.proofs.Common.{arith}
use Rattle.rox_attributes.proofs.SpacedEnds.{special_stops}
use Rattle.rox_attributes.proofs.any_value.change_from.Goals as goal

pub returns-then-changes : goal.returns-then-changes
returns-then-changes c = grind (arith, special_stops)
