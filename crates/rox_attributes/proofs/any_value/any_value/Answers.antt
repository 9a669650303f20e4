use Rattle.std.proofs.Common.{arith, eqb-true}
use Rattle.rox_scan.proofs.LongerLemmas.{looked_value}
use Rattle.rox_verbatim.proofs.Verbatim.{value_is}
use Rattle.rox_attributes.proofs.SpacedEnds.{value_spaced}
use Rattle.rox_attributes.proofs.any_value.any_value.Goals as goal

pub returns-then-ends-end : goal.returns-then-ends-end
returns-then-ends-end c = grind (arith, looked_value, value_is)

pub returns : goal.returns
returns c = grind (arith, looked_value, eqb-true, value_spaced)
