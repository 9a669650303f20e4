-- Where no entity is declared nothing is opened, however replacement texts are read.
use Rattle.std.proofs.Common.{ℕ, [], arith}
use Rattle.std.specs.Prelude.{Result}
use Rattle.rox_grammar.specs.Entities.{Replacement, no_entities}
use Rattle.rox_reading.specs.Refusals.{Refusal}
use Rattle.rox_reading.specs.State.{State}
use Rattle.rox_reading.specs.Values.{ValueInclusion}
use Rattle.rox_theory.specs.Openers.{AgreesValue, AgreesContent}

-- In a value.
pub no_values : (opener : ValueInclusion) → AgreesValue [] no_entities opener
no_values opener = grind arith

-- And in content.
pub no_contents : (limit : ℕ) (opener : Replacement → ℕ → State → Result State Refusal) → AgreesContent [] limit no_entities opener
no_contents limit opener = grind arith
