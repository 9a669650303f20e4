-- The context of a text, as the code holds it and as reading states it.
use Rattle.std.specs.Prelude.{◌≡◌, ℕ, List}
use Rattle.rox_grammar.specs.Entities.{Entity}
use Rattle.rox_reading.specs.Machine as machine
use Rattle.rox_reading.specs.Machine.{opener}
use Rattle.rox_values.specs.DeclaredEntities.{AreDeclared, values_in}
use Rattle.rox_values.specs.declared.context.Context.{Context}

abbrev pub context_of : ℕ → List Entity → Context → machine.Context
context_of limit es context = record { limit = limit; values = values_in es context; open_around = context.open_around; opener = opener limit es context.depth_left context.main }

-- The machine reads a text as in the context `x`.
pub record IsContextOf (x : Context) (m : machine.Context) : Type 0 where
  pub limit : ℕ
  pub entities : List Entity
  pub declared : AreDeclared entities x.entities.now
  pub is : m ≡ context_of limit entities x
