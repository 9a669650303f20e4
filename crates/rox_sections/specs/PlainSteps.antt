-- Constructs that are read one after another.
use Rattle.std.specs.Prelude.{◌≡◌, ◌<◌, ℕ, zero, suc, false, List, Ok, length}
use Rattle.rox_grammar.specs.State.{is_root}
use Rattle.rox_reading.specs.State.{State}
use Rattle.rox_reading.specs.Machine.{Context, step}
use Rattle.rox_scan.specs.declared.cursor.Cursor.{Cursor}
use Rattle.rox_builder.specs.BuilderState.{IsInState}
use Rattle.rox_builder.specs.declared.builder.Builder.{Builder}

-- A number of steps leads from one state to another, each from an offset inside the root element and before the end.
pub data Steps (context : Context) (src : List ℕ) : ℕ → State → State → Type 0 where
  no_step : (s : State) → Steps context src zero s s
  one_more : (n : ℕ) (s t u : State) → is_root s.stack ≡ false → s.at < length src → step context src s ≡ Ok t → Steps context src n t u
      → Steps context src (suc n) s u

-- `n` steps were read from the state `s`.
pub record Reads (context : Context) (end n : ℕ) (c : Cursor) (b : Builder) (src : List ℕ) (s : State) : Type 0 where
  pub behind : State
  pub steps : Steps context src n s behind
  pub sees : IsInState context.limit end behind c b
