use Rattle.std.proofs.Common.{◌≡◌, ◌-◌, ℕ, length}
use Rattle.rox_reading.specs.State.{State}
use Rattle.rox_reading.specs.Refusals.{lifted}
use Rattle.rox_reading.specs.WholeText.{misc}
use Rattle.rox_builder.specs.BuilderState.{IsConsistent, IsInState}
use Rattle.rox_constructs.proofs.MiscLoop.{Going}
use Rattle.rox_constructs.proofs.misc.misc.Given as goal

abbrev pub invariant-loop-turn : goal.invariant-loop-turn
invariant-loop-turn l = record {
  source : l.cursor.text ≡ l.fn.cursor.text;
  fine : IsConsistent l.builder.tables l.builder.opened.items;
  reads : (limit end : ℕ) (s : State) → IsInState limit end s l.fn.cursor l.fn.builder
      → Going limit end l.fn.cursor.text.now (lifted (misc limit (length l.fn.cursor.text.now) l.fn.cursor.text.now s)) (length l.fn.cursor.text.now - l._turn) l.cursor l.builder;
}
