use Rattle.std.proofs.Common.{◌≡◌, ℕ, ◌+◌, ◌-◌, ◌<◌, length, vec_len}
use Rattle.rox_reading.specs.State.{State}
use Rattle.rox_reading.specs.Machine.{Context}
use Rattle.rox_values.specs.Contexts.{IsContextOf}
use Rattle.rox_builder.specs.BuilderState.{IsConsistent, IsInState, IsReadyTo}
use Rattle.rox_sections.specs.PlainOutcomes.{StandsApart}
use Rattle.rox_sections.specs.PlainSteps.{Reads}
use Rattle.rox_content.proofs.quick_content.quick_constructs.Given as goal

abbrev pub invariant-loop-builder : goal.invariant-loop-builder
invariant-loop-builder l = record {
  source : l.here.text ≡ l.fn.cursor.text;
  fine : IsConsistent l.builder.tables l.builder.opened.items;
  ready : vec_len l.builder.nodes.rows + 1 < l.most → IsReadyTo l.most l.builder;
  apart : StandsApart l.here l.builder;
  reads : (context : Context) (end : ℕ) (s : State) → IsContextOf l.fn.context context → IsInState context.limit end s l.fn.cursor l.fn.builder → (n : ℕ) × Reads context end n l.here l.builder l.fn.cursor.text.now s;
}

abbrev pub decreases-loop-builder : goal.decreases-loop-builder
decreases-loop-builder l = length l.fn.cursor.text.now - l.here.pos
