use Rattle.std.proofs.Common.{◌≡◌, ℕ, List, length}
use Rattle.rox_reading.specs.State.{State}
use Rattle.rox_reading.specs.Machine.{drive}
use Rattle.rox_grammar.specs.Entities.{Entity}
use Rattle.rox_values.specs.DeclaredEntities.{AreDeclared}
use Rattle.rox_values.specs.Contexts.{context_of}
use Rattle.rox_builder.specs.BuilderState.{IsConsistent, IsInState}
use Rattle.rox_build.proofs.Looping.{Driving}
use Rattle.rox_build.proofs.content.content.Given as goal

abbrev pub invariant-loop-turn : goal.invariant-loop-turn
invariant-loop-turn l = record {
  source : l.cursor.text ≡ l.fn.cursor.text;
  fine : IsConsistent l.builder.tables l.builder.opened.items;
  reads : (limit end : ℕ) (es : List Entity) (s : State) → AreDeclared es l.fn.context.entities.now → IsInState limit end s l.fn.cursor l.fn.builder
      → Driving (context_of limit es l.fn.context) end l.fn.cursor.text.now (drive (context_of limit es l.fn.context) (length l.fn.cursor.text.now) l.fn.cursor.text.now s) l._turn l.cursor l.builder;
}
