use Rattle.std.proofs.Common.{◌≡◌, ℕ, ◌-◌, length}
use Rattle.rox_reading.specs.Doctype as reading
use Rattle.rox_reading.specs.Doctype.{Dtd}
use Rattle.rox_reading.specs.Answering.{left_with}
use Rattle.rox_prolog.specs.Requests.{Allows}
use Rattle.rox_prolog.specs.Asking.{IsSubsetSoFar}
use Rattle.rox_values.specs.DeclaredEntities.{AreDeclared}
use Rattle.rox_builder.specs.BuilderState.{IsConsistent, IsInState}
use Rattle.rox_prolog.proofs.dtd.subset.Given as goal

abbrev pub invariant-loop-turn : goal.invariant-loop-turn
invariant-loop-turn g l = record {
  source : l.cursor.text ≡ l.fn.cursor.text;
  fine : IsConsistent l.builder.tables l.builder.opened.items;
  reads : (limit end : ℕ) (d : Dtd) → IsInState limit end d.state l.fn.cursor l.fn.builder → AreDeclared d.entities l.fn.entities
      → IsSubsetSoFar limit end l.fn.start (length l.fn.cursor.text.now - l._turn) l.fn.cursor.text.now (Allows g.R.EntityResolver.allows l.fn.resolver)
      (λ replies. reading.subset limit l.fn.start (length l.fn.cursor.text.now) l.fn.cursor.text.now (left_with replies d)) l.cursor l.builder l.entities;
}
