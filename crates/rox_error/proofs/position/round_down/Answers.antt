use Rattle.std.proofs.Common.{◌<◌, ap, arith, inl, inr}
use Rattle.std.proofs.lemmas.Bool.{cases_eq, false≢true}
use Rattle.std.proofs.lemmas.Str.{IsCharBoundary-start}
use Rattle.rox_grammar.specs.Positions.{round_from, round_down}
use Rattle.rox_error.proofs.position.round_down.Goals as goal

some : (c : goal.In-loop-place) → 0 < c.loop-place.place
some c =
    elim (cases_eq c.loop-place.place 0) [
      | inl none ↦ absurd (false≢true (c.loop-place-test.ensures.test.1 (rw none (IsCharBoundary-start c.args.text.now c.utf8.text))))
      | inr other ↦ omega arith
    ]

pub loop-place-init : goal.loop-place-init
unfolding round_down
loop-place-init c = (omega (arith, c.min-place.ensures), ap (round_from c.args.text.now) c.min-place.ensures)

pub overflow_sub-place : goal.overflow_sub-place
overflow_sub-place c = some c

pub loop-place-smaller : goal.loop-place-smaller
loop-place-smaller c = omega (arith, some c)
