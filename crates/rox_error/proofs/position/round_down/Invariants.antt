use Rattle.std.proofs.Common.{◌≡◌, ◌≤◌, length}
use Rattle.rox_grammar.specs.Positions.{round_from, round_down}
use Rattle.rox_error.proofs.position.round_down.Given as goal

abbrev pub invariant-loop-place : goal.invariant-loop-place
invariant-loop-place l = (l.place ≤ length l.text) × (round_from l.text l.place ≡ round_down l.text l.at)

abbrev pub decreases-loop-place : goal.decreases-loop-place
decreases-loop-place l = l.place
