use Rattle.rox_scopes.proofs.Sharing.{Turned}
use Rattle.rox_scopes.proofs.hidden.add_back.Given as goal

abbrev pub invariant-loop-turn : goal.invariant-loop-turn
invariant-loop-turn l = Turned l.fn.listed.items l.from l.turn l.end l.listed.items
