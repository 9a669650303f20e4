use Rattle.rox_scopes.proofs.Inherits.{Inherited}
use Rattle.rox_scopes.proofs.scope.inherit.Given as goal

abbrev pub invariant-loop-turn : goal.invariant-loop-turn
invariant-loop-turn l = Inherited l.namespaces l.fn.listed.items l.own.from l.own.xml l.fn.above.from l.turn l.end l.listed.items
