use Rattle.rox_scopes.proofs.rope.+low.Given as goal

abbrev pub decreases-low : goal.decreases-low
decreases-low l = l.scope
