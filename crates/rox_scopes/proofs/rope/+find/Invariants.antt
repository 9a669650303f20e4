use Rattle.rox_scopes.proofs.rope.+find.Given as goal

abbrev pub decreases-find : goal.decreases-find
decreases-find l = l.scope
