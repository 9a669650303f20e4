use Rattle.rox_scopes.proofs.rope.+without.Given as goal

abbrev pub decreases-without : goal.decreases-without
decreases-without l = l.scope
