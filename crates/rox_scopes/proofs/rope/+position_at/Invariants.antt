use Rattle.rox_scopes.proofs.rope.+position_at.Given as goal

abbrev pub decreases-position_at : goal.decreases-position_at
decreases-position_at l = l.scope
