use Rattle.std.proofs.Common.{[], sym}
use Rattle.rox_scopes.proofs.Ropes.{row_found}
use Rattle.rox_scopes.proofs.rope.count.Goals as goal

pub returns-in-Few : goal.returns-in-Few
returns-in-Few c = sym (row_found [] _ _ _ c.requires.rows c.requires.within c.in-Few.is).count

pub returns-in-Back : goal.returns-in-Back
returns-in-Back c = sym (row_found [] _ _ _ c.requires.rows c.requires.within c.in-Back.is).count

pub returns-in-Concat : goal.returns-in-Concat
returns-in-Concat c = sym (row_found [] _ _ _ c.requires.rows c.requires.within c.in-Concat.is).count
