use Rattle.std.proofs.Common.{◌+◌, ◌≤◌, length}
use Rattle.xmldump.proofs.batch.write_batch.Given as goal

-- each text has a byte at least
abbrev pub invariant-loop-rest : goal.invariant-loop-rest
invariant-loop-rest g l = l.count + length l.rest ≤ length l.batch

abbrev pub decreases-loop-rest : goal.decreases-loop-rest
decreases-loop-rest g l = length l.rest
