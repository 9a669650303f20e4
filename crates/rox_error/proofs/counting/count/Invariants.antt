use Rattle.std.proofs.Common.{◌≡◌, ◌+◌, ◌≤◌, length, count_by}
use Rattle.rox_error.proofs.counting.count.Given as goal

abbrev pub invariant-loop-rest : goal.invariant-loop-rest
invariant-loop-rest g l =
    record {
      within : l.total + length l.rest ≤ length l.bytes;
      counted : l.total + count_by g.C.Counted.test l.rest ≡ count_by g.C.Counted.test l.bytes;
    }

abbrev pub decreases-loop-rest : goal.decreases-loop-rest
decreases-loop-rest g l = length l.rest
