use Rattle.std.proofs.Common.{◌≡◌, ◌≤◌, take, count_by}
use Rattle.rox_error.proofs.counting.count_in_block.Given as goal

abbrev pub invariant-loop-byte : goal.invariant-loop-byte
invariant-loop-byte g l = (l.count ≤ l.byte-index) × (l.count ≡ count_by g.C.Counted.test (take l.byte-index l.block))
