use Rattle.std.proofs.Common.{arith}
use Rattle.rox_verbatim.proofs.Verbatim.{one_space, no_space}
use Rattle.rox_verbatim.proofs.quick_space.one_space_end.Goals as goal

pub returns-then-bytes-at-gt32 : goal.returns-then-bytes-at-gt32
returns-then-bytes-at-gt32 c = grind (arith, one_space)

pub returns-then-bytes-at-gt32-2 : goal.returns-then-bytes-at-gt32-2
returns-then-bytes-at-gt32-2 c = grind (arith, no_space)
