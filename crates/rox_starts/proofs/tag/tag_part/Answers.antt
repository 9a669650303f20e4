use Rattle.std.proofs.Common.{arith}
use Rattle.rox_starts.proofs.Taking.{turn_gives}
use Rattle.rox_starts.proofs.tag.tag_part.Goals as goal

pub unresolved-requires : goal.unresolved-requires
unresolved-requires c = grind (arith, turn_gives)
