use Rattle.std.proofs.Common.{arith}
use Rattle.rox_compare.proofs.Words.{ends_tell}
use Rattle.rox_lists.proofs.names.same_short_uris.Goals as goal

pub returns-then-same_front : goal.returns-then-same_front
returns-then-same_front c = grind (arith, ends_tell)
