use Rattle.std.proofs.Common.{arith}
use Rattle.rox_verbatim.proofs.Verbatim.{one_space}
use Rattle.rox_tags.proofs.quick_tag.next_item.Goals as goal

pub returns-then-bytes-at-gt62 : goal.returns-then-bytes-at-gt62
returns-then-bytes-at-gt62 c = grind (arith, one_space)
