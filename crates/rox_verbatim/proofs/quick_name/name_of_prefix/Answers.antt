use Rattle.rox_verbatim.proofs.Verbatim.{prefix_ends}
use Rattle.std.proofs.Common.{arith}
use Rattle.rox_verbatim.proofs.quick_name.name_of_prefix.Goals as goal

pub name_of_parts-requires : goal.name_of_parts-requires
name_of_parts-requires c = grind (arith, prefix_ends)
