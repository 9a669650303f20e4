use Rattle.std.proofs.Common.{arith}
use Rattle.rox_names.proofs.Declaring.{declared_at}
use Rattle.rox_names.proofs.namespace_decl.has_prefix.Goals as goal

pub returns-then-same_prefix : goal.returns-then-same_prefix
returns-then-same_prefix c = grind (arith, declared_at)
