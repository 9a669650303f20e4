use Rattle.std.proofs.Common.{arith}
use Rattle.rox_builder.proofs.Showing.{close_shows}
use Rattle.rox_builder.proofs.builder.Builder.put_close.Goals as goal

pub returns-in-Some : goal.returns-in-Some
returns-in-Some c = grind (arith, close_shows)
