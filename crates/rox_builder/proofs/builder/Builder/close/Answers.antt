use Rattle.std.proofs.Common.{arith}
use Rattle.rox_builder.proofs.Showing.{close_shows}
use Rattle.rox_builder.proofs.builder.Builder.close.Goals as goal

pub returns-in_ok-end_row : goal.returns-in_ok-end_row
returns-in_ok-end_row c = grind (arith, close_shows)
