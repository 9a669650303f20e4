use Rattle.std.proofs.Common.{arith}
use Rattle.rox_scopes.proofs.Pairs.{place_at}
use Rattle.rox_lists.proofs.Entries.{entry_is}
use Rattle.rox_lists.proofs.ListedFirst.{first_here, first_next}
use Rattle.rox_lists.proofs.scopes.first_of.Goals as goal

pub returns-then-has_prefix : goal.returns-then-has_prefix
returns-then-has_prefix c = grind (arith, place_at, entry_is, first_here)

pub loop-place-preserved : goal.loop-place-preserved
loop-place-preserved c = grind (arith, place_at, entry_is, first_next)
