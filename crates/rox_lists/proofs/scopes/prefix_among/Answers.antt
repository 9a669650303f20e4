use Rattle.std.proofs.Common.{arith}
use Rattle.rox_scopes.proofs.Pairs.{place_at}
use Rattle.rox_lists.proofs.Entries.{entry_is}
use Rattle.rox_lists.proofs.PrefixFirst.{prefix_here, prefix_next}
use Rattle.rox_lists.proofs.scopes.prefix_among.Goals as goal

pub returns-then-equal_uris : goal.returns-then-equal_uris
returns-then-equal_uris c = grind (arith, place_at, entry_is, prefix_here)

pub loop-place-preserved : goal.loop-place-preserved
loop-place-preserved c = grind (arith, place_at, entry_is, prefix_next)
