use Rattle.std.proofs.Common.{arith}
use Rattle.std.proofs.lemmas.List.{get_or-reverse, length-reverse}
use Rattle.rox_scopes.proofs.Pairs.{place_at}
use Rattle.rox_lists.proofs.Entries.{entry_is}
use Rattle.rox_lists.proofs.ListedFirst.{first_here, first_next}
use Rattle.rox_lists.proofs.scopes.last_of.Goals as goal

pub returns-then-has_prefix : goal.returns-then-has_prefix
returns-then-has_prefix c = grind (arith, place_at, entry_is, first_here, get_or-reverse, length-reverse)

pub loop-turn-preserved : goal.loop-turn-preserved
loop-turn-preserved c = grind (arith, place_at, entry_is, first_next, get_or-reverse, length-reverse)
