use Rattle.std.proofs.Common.{arith}
use Rattle.std.proofs.lemmas.List.{length-map}
use Rattle.rox_scopes.proofs.Pairs.{namespace_at-get}
use Rattle.rox_scopes.proofs.Indexing.{place_here, place_on}
use Rattle.rox_scopes.proofs.namespace_table.place_in.Goals as goal

pub returns-then-is_same : goal.returns-then-is_same
returns-then-is_same c = grind (arith, length-map, namespace_at-get, place_here)

pub loop-place-preserved : goal.loop-place-preserved
loop-place-preserved c = grind (arith, length-map, namespace_at-get, place_on)
