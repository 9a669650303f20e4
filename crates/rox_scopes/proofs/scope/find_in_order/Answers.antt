use Rattle.std.proofs.Common.{arith}
use Rattle.rox_scopes.proofs.Pairs.{namespace_at-get, place_at, uri_here, uri_none_more}
use Rattle.rox_scopes.proofs.scope.find_in_order.Goals as goal

pub returns-then-same_prefix : goal.returns-then-same_prefix
returns-then-same_prefix c = grind (arith, place_at, namespace_at-get, uri_here)

pub loop-index-preserved : goal.loop-index-preserved
loop-index-preserved c = grind (arith, place_at, namespace_at-get, uri_none_more)
