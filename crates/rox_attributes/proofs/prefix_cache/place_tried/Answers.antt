use Rattle.std.proofs.Common.{arith}
use Rattle.rox_scopes.proofs.Pairs.{namespace_at-get, place_at}
use Rattle.rox_scopes.proofs.Hiding.{uri_once}
use Rattle.rox_attributes.proofs.prefix_cache.place_tried.Goals as goal

pub returns : goal.returns
returns c = grind (arith, place_at, namespace_at-get, uri_once)
