use Rattle.std.proofs.Common.{◌≡◌, None, map, take}
use Rattle.rox_scopes.specs.NamespaceViews.{namespace_view}
use Rattle.rox_scopes.specs.PairIndex.{place_of}
use Rattle.rox_scopes.proofs.namespace_table.place_in.Given as goal

abbrev pub invariant-loop-place : goal.invariant-loop-place
invariant-loop-place l = place_of (take l.place (map namespace_view l.items)) (namespace_view l.pair) ≡ None
