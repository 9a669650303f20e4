use Rattle.std.proofs.Common.{◌≡◌, drop, map}
use Rattle.rox_scopes.specs.NamespaceViews.{namespace_view}
use Rattle.rox_scopes.specs.Scopes.{entries}
use Rattle.rox_lists.specs.ExpandedNames.{first_prefix}
use Rattle.rox_lists.proofs.scopes.prefix_among.Given as goal

abbrev pub invariant-loop-place : goal.invariant-loop-place
invariant-loop-place l =
    first_prefix l.uri (entries (map namespace_view l.namespaces) (drop l.place-index l.places)) ≡ first_prefix l.uri (entries (map namespace_view l.namespaces) l.places)
