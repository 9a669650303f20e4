use Rattle.std.proofs.Common.{◌≡◌, drop, map}
use Rattle.rox_scopes.specs.NamespaceViews.{namespace_view}
use Rattle.rox_scopes.specs.Scopes.{prefix_view, entries}
use Rattle.rox_lists.specs.ExpandedNames.{first_with_prefix}
use Rattle.rox_lists.proofs.scopes.first_of.Given as goal

abbrev pub invariant-loop-place : goal.invariant-loop-place
invariant-loop-place l =
    first_with_prefix (prefix_view l.prefix) (entries (map namespace_view l.namespaces) (drop l.place-index l.places)) ≡ first_with_prefix (prefix_view l.prefix) (entries (map namespace_view l.namespaces) l.places)
