use Rattle.std.proofs.Common.{◌≡◌, drop, map, reverse}
use Rattle.rox_scopes.specs.NamespaceViews.{namespace_view}
use Rattle.rox_scopes.specs.Scopes.{prefix_view, entries}
use Rattle.rox_lists.specs.ExpandedNames.{first_with_prefix}
use Rattle.rox_lists.proofs.scopes.last_of.Given as goal

abbrev pub invariant-loop-turn : goal.invariant-loop-turn
invariant-loop-turn l =
    first_with_prefix (prefix_view l.prefix) (entries (map namespace_view l.namespaces) (drop l.turn (reverse l.places))) ≡ first_with_prefix (prefix_view l.prefix) (entries (map namespace_view l.namespaces) (reverse l.places))
