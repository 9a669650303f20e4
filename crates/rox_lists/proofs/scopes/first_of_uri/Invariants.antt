use Rattle.std.proofs.Common.{◌≡◌, map}
use Rattle.rox_scopes.specs.NamespaceViews.{namespace_view}
use Rattle.rox_scopes.specs.Scopes.{entries, places_in}
use Rattle.rox_lists.specs.ExpandedNames.{first_prefix}
use Rattle.rox_lists.proofs.scopes.first_of_uri.Given as goal

abbrev pub invariant-loop-namespace : goal.invariant-loop-namespace
invariant-loop-namespace l =
    first_prefix l.uri l.namespace-iterator ≡ first_prefix l.uri (entries (map namespace_view l.fn.namespaces) (places_in l.fn.listed l.fn.scopes l.fn.scope))
