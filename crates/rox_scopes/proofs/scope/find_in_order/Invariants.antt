use Rattle.std.proofs.Common.{◌≡◌, None, map, take}
use Rattle.rox_grammar.specs.Tree.{uri_of}
use Rattle.rox_scopes.specs.NamespaceViews.{namespace_view}
use Rattle.rox_scopes.specs.Scopes.{prefix_view, entries}
use Rattle.rox_scopes.proofs.scope.find_in_order.Given as goal

abbrev pub invariant-loop-index : goal.invariant-loop-index
invariant-loop-index l = uri_of (entries (map namespace_view l.namespaces) (take l.index l.places)) (prefix_view l.prefix) ≡ None
