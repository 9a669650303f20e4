use Rattle.std.proofs.Common.{◌≡◌, None, map, take}
use Rattle.rox_grammar.specs.Tree.{uri_of}
use Rattle.rox_scopes.specs.NamespaceViews.{namespace_view}
use Rattle.rox_scopes.specs.Scopes.{prefix_view, entries, places_in}
use Rattle.rox_scopes.proofs.hidden.index_of.Given as goal

abbrev pub invariant-loop-index : goal.invariant-loop-index
invariant-loop-index l = uri_of (entries (map namespace_view l.tables.namespaces.now) (take l.index (places_in l.tables.listed.now l.scopes l.scope))) (prefix_view l.prefix) ≡ None
