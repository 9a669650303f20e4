use Rattle.std.proofs.Common.{◌-◌, List, map, length, drop}
use Rattle.rox_grammar.specs.Written.{NamespaceDecl}
use Rattle.rox_scopes.specs.NamespaceViews.{namespace_view}
use Rattle.rox_scopes.specs.Scopes.{entries, places_in}
use Rattle.rox_scopes.specs.Bindings.{bound_place, IsBound, AreBindingsOf}
use Rattle.rox_scopes.proofs.bindings.PrefixBindings.make_innermost.Given as goal

abbrev pub invariant-loop-turn : goal.invariant-loop-turn
invariant-loop-turn l = record {
  bound : IsBound (map namespace_view l.namespaces) (bound_place l.self) (entries (map namespace_view l.namespaces) (drop (length (places_in l.listed l.scopes l.scope) - l.turn) (places_in l.listed l.scopes l.scope)));
  keeps : (namespaces : List NamespaceDecl) (lists : List (List NamespaceDecl)) → AreBindingsOf namespaces lists l.self;
}
