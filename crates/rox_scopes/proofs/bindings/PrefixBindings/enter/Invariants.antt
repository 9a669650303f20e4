use Rattle.std.proofs.Common.{◌++◌, ◌&&◌, not, filter, List, map, reverse, slice_range}
use Rattle.rox_grammar.specs.Written.{NamespaceDecl}
use Rattle.rox_grammar.specs.Tree.{is_xml}
use Rattle.rox_scopes.specs.NamespaceViews.{namespace_view}
use Rattle.rox_scopes.specs.Scopes.{entries}
use Rattle.rox_scopes.specs.Bindings.{bound_place, IsBound, KeepsBindings}
use Rattle.rox_scopes.proofs.bindings.PrefixBindings.enter.Given as goal

abbrev pub invariant-loop-position : goal.invariant-loop-position
invariant-loop-position l = record {
  bound : (ds : List NamespaceDecl) → IsBound (map namespace_view l.namespaces) (bound_place l.fn.self) ds
      → IsBound (map namespace_view l.namespaces) (bound_place l.self) (entries (map namespace_view l.namespaces) (reverse (slice_range l.listed l.fn.own.from l.position)) ++ filter (λ d. not (l.fn.own.xml && is_xml d.prefix)) ds);
  keeps : KeepsBindings l.fn.self l.self;
}
