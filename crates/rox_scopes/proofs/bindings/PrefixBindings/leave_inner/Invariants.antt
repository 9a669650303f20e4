use Rattle.std.proofs.Common.{◌≡◌, ◌+◌, true, List, length}
use Rattle.rox_grammar.specs.Written.{NamespaceDecl}
use Rattle.rox_scopes.specs.Bindings.{AreBindingsOf, is_innermost}
use Rattle.rox_scopes.proofs.bindings.PrefixBindings.leave_inner.Given as goal

abbrev pub invariant-loop-turn : goal.invariant-loop-turn
invariant-loop-turn l = record {
  keeps : (namespaces : List NamespaceDecl) (lists : List (List NamespaceDecl)) → AreBindingsOf namespaces lists l.fn.self → AreBindingsOf namespaces lists l.self;
  same : is_innermost l.fn.self.layers.items (length l.fn.self.replaced.items) l.scope ≡ true → l.self ≡ l.fn.self;
  left : length l.self.layers.items + l._turn ≡ length l.fn.self.layers.items;
}
