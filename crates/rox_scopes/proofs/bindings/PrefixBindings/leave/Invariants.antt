use Rattle.std.proofs.Common.{◌≡◌, ◌≤◌, ◌+◌, ◌-◌, ◌++◌, ◌∷◌, [], List, length, take}
use Rattle.rox_grammar.specs.Written.{NamespaceDecl}
use Rattle.rox_scopes.specs.Bindings.{AreBindingsOf}
use Rattle.rox_scopes.specs.declared.bindings.ScopeFrame.{ScopeFrame}
use Rattle.rox_scopes.proofs.bindings.PrefixBindings.leave.Given as goal

abbrev pub invariant-loop-turn : goal.invariant-loop-turn
invariant-loop-turn l = record {
  keeps : (namespaces : List NamespaceDecl) (lists : List (List NamespaceDecl)) → AreBindingsOf namespaces lists l.fn.self → AreBindingsOf namespaces lists l.self;
  layers : l.self.layers.items ≡ take (length l.fn.self.layers.items - 1) l.fn.self.layers.items;
  back : l.count ≤ length l.fn.self.replaced.items → length l.self.replaced.items + l._turn ≡ length l.fn.self.replaced.items + l.count;
  inner : (ls : List ScopeFrame) × (x : ScopeFrame) × (l.self.layers.items ≡ ls ++ x ∷ []) × (x.count ≡ l.count);
}
