use Rattle.std.proofs.Common.{rules, ℕ, ◌≡◌, ◌++◌, ◌∷◌, ◌-◌, ◌≢◌, [], length, take, sym, subst, ap, ◌∙◌, arith, eqb-true, ne_eqb}
use Rattle.rox_grammar.specs.AtIndex.{scope_at}
use Rattle.rox_scopes.specs.Bindings.{bound_place, IsBound, Stacked, is_innermost}
use Rattle.rox_scopes.proofs.Presenting.{stacked_last, last_split, innermost_at, innermost_not}
use Rattle.rox_scopes.proofs.bindings.PrefixBindings.is_in.Goals as goal

pub returns-then-layer-len : goal.returns-then-layer-len
returns-then-layer-len c = record {
  value =
      let x = c.args.self.now in
      let os = c.deref.result.now in
      let k = c.in-Some.ensures.item in
      let l = c.in-Some.layer.now in
      let split : x.layers.items ≡ take (length os - 1) os ++ l ∷ [] = sym c.deref.ensures.value ∙ last_split os l k.3.0 (k.3.1 l) in
      let n = x.replaced.ok.0 in
      let same : l.count ≡ length x.replaced.items = omega arith in
      sym (ap (λ ls. is_innermost ls (length x.replaced.items) c.args.scope) split ∙ innermost_at (take (length os - 1) os) l (length x.replaced.items) c.args.scope same);
  bound = λ same namespaces lists h.
      let x = c.args.self.now in
      let os = c.deref.result.now in
      let k = c.in-Some.ensures.item in
      let l = c.in-Some.layer.now in
      let ls = take (length os - 1) os in
      let split : x.layers.items ≡ ls ++ l ∷ [] = sym c.deref.ensures.value ∙ last_split os l k.3.0 (k.3.1 l) in
      subst (λ (s : ℕ). IsBound namespaces (bound_place x) (scope_at lists s)) (eqb-true _ _ same)
      (stacked_last namespaces lists x.replaced.items (bound_place x) 0 ls l (omega arith) (subst (Stacked namespaces lists x.replaced.items (bound_place x) 0) split h.stacked));
}

pub returns-else-layer-len : goal.returns-else-layer-len
returns-else-layer-len c = record {
  bound = search rules;
  value =
      let x = c.args.self.now in
      let os = c.deref.result.now in
      let k = c.in-Some.ensures.item in
      let l = c.in-Some.layer.now in
      let split : x.layers.items ≡ take (length os - 1) os ++ l ∷ [] = sym c.deref.ensures.value ∙ last_split os l k.3.0 (k.3.1 l) in
      let n = x.replaced.ok.0 in
      let other : l.count ≢ length x.replaced.items = omega arith in
      ne_eqb l.count c.len.result (omega arith)
      ∙ sym (ap (λ ls. is_innermost ls (length x.replaced.items) c.args.scope) split ∙ innermost_not (take (length os - 1) os) l (length x.replaced.items) c.args.scope other);
}
