use Rattle.std.proofs.Common.{rules, ◌≡◌, ◌++◌, ◌∷◌, [], ap, ◌∙◌}
use Rattle.rox_scopes.specs.Bindings.{bound_place, bound_namespace}
use Rattle.rox_scopes.specs.declared.bindings.ShadowedBinding.{ShadowedBinding}
use Rattle.rox_scopes.proofs.Presenting.{stacked_put, keeps_by, found_put}
use Rattle.rox_scopes.proofs.bindings.PrefixBindings.put.Goals as goal

pub returns : goal.returns
returns c = record {
  present = search rules;
  keeps = λ namespaces lists h.
      let old = c.args.self.now in
      let new = c.set.new.self in
      let r : ShadowedBinding = record { prefix = c.args.prefix; before = c.get-before.result } in
      let entries : new.replaced.items ≡ old.replaced.items ++ r ∷ [] = ap (λ v. v.items) c.in_ok-set.ensures.replaced ∙ c.in_ok-push.ensures.items in
      keeps_by namespaces lists new (old.replaced.items ++ r ∷ []) old.layers.items entries (ap (λ v. v.items) c.in_ok-set.ensures.layers)
      (stacked_put namespaces lists old.replaced.items r (bound_place old) (bound_place new) (bound_namespace c.args.place) 0 old.layers.items (ap bound_namespace c.get-before.ensures) (found_put old new _ c.args.place c.in_ok-set.ensures.present) h.stacked);
}
