use Rattle.std.proofs.Common.{◌-◌, length, take, refl, sym, subst, ◌∙◌, arith}
use Rattle.rox_scopes.specs.Bindings.{bound_place, Stacked}
use Rattle.rox_scopes.proofs.Presenting.{stacked_popped, takes_back, last_split}
use Rattle.rox_scopes.proofs.bindings.PrefixBindings.leave.Goals as goal

pub loop-turn-init : goal.loop-turn-init
loop-turn-init c =
    let old = c.args.self.now in
    let os = c.deref.result.now in
    let k = c.in-Some.ensures.item in
    let x = c.in-Some.around.now in
    record {
      keeps = λ namespaces lists h. record {
        stacked = stacked_popped namespaces lists old.replaced.items (bound_place old) c.pop.new.self.items c.pop.result (subst (Stacked namespaces lists old.replaced.items (bound_place old) 0) c.pop.ensures.items h.stacked);
      };
      layers = rw old.layers.ok.0 at c.pop.ensures.rest;
      back = λ few. refl;
      inner = (take (length os - 1) os, x, sym c.deref.ensures.value ∙ last_split os x k.3.0 (k.3.1 x), refl);
    }

pub loop-turn-preserved : goal.loop-turn-preserved
loop-turn-preserved c = grind (arith, takes_back)
