use Rattle.std.proofs.Common.{rules}
use Rattle.rox_scopes.specs.Bindings.{bound_place}
use Rattle.rox_scopes.proofs.Presenting.{bound_here, found_put}
use Rattle.rox_scopes.proofs.bindings.PrefixBindings.bind.Goals as goal

pub returns : goal.returns
returns c = record {
  keeps = search rules;
  bound = λ ds h.
      let old = c.args.self.now in
      let new = c.put.new.self in
      bound_here c.args.namespaces.now c.args.listed.now c.args.position c.index-namespaces-namespace.result ds (bound_place old) (bound_place new) c.requires.places c.requires.within
      (found_put old new _ _ c.in_ok-put.ensures.present) h;
}
