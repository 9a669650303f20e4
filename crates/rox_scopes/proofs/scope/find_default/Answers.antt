use Rattle.std.proofs.Common.{Option, None, length, sym, ◌∙◌, subst, rules}
use Rattle.rox_grammar.specs.AtIndex.{OptionWithin}
use Rattle.rox_scopes.specs.Bindings.{LooksWithin, bound_namespace, places_view}
use Rattle.rox_scopes.specs.declared.bindings.Binding.{Binding}
use Rattle.rox_scopes.proofs.scope.find_default.Goals as goal

pub returns-in-Some-get : goal.returns-in-Some-get
returns-in-Some-get c =
    let n = length c.args.namespaces.now in
    let all = subst (λ o. LooksWithin n (places_view o) c.args.present.now) c.in-None.is c.requires in
    record { within = subst (λ (o : Option Binding). OptionWithin n (bound_namespace o)) (sym c.get.ensures ∙ c.in-Some-get.is) (all None); value = search rules }
