use Rattle.std.proofs.Common.{Some, length, sym, subst, rules}
use Rattle.rox_grammar.specs.AtIndex.{OptionWithin}
use Rattle.rox_scopes.specs.Bindings.{LooksWithin, places_view}
use Rattle.rox_scopes.proofs.scope.find_prefix.Goals as goal

pub returns-in-None : goal.returns-in-None
returns-in-None c =
    let n = length c.args.namespaces.now in
    let all = subst (λ o. LooksWithin n (places_view o) c.args.present.now) c.in-None.is c.requires in
    record { within = subst (OptionWithin n) (sym c.find.ensures) (all (Some c.args.prefix.now)); value = search rules }
