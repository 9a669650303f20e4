use Rattle.std.proofs.Common.{◌<◌, false, length, arith, take_all}
use Rattle.rox_scopes.proofs.Remembering.{remembers_few, remembers_many, remembers_more, declared_next}
use Rattle.rox_scopes.proofs.prefix_set.add_prefix.Goals as goal

pub returns-then-own-le-FEW : goal.returns-then-own-le-FEW
returns-then-own-le-FEW c = grind (arith, remembers_few)

pub returns-then-own : goal.returns-then-own
returns-then-own c = grind (arith, remembers_more)

pub loop-place-preserved : goal.loop-place-preserved
loop-place-preserved c = λ p.
    let own = c.args.own.now in
    let lt : c.loop-place.place-index < length own = omega arith in
    declared_next c.args.namespaces.now own c.loop-place.place-index c.index-namespaces-place.result p false _ _ c.requires lt (c.loop-place.invariant p) (c.in_ok-add-2.ensures p)

pub returns : goal.returns
returns c = grind (arith, take_all, remembers_many)
