use Rattle.std.proofs.Common.{◌<◌, ◌≤◌, length, sym, ◌∙◌, ap, arith}
use Rattle.rox_scopes.proofs.Inherits.{lists, skips, looked}
use Rattle.rox_scopes.proofs.scope.inherit.Goals as goal
use Rattle.rox_scopes.proofs.scope.inherit.Goals.{then-not-is_own+in_ok-push, else-not-is_own}

pub loop-turn-preserved : goal.loop-turn-preserved
loop-turn-preserved c =
    let old = c.args.listed.now.items in
    let low : c.args.above.from ≤ c.loop-turn.turn = omega arith in
    let lt : c.loop-turn.turn < length old = omega arith in
    let k = looked c.args.namespaces.now old c.args.own.from c.args.own.xml c.args.above.from c.loop-turn.turn c.len-end.result c.index-place.result.now c.loop-turn.listed.items c.deref.result.now
    c.index-namespaces-place.result c.is_own.result c.loop-turn.invariant c.requires.places c.requires.own lt c.deref.ensures.value c.index-place.ensures c.is_own.ensures in
    elim c.if-not-is_own.branch [
      | then-not-is_own+in_ok-push w ↦
          lists c.args.namespaces.now old c.args.own.from c.args.own.xml c.args.above.from c.loop-turn.turn c.len-end.result c.index-place.result.now c.loop-turn.listed.items _ c.loop-turn.invariant
          c.requires.places low lt k.0 (sym k.1 ∙ w.if-not-is_own.true) (ap (λ v. v.items) w.listed-is ∙ w.in_ok-push.ensures.items)
      | else-not-is_own w ↦
          rw w.listed-is (skips c.args.namespaces.now old c.args.own.from c.args.own.xml c.args.above.from c.loop-turn.turn c.len-end.result c.index-place.result.now c.loop-turn.listed.items
          c.loop-turn.invariant low lt k.0 (sym k.1 ∙ w.if-not-is_own.false))
    ]
