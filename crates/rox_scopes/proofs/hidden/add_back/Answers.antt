use Rattle.std.proofs.Common.{ap, ◌∙◌, arith}
use Rattle.std.proofs.lemmas.Grind.{common_steps}
use Rattle.rox_scopes.proofs.Sharing.{turn_more, turn_ends, turned_listed}
use Rattle.rox_scopes.proofs.hidden.add_back.Goals as goal

pub loop-turn-preserved : goal.loop-turn-preserved
loop-turn-preserved c =
    turn_more c.args.listed.now.items c.args.from c.loop-turn.turn c.len-end.result c.index-place.result.now c.index-place.result.now c.loop-turn.listed.items c.push.new.self.items
    c.loop-turn.invariant c.requires.from (omega arith) c.index-place.ensures c.in_ok-push.ensures.items

pub returns : goal.returns
returns c = record {
  own = grind (arith, common_steps);
  value = λ namespaces.
      let old = c.args.listed.now.items in
      let now = c.loop-turn.listed.items in
      let k = c.loop-turn.listed.ok.0 in
      turned_listed namespaces old now c.args.scopes.now.items c.add.new.scopes.items c.in_ok-turned.turned c.in_ok-place.place c.args.from
      (turn_ends old c.args.from c.loop-turn.turn c.len-end.result now c.loop-turn.invariant (omega arith)) (ap (λ x. x.from) c.in_ok-turned.ensures ∙ c.loop-turn.invariant.end_is)
      (ap (λ x. x.until) c.in_ok-turned.ensures ∙ (omega arith)) c.requires.scopes c.in_ok-place.ensures.items c.in_ok-place.ensures.value;
}
