use Rattle.std.proofs.Common.{◌≡◌, ◌<◌, ◌≤◌, sym, ap, ◌∙◌, subst, length, rules, arith, leb-true, leb-false}
use Rattle.std.proofs.lemmas.Grind.{common_steps}
use Rattle.std.proofs.lemmas.Result.{err_from_is_err_and}
use Rattle.rox_grammar.specs.State.{Open, root}
use Rattle.rox_builder.specs.BuilderState.{Represents}
use Rattle.rox_build.proofs.Documents.{body_fails, more_stands, no_element, an_element}
use Rattle.rox_build.proofs.Wholes.{body_open}
use Rattle.rox_build.proofs.reader.rest.Goals as goal

pub returns-in_err-some : goal.returns-in_err-some
returns-in_err-some c = record {
  value = λ limit end es s declared sees top.
      let q = err_from_is_err_and c.from_residual.result c.from_residual.ensures.1 in
      rw (q.1, q.2) (body_fails limit es c.args.cursor.now.text.now s c.in_err-some.field-0.0 (c.in_err-some.ensures.value limit end es s declared sees));
  goes = let p = err_from_is_err_and c.from_residual.result c.from_residual.ensures.1 in rw p.1 tt;
}

pub returns-then-not-is_at_end : goal.returns-then-not-is_at_end
returns-then-not-is_at_end c = record {
  value = λ limit end es s declared sees top.
      let src = c.args.cursor.now.text.now in
      let k = c.in_ok-some.ensures.value limit end es s declared sees in
      let more : k.0.at < length src = rw ((ap (λ t. t.now) c.in_ok-some.ensures.goes.source), k.2.here) at (leb-false _ _ (sym c.is_at_end.ensures ∙ c.if-not-is_at_end.true)) in
      rw k.2.here (more_stands limit es src s k.0 _ k.1 more);
  goes = first_of (search rules, grind (arith, common_steps));
}

pub returns-then-not-some : goal.returns-then-not-some
returns-then-not-some c = record {
  value = λ limit end es s declared sees top.
      let src = c.args.cursor.now.text.now in
      let k = c.in_ok-some.ensures.value limit end es s declared sees in
      let all : length src ≤ k.0.at = rw ((ap (λ t. t.now) c.in_ok-some.ensures.goes.source), k.2.here) at (leb-true _ _ (sym c.is_at_end.ensures ∙ c.if-not-is_at_end.false)) in
      no_element limit es src s k.0 _ k.1 all c.if-not-some.true;
  goes = first_of (search rules, grind (arith, common_steps));
}

pub returns : goal.returns
returns c = record {
  value = λ limit end es s declared sees top.
      let src = c.args.cursor.now.text.now in
      let k = c.in_ok-some.ensures.value limit end es s declared sees in
      let all : length src ≤ k.0.at = rw ((ap (λ t. t.now) c.in_ok-some.ensures.goes.source), k.2.here) at (leb-true _ _ (sym c.is_at_end.ensures ∙ c.if-not-is_at_end.false)) in
      let none : k.0.stack ≡ root = body_open limit es src s k.0 _ top k.1 in
      (k.0.done, an_element limit es src s k.0 _ k.1 all c.if-not-some.false, subst (λ (o : Open). Represents end o k.0.done c.body.new.builder) none k.2.shows);
  goes = first_of (search rules, grind (arith, common_steps));
}
