use Rattle.std.proofs.Common.{rules, tests, subst}
use Rattle.std.proofs.lemmas.Result.{IfOk-weaker, IfErr-weaker}
use Rattle.roxmltree.specs.Document.{IsTreeOf}
use Rattle.rox_uses.specs.Resolvers.{IsReplyOf}
use Rattle.rox_uses.proofs.Replies.{allowed_by, first_by}
use Rattle.rox_uses.proofs.resolvers.parse_named.Goals as goal

pub returns : goal.returns
returns c = record {
  is_parse = IfOk-weaker c.parse_with_options.result _ _
      (λ document h. (
        h.0,
        allowed_by _ _ (IsReplyOf c.args.texts.now) _ _ h.0 h.1 c.with_resolver-options.ensures.resolver (λ request reply a. search (rules, tests)),
        subst (λ n. IsTreeOf c.args.text.now document.dtd h.0 n document.tree) c.with_resolver-options.ensures.others.1 h.3,
      ))
      c.parse_with_options.ensures.is_parse;
  text = c.parse_with_options.ensures.text;
  first = IfErr-weaker c.parse_with_options.result _ _
      (λ e h other. first_by _ _ _ _ _ _ c.args.text.now e (h other) c.with_resolver-options.ensures.resolver c.with_resolver-options.ensures.others.1 (λ request reply a. search (rules, tests)))
      c.parse_with_options.ensures.first;
}
