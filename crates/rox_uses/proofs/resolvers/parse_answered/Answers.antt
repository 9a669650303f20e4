use Rattle.std.proofs.Common.{subst}
use Rattle.std.proofs.lemmas.Result.{IfOk-weaker, IfErr-weaker}
use Rattle.roxmltree.specs.Document.{IsTreeOf}
use Rattle.roxmltree.specs.Requests.{Allows, AreAllowed}
use Rattle.rox_uses.proofs.Replies.{first_by}
use Rattle.rox_uses.proofs.resolvers.parse_answered.Goals as goal

pub returns : goal.returns
returns g c = record {
  is_parse = IfOk-weaker c.parse_with_options.result _ _
      (λ document h. (
        h.0,
        subst (λ o. AreAllowed (Allows g.R.EntityResolver.allows o) h.0) c.with_resolver-options.ensures.resolver h.1,
        subst (λ n. IsTreeOf c.args.text.now document.dtd h.0 n document.tree) c.with_resolver-options.ensures.others.1 h.3,
      ))
      c.parse_with_options.ensures.is_parse;
  text = c.parse_with_options.ensures.text;
  first = IfErr-weaker c.parse_with_options.result _ _
      (λ e h other. first_by _ _ _ _ _ _ c.args.text.now e (h other) c.with_resolver-options.ensures.resolver c.with_resolver-options.ensures.others.1 (λ request reply a. a))
      c.parse_with_options.ensures.first;
}
