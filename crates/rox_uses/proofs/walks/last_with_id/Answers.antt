use Rattle.std.proofs.Common.{rules, tests, ◌∙◌}
use Rattle.roxmltree.proofs.Chains.{last_passing}
use Rattle.roxmltree.specs.NodeRef.{node_ref}
use Rattle.rox_uses.specs.Ids.{has_id}
use Rattle.rox_uses.proofs.walks.last_with_id.Goals as goal

pub returns : goal.returns
returns c =
    last_passing node_ref (has_id c.args.id.now) _ _ _ _ c.last.ensures.ran (c.filter.ensures.source ∙ c.descendants.ensures.value) c.filter.ensures.closure (λ x b q k. search (rules, tests))
