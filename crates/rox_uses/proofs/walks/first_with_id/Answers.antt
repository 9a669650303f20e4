use Rattle.std.proofs.Common.{rules, tests}
use Rattle.roxmltree.proofs.Chains.{found}
use Rattle.roxmltree.specs.NodeRef.{node_ref}
use Rattle.rox_uses.specs.Ids.{has_id}
use Rattle.rox_uses.proofs.walks.first_with_id.Goals as goal

pub returns : goal.returns
returns c = found node_ref (has_id c.args.id.now) _ _ _ _ _ c.find.ensures.ran c.descendants.ensures.value (λ x b q k. search (rules, tests))
