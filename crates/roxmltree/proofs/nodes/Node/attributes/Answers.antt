use Rattle.roxmltree.proofs.FewAttributes.{few_attributes}
use Rattle.roxmltree.proofs.nodes.Node.attributes.Goals as goal

pub returns-clause-few : goal.returns-clause-few
returns-clause-few c = rw c.own_attributes.ensures (few_attributes _ _ _ _ c.whole.ensures.parsed.1)
