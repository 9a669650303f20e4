use Rattle.roxmltree.proofs.Preorder.{parent_is}
use Rattle.roxmltree.proofs.laws.parents_are_the_nearest_above.Goals as goal

pub returns-clause-inside : goal.returns-clause-inside
returns-clause-inside c i q l e = (parent_is c.args.document.now.tree i q l e).0
