use Rattle.rox_laws.proofs.Bounded.{tree_bounded, tree_short}
use Rattle.rox_laws.proofs.theorem.trees_are_bounded.Goals as goal

pub returns-clause-replacements : goal.returns-clause-replacements
returns-clause-replacements c = tree_bounded c.args.document.now.text c.args.document.now.dtd

pub returns-clause-answers : goal.returns-clause-answers
returns-clause-answers c = tree_short c.args.document.now.text c.args.document.now.dtd
