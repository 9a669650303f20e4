use Rattle.roxmltree.proofs.Siblings.{below_leads, above_holds}
use Rattle.roxmltree.proofs.laws.descendants_are_below.Goals as goal

pub returns-clause-leads : goal.returns-clause-leads
returns-clause-leads c i j l m n = below_leads c.args.document.now.tree i j l m n

pub returns-clause-inside : goal.returns-clause-inside
returns-clause-inside c i j l h = above_holds c.args.document.now.tree i j l h
