use Rattle.std.proofs.Common.{sym, ◌∙◌}
use Rattle.roxmltree.specs.NodeParts.{attributes_of}
use Rattle.roxmltree.specs.ExpandedNames.{expanded}
use Rattle.roxmltree.specs.ElementLists.{attribute_of}
use Rattle.roxmltree.specs.NodeRef.{id_of, tree_of, item_of}
use Rattle.rox_laws.proofs.Once.{names_distinct}
use Rattle.rox_laws.proofs.OnlyOne.{only_named, answer_is_one}
use Rattle.rox_laws.proofs.laws.the_only_attribute.Goals as goal

pub returns-clause-named : goal.returns-clause-named
returns-clause-named c = answer_is_one attribute_of _ (expanded c.args.name) (attributes_of (item_of c.args.node)) c.attribute_node.ensures

pub returns-clause-only : goal.returns-clause-only
returns-clause-only c i named =
    only_named (tree_of c.args.node) (names_distinct _ _ _ c.whole.ensures.parsed.1) (id_of c.args.node) (expanded c.args.name) i named ∙ sym c.attribute_node.ensures
