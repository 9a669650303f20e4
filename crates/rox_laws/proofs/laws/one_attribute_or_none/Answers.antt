use Rattle.std.proofs.Common.{ap, ◌∙◌, arith}
use Rattle.roxmltree.specs.NodeParts.{attributes_of}
use Rattle.roxmltree.specs.ExpandedNames.{expanded}
use Rattle.roxmltree.specs.NodeRef.{id_of, tree_of, item_of}
use Rattle.rox_laws.proofs.Once.{names_distinct}
use Rattle.rox_laws.proofs.OnlyOne.{how_many, one_at_most, counted_all, counted_one}
use Rattle.rox_laws.proofs.laws.one_attribute_or_none.Goals as goal

pub loop-attribute-init : goal.loop-attribute-init
loop-attribute-init c =
    let all = ap (how_many (expanded c.args.name)) (c.into_iter-attribute-iterator.ensures.into_iter_gives ∙ c.attributes-attribute-items.ensures.value) in
    (omega (arith, all), one_at_most (tree_of c.args.node) (names_distinct _ _ _ c.whole.ensures.parsed.1) (id_of c.args.node) (expanded c.args.name))

pub returns-clause-count : goal.returns-clause-count
returns-clause-count c =
    let loop = c.loop-attribute in
    counted_all (expanded c.args.name) (attributes_of (item_of c.args.node)) loop.count loop.attribute-iterator c.in-None.ensures.steps.0 loop.invariant.0

pub returns-clause-one_or_none : goal.returns-clause-one_or_none
returns-clause-one_or_none c =
    returns-clause-count c ∙ counted_one (tree_of c.args.node) (names_distinct _ _ _ c.whole.ensures.parsed.1) (id_of c.args.node) (expanded c.args.name)
