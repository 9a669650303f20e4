use Rattle.std.proofs.Common.{ap}
use Rattle.rox_grammar.specs.Forest.{Forest}
use Rattle.rox_grammar.specs.Tree.{Node}
use Rattle.rox_builder.specs.BuilderState.{tables_of}
use Rattle.roxmltree.proofs.Rows.{is_whole, same_tree}
use Rattle.roxmltree.proofs.tree.Document.from_builder.Goals as goal

pub invariant_of-result : goal.invariant_of-result
invariant_of-result c = is_whole _ _ (tables_of c.args.builder) c.requires

pub returns : goal.returns
returns c tree h = ap (λ (f : Forest Node). record { tree = f; text = c.args.text.now; key = c.args.key; dtd = c.args.dtd }) (same_tree (tables_of c.args.builder) tree h)
