use Rattle.std.proofs.Common.{length, sym, subst}
use Rattle.std.specs.Prelude.{max}
use Rattle.rox_grammar.specs.Forest.{Forest}
use Rattle.rox_grammar.specs.Tree.{Node}
use Rattle.rox_theory.proofs.ParseParts.{tree_parts}
use Rattle.roxmltree.specs.Requests.{Allows}
use Rattle.rox_laws.specs.TreeSize.{IsTreeBounded}
use Rattle.rox_laws.proofs.Bounded.{tree_short, allowed_short}
use Rattle.rox_laws.proofs.theorem.answers_bound_trees.Goals as goal

pub returns : goal.returns
returns g c most limit dtd asked tree bound allowed is_tree =
    let is = tree_parts is_tree in
    let text = c.args.text.now in
    let short = allowed_short (Allows g.R.EntityResolver.allows c.args.resolver.now) most bound asked allowed in
    subst (λ (f : Forest Node). IsTreeBounded text (max (length text) most) f) (sym is.shown) (tree_short text dtd asked is.written most is.parse short)
