use Rattle.std.proofs.Common.{◌≡◌, length}
use Rattle.roxmltree.specs.Elements.{nearest_element}
use Rattle.roxmltree.proofs.iterators.Children.first_element.Given as goal

abbrev pub invariant-loop-node : goal.invariant-loop-node
invariant-loop-node l = nearest_element l.nodes ≡ nearest_element l.fn.nodes

abbrev pub decreases-loop-node : goal.decreases-loop-node
decreases-loop-node l = length l.nodes
