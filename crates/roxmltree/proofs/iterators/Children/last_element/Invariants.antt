use Rattle.std.proofs.Common.{◌≡◌, length, reverse}
use Rattle.roxmltree.specs.Elements.{nearest_element}
use Rattle.roxmltree.proofs.iterators.Children.last_element.Given as goal

abbrev pub invariant-loop-node : goal.invariant-loop-node
invariant-loop-node l = nearest_element (reverse l.nodes) ≡ nearest_element (reverse l.fn.nodes)

abbrev pub decreases-loop-node : goal.decreases-loop-node
decreases-loop-node l = length l.nodes
