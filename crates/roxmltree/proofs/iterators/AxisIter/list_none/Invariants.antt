use Rattle.std.proofs.Common.{◌≡◌, length}
use Rattle.std.specs.List.{list_all}
use Rattle.rox_grammar.specs.Exchange.{none_of}
use Rattle.roxmltree.specs.NodeParts.{node_at, listed_of}
use Rattle.roxmltree.proofs.iterators.AxisIter.list_none.Given as goal

abbrev pub invariant-loop-node : goal.invariant-loop-node
invariant-loop-node l =
    list_all (λ s. none_of (listed_of (node_at s.0.tree s.1))) l.nodes ≡ list_all (λ s. none_of (listed_of (node_at s.0.tree s.1))) l.fn.nodes

abbrev pub decreases-loop-node : goal.decreases-loop-node
decreases-loop-node l = length l.nodes
