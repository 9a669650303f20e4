use Rattle.std.proofs.Common.{arith}
use Rattle.roxmltree.proofs.Contained.{contained_then, contained_else}
use Rattle.roxmltree.proofs.nodes.Node.is_contained.Goals as goal

pub returns-then-is_element : goal.returns-then-is_element
returns-then-is_element c = grind (arith, contained_then)

pub returns-else-is_element : goal.returns-else-is_element
returns-else-is_element c = grind (arith, contained_else)
