use Rattle.std.proofs.Common.{map, take}
use Rattle.roxmltree.specs.NodeRef.{id_of, tree_of}
use Rattle.rox_path.specs.Steps.{step_of}
use Rattle.rox_path.proofs.MarkLemmas.{Shows}
use Rattle.rox_path.proofs.selection.select.Given as goal

-- the marks are those of the nodes that the steps so far lead to
abbrev pub invariant-loop-step : goal.invariant-loop-step
invariant-loop-step l = Shows (tree_of l.fn.start) (id_of l.fn.start) (map step_of (take l.step-index l.steps)) l.marks.items
