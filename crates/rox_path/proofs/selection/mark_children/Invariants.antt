use Rattle.std.proofs.Common.{◌≡◌, map, ◌++◌}
use Rattle.roxmltree.specs.ExpandedNames.{expanded}
use Rattle.roxmltree.specs.NodeRef.{id_of}
use Rattle.rox_path.specs.NodeMarks.{subtree_of, is_child}
use Rattle.rox_path.proofs.selection.mark_children.Given as goal

abbrev pub invariant-loop-node : goal.invariant-loop-node
invariant-loop-node l =
    let mark = is_child (id_of l.fn.start) l.fn.marks (expanded l.fn.name) in
    l.next.items ++ map mark l.node-iterator ≡ map mark (subtree_of l.fn.start)
