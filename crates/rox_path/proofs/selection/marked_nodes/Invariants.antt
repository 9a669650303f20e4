use Rattle.std.proofs.Common.{◌≡◌, map, ◌++◌, filter}
use Rattle.roxmltree.specs.NodeRef.{id_of, node_ref}
use Rattle.rox_path.specs.NodeMarks.{subtree_of, is_marked_node}
use Rattle.rox_path.proofs.selection.marked_nodes.Given as goal

abbrev pub invariant-loop-node : goal.invariant-loop-node
invariant-loop-node l =
    let mark = is_marked_node (id_of l.fn.start) l.fn.marks in
    map node_ref l.nodes.items ++ filter mark l.node-iterator ≡ filter mark (subtree_of l.fn.start)
