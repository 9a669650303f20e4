use Rattle.std.proofs.Common.{◌≡◌, ◌+◌, ◌-◌, map, ◌++◌, length}
use Rattle.std.specs.List.{range_with_len}
use Rattle.roxmltree.specs.ExpandedNames.{expanded}
use Rattle.roxmltree.specs.Places.{place}
use Rattle.roxmltree.specs.NodeRef.{id_of, document_of, tree_of, node_refs}
use Rattle.rox_path.specs.NodeMarks.{subtree_of, is_below, is_descendant}
use Rattle.rox_path.proofs.selection.mark_descendants.Given as goal

-- what is marked so far, whether a node above is marked so far, and what is left
abbrev pub invariant-loop-node : goal.invariant-loop-node
invariant-loop-node l =
    let first = id_of l.fn.start in
    let mark = is_descendant first l.fn.marks (expanded l.fn.name) in
    let count = (place (tree_of l.fn.start) first).count in
    record {
      next : l.next.items ++ map mark l.node-iterator ≡ map mark (subtree_of l.fn.start);
      below : l.below.items ≡ map (is_below first l.fn.marks) (node_refs (document_of l.fn.start) (range_with_len first (length l.below.items)));
      left : l.node-iterator ≡ node_refs (document_of l.fn.start) (range_with_len (first + length l.below.items) (count - length l.below.items));
    }
