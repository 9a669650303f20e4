use Rattle.std.proofs.Common.{◌≡◌, ℕ, ◌+◌, ◌&&◌, List, Bool, length, subst, sym, ap, ◌∙◌}
use Rattle.roxmltree.specs.DocumentView.{DocumentView}
use Rattle.roxmltree.specs.ExpandedNames.{expanded}
use Rattle.roxmltree.specs.Places.{place}
use Rattle.roxmltree.specs.NodeRef.{id_of, document_of, tree_of, node_ref}
use Rattle.rox_path.specs.NodeMarks.{marks_by, is_below, is_named, is_descendant}
use Rattle.rox_path.proofs.MarkLemmas.{next_place, both_tests, no_test, mark_pushed, below_pushed, left_pushed}
use Rattle.rox_path.proofs.selection.mark_descendants.Goals as goal
use Rattle.rox_path.proofs.selection.mark_descendants.Goals.{then-reached, else-reached}

pub is_below-reached-requires : goal.is_below-reached-requires
is_below-reached-requires c =
    let top = id_of c.args.start.now in
    let next = next_place (document_of c.args.start.now) top (length c.loop-node.below.items) (place (tree_of c.args.start.now) top).count _ _ (sym c.in-Some.ensures.steps ∙ c.loop-node.invariant.left) in
    record {
      document = ap (λ (s : DocumentView × ℕ). s.0) next.0;
      place = ap (λ (s : DocumentView × ℕ). s.1) next.0 ∙ ap (λ (b : List Bool). top + length b) (sym c.deref.ensures.value);
      so_far = subst (λ (b : List Bool). b ≡ marks_by (is_below top c.args.marks.now) (document_of c.args.start.now) top (length b)) (sym c.deref.ensures.value) c.loop-node.invariant.below;
    }

pub loop-node-preserved : goal.loop-node-preserved
loop-node-preserved c =
    let doc = document_of c.args.start.now in
    let top = id_of c.args.start.now in
    let marks = c.args.marks.now in
    let name = expanded c.args.name in
    let next = next_place doc top (length c.loop-node.below.items) (place (tree_of c.args.start.now) top).count _ _ (sym c.in-Some.ensures.steps ∙ c.loop-node.invariant.left) in
    let mark : c.if-reached.push ≡ (is_below top marks (node_ref c.in-Some.node) && is_named name (node_ref c.in-Some.node)) =
    elim c.if-reached.branch [
      | then-reached w ↦ both_tests _ _ _ _ w.if-reached.true c.is_below-reached.ensures (w.push-is ∙ w.has_tag_name.ensures)
      | else-reached w ↦ no_test _ _ _ _ w.if-reached.false c.is_below-reached.ensures (w.push-is ∙ w.if-reached.false)
    ] in
    record {
      next = mark_pushed (is_descendant top marks name) _ _ _ _ _ _ _ c.loop-node.invariant.next c.in-Some.ensures.steps mark c.in_ok-push-2.ensures.items;
      below = below_pushed (is_below top marks) doc top _ _ _ _ c.loop-node.invariant.below next.0 c.is_below-reached.ensures c.in_ok-push.ensures.items;
      left = left_pushed doc top _ c.loop-node.below.items _ _ _ next.1 c.in_ok-push.ensures.items;
    }
