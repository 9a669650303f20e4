use Rattle.std.proofs.Common.{◌≡◌, length, subst, sym}
use Rattle.roxmltree.specs.DocumentView.{DocumentView}
use Rattle.roxmltree.specs.NodeRef.{id_of, document_of}
use Rattle.rox_path.specs.NodeMarks.{marks_by, is_below}
use Rattle.rox_path.proofs.MarkLemmas.{below_by_parent, none_without_parent, by_first, by_second}
use Rattle.rox_path.proofs.selection.is_below.Goals as goal

pub returns-in-None : goal.returns-in-None
returns-in-None c = sym (none_without_parent (document_of c.args.node.now) (id_of c.args.start.now) (id_of c.args.node.now) c.args.marks.now c.in-None.ensures)

pub returns-then-is_marked : goal.returns-then-is_marked
returns-then-is_marked c =
    let top = id_of c.args.start.now in
    let below = c.args.below.now in
    let so_far = subst (λ (d : DocumentView). below ≡ marks_by (is_below top c.args.marks.now) d top (length below)) (sym c.requires.document) c.requires.so_far in
    let both = below_by_parent (document_of c.args.node.now) top (id_of c.args.node.now) _ c.args.marks.now below c.laws.ensures c.args.node.now.in_tree c.in-Some.ensures.0 c.requires.place so_far in
    by_first _ _ _ _ c.if-is_marked.true c.is_marked.ensures both

pub returns-else-is_marked : goal.returns-else-is_marked
returns-else-is_marked c =
    let top = id_of c.args.start.now in
    let below = c.args.below.now in
    let so_far = subst (λ (d : DocumentView). below ≡ marks_by (is_below top c.args.marks.now) d top (length below)) (sym c.requires.document) c.requires.so_far in
    let both = below_by_parent (document_of c.args.node.now) top (id_of c.args.node.now) _ c.args.marks.now below c.laws.ensures c.args.node.now.in_tree c.in-Some.ensures.0 c.requires.place so_far in
    by_second _ _ _ _ _ c.if-is_marked.false c.is_marked.ensures c.is_marked-else-is_marked.ensures both
