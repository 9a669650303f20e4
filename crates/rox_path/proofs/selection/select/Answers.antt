use Rattle.std.proofs.Common.{◌≡◌, Bool, true, List, [], ◌∷◌, ◌++◌, map, take, ◌∙◌, sym, subst, ap, Vec, Global, filter, take_all}
use Rattle.std.proofs.lemmas.Result.{IfOk-weaker}
use Rattle.roxmltree.specs.ExpandedNames.{expanded}
use Rattle.roxmltree.specs.NodeRef.{id_of, document_of, node_ref}
use Rattle.rox_path.specs.Steps.{PathStep, step_of}
use Rattle.rox_path.specs.NodeMarks.{subtree_of, is_child, is_descendant, is_marked_node}
use Rattle.rox_path.proofs.MarkLemmas.{Shows, start_shows, child_shows, descendant_shows, nodes_selected, one_more_step}
use Rattle.rox_path.proofs.selection.select.Goals as goal
use Rattle.rox_path.proofs.selection.select.Goals.{in-Child+in_ok-marks-in-Child, in-Descendant+in_ok-marks-in-Descendant}

pub loop-step-init : goal.loop-step-init
loop-step-init c =
    let doc = document_of c.args.start in
    let top = id_of c.args.start in
    let marks = c.in_ok-push.ensures.items ∙ ap (λ (m : List Bool). m ++ true ∷ []) c.new-marks.ensures.items in
    subst (λ (m : List Bool). Shows doc.tree top [] m) (sym marks) (start_shows doc top c.args.start.in_tree)

pub loop-step-preserved : goal.loop-step-preserved
loop-step-preserved c =
    let doc = document_of c.args.start in
    let top = id_of c.args.start in
    let so_far = map step_of (take c.loop-step.step-index c.args.steps.now) in
    elim c.match-step.branch [
      | in-Child+in_ok-marks-in-Child w ↦
          let name = expanded w.in-Child.name in
          let marks = ap (λ (v : Vec Bool Global). v.items) w.marks-is ∙ w.in_ok-marks-in-Child.ensures ∙ ap (λ (m : List Bool). map (is_child top m name) (subtree_of c.args.start)) w.deref.ensures.value in
          subst (λ (s : List PathStep). Shows doc.tree top s c.match-step.marks.items)
          (sym (one_more_step c.args.steps.now c.loop-step.step-index _ _ c.loop-step-test.true w.in-Child.is))
          (child_shows doc top so_far name c.loop-step.marks.items c.match-step.marks.items c.laws.ensures c.args.start.in_tree c.loop-step.invariant marks)
      | in-Descendant+in_ok-marks-in-Descendant w ↦
          let name = expanded w.in-Descendant.name in
          let marks = ap (λ (v : Vec Bool Global). v.items) w.marks-is ∙ w.in_ok-marks-in-Descendant.ensures ∙ ap (λ (m : List Bool). map (is_descendant top m name) (subtree_of c.args.start)) w.deref-in-Descendant.ensures.value in
          subst (λ (s : List PathStep). Shows doc.tree top s c.match-step.marks.items)
          (sym (one_more_step c.args.steps.now c.loop-step.step-index _ _ c.loop-step-test.true w.in-Descendant.is))
          (descendant_shows doc top so_far name c.loop-step.marks.items c.match-step.marks.items c.laws.ensures c.args.start.in_tree c.loop-step.invariant marks)
    ]

pub returns : goal.returns
returns c =
    let doc = document_of c.args.start in
    let top = id_of c.args.start in
    let all : take c.loop-step.step-index c.args.steps.now ≡ c.args.steps.now = take_all c.loop-step.step-index c.args.steps.now c.loop-step-test.false in
    let shows = subst (λ (s : List PathStep). Shows doc.tree top s c.loop-step.marks.items) (ap (map step_of) all) c.loop-step.invariant in
    IfOk-weaker c.marked_nodes.result _ _
    (λ nodes is.
    nodes_selected doc top (map step_of c.args.steps.now) c.loop-step.marks.items (map node_ref nodes.items) c.laws.ensures c.args.start.in_tree shows
    (is ∙ ap (λ (m : List Bool). filter (is_marked_node top m) (subtree_of c.args.start)) c.deref-2.ensures.value))
    c.marked_nodes.ensures
