use Rattle.std.proofs.Common.{not, ◌≡◌, ◌++◌, ◌∷◌, [], ◌-◌, refl, ap, ◌∙◌, arith, rules}
use Rattle.std.proofs.lemmas.Grind.{common_steps}
use Rattle.rox_grammar.specs.Failures.{name_view}
use Rattle.rox_grammar.specs.Forest.{Nil}
use Rattle.rox_grammar.specs.Tree.{listed}
use Rattle.rox_grammar.specs.State.{inside, scope_of}
use Rattle.rox_reading.specs.State.{State}
use Rattle.rox_builder.specs.BuilderState.{IsOpening, opened, tag_row}
use Rattle.rox_names.specs.OpenElements.{open_name}
use Rattle.rox_names.specs.TagScopes.{lists_in}
use Rattle.rox_names.specs.declared.open_element.OpenElement.{OpenElement}
use Rattle.rox_names.specs.SpelledNames.{spelled_name}
use Rattle.rox_rows.specs.declared.row.NodeKind.{NodeKind}
use Rattle.rox_rows.specs.declared.row.NodeKind.TheVariants as kind
use Rattle.rox_rows.specs.declared.row.NodeData.{NodeData}
use Rattle.rox_names.proofs.SpelledNames.{narrow_kept}
use Rattle.rox_builder.proofs.ShownTags.{tag_shown}
use Rattle.rox_builder.proofs.Showing.{row_open, open_shows, open_count, settled_count}
use Rattle.rox_theory.proofs.Leaves.{fits_counted}
use Rattle.rox_rows.specs.Rows.{node_rows}
use Rattle.rox_rows.proofs.StoredNodes.{count_nodes}
use Rattle.rox_builder.proofs.builder.Builder.put_open.Goals as goal

pub returns : goal.returns
returns c = record {
  adds = record {
    value = λ total at openings_left s t sh here is.
        let f = c.settle.new.self in
        let tag = c.args.tag.now in
        let st = c.settle.ensures.ok total s.stack s.done sh in
        let op : IsOpening f.tables (scope_of s.stack) s.at tag t = rw (c.settle.ensures.kept.tables, here) is in
        let next : State = record { at = at; done = Nil; stack = inside s.at t s.done s.stack; openings_left = openings_left } in
        let n = settled_count total s.stack s.done f st in
        let m = open_count s.stack s.at t s.done in
        let few = c.requires.row.ready.few in
        let len = count_nodes f.nodes in
        let old = count_nodes c.args.self.now.nodes in
        let same = ap (λ v. v.rows.len) c.settle.ensures.nodes in
        let k : NodeKind = kind.Element tag.element in
        let x : OpenElement = record { row = c.len-row.result; scope = tag.element.scope; namespace = tag.element.namespace; prefixed = not c.is_empty.result; name_count = tag.name_end - tag.name_start; source = c.from_place-source.result } in
        let kept = narrow_kept c.args.text.now tag c.from_place-source.result.now c.requires.named c.requires.narrow c.from_place-source.ensures in
        let spelled : open_name x ≡ name_view tag.name = ap spelled_name kept.bytes ∙ c.requires.named.spells in
        let view : opened (lists_in f.tables) x ≡ tag_row x.row s.at t (listed (scope_of s.stack) t.declarations) =
        tag_shown f.tables (scope_of s.stack) s.at tag t c.args.text.now x op c.requires.named kept (omega arith) refl in
        let rows : node_rows c.put.new.self ≡ (node_rows f.nodes) ++ row_open f.tables 0 f.opened.items s.at k ∷ [] =
        rw here (c.put.ensures.rows ∙ ap (λ (r : NodeData). (node_rows f.nodes) ++ record r { subtree_end = 0 } ∷ []) c.row_below-opening.ensures) in (
          next,
          fits_counted c.args.self.now.nodes_limit next (omega arith),
          open_shows total s.stack s.done f _ s.at k t x st op.node.is op.node.within (omega (arith, c.len-row.ensures.nodes)) view rows refl c.push_reserved.ensures.items refl,
        );
    kept = record { tables = c.settle.ensures.kept.tables; limit = c.settle.ensures.kept.limit; openings_left = c.settle.ensures.kept.openings_left };
    opened =
        let tag = c.args.tag.now in
        let x : OpenElement = record { row = c.len-row.result; scope = tag.element.scope; namespace = tag.element.namespace; prefixed = not c.is_empty.result; name_count = tag.name_end - tag.name_start; source = c.from_place-source.result } in
        let kept = narrow_kept c.args.text.now tag c.from_place-source.result.now c.requires.named c.requires.narrow c.from_place-source.ensures in
        let spelled : open_name x ≡ name_view tag.name = ap spelled_name kept.bytes ∙ c.requires.named.spells in (
          x,
          c.push_reserved.ensures.items ∙ ap (λ v. v.items ++ x ∷ []) c.settle.ensures.kept.opened,
          record { name = spelled; prefixed = ap not c.is_empty.ensures; kept = kept; scope = refl; namespace = refl },
        );
  };
  ready = first_of (search rules, grind (arith, common_steps));
}
