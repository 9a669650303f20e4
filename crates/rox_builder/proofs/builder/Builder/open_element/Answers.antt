use Rattle.std.proofs.Common.{not, ◌≡◌, ◌++◌, ◌∷◌, [], refl, ap, ◌∙◌, arith, length}
use Rattle.std.proofs.lemmas.Result.{err_from_is_err_and}
use Rattle.rox_grammar.specs.Failures.{name_view}
use Rattle.rox_grammar.specs.Forest.{Nil}
use Rattle.rox_grammar.specs.Tree.{listed}
use Rattle.rox_grammar.specs.State.{inside, scope_of}
use Rattle.rox_reading.specs.State.{State}
use Rattle.rox_builder.specs.BuilderState.{IsOpening, opened, tag_row}
use Rattle.rox_names.specs.OpenElements.{open_name}
use Rattle.rox_names.specs.TagScopes.{lists_in}
use Rattle.rox_names.specs.declared.open_element.OpenElement.{OpenElement}
use Rattle.rox_names.specs.SpelledNames.{spelled_name}
use Rattle.rox_rows.specs.declared.row.NodeKind.{NodeKind}
use Rattle.rox_rows.specs.declared.row.NodeKind.TheVariants as kind
use Rattle.rox_rows.specs.declared.row.NodeData.{NodeData}
use Rattle.rox_builder.proofs.ShownTags.{tag_shown}
use Rattle.rox_builder.proofs.Showing.{row_open, open_shows, open_count, settled_count, counted_err}
use Rattle.rox_theory.proofs.Leaves.{fits_counted}
use Rattle.rox_rows.specs.Rows.{node_rows}
use Rattle.rox_rows.proofs.StoredNodes.{count_nodes}
use Rattle.rox_builder.proofs.builder.Builder.open_element.Goals as goal

pub returns : goal.returns
returns c = record {
  value = λ total at openings_left s t sh here is.
      let f = c.flush.new.self in
      let tag = c.args.tag.now in
      let st = c.in_ok-flush.ensures.ok total s.stack s.done sh in
      let op : IsOpening f.tables (scope_of s.stack) s.at tag t = rw (c.flush.ensures.kept.tables, here) is in
      let next : State = record { at = at; done = Nil; stack = inside s.at t s.done s.stack; openings_left = openings_left } in
      let n = settled_count total s.stack s.done f st in
      let m = open_count s.stack s.at t s.done in
      let room = c.in_ok-room.ensures.ok in
      let len = count_nodes f.nodes in
      let limit = c.flush.ensures.kept.limit in
      let empty = c.in_ok-flush.ensures.empty in
      let k : NodeKind = kind.Element tag.element in
      let x : OpenElement = record { row = c.len-row.result; scope = tag.element.scope; namespace = tag.element.namespace; prefixed = not c.is_empty.result; name_count = c.kept_name-name_count.result.0; source = c.kept_name-name_count.result.1 } in
      let spelled : open_name x ≡ name_view tag.name = ap spelled_name c.kept_name-name_count.ensures.bytes ∙ c.requires.spells in
      let place : c.len-row.result ≡ length (node_rows f.nodes) = omega (arith, c.len-row.ensures.nodes) in
      let view : opened (lists_in f.tables) x ≡ tag_row x.row s.at t (listed (scope_of s.stack) t.declarations) =
      tag_shown f.tables (scope_of s.stack) s.at tag t c.args.text.now x op c.requires c.kept_name-name_count.ensures (omega arith) refl in
      let rows : node_rows c.push.new.self ≡ (node_rows f.nodes) ++ row_open f.tables 0 f.opened.items s.at k ∷ [] =
      rw here (c.in_ok-push.ensures.rows ∙ ap (λ (r : NodeData). (node_rows f.nodes) ++ record r { subtree_end = 0 } ∷ []) c.row-opening.ensures) in (
        next,
        fits_counted c.args.self.now.nodes_limit next (omega arith),
        open_shows total s.stack s.done f _ s.at k t x st op.node.is op.node.within place view rows refl c.in_ok-push_with_room.ensures.items refl,
      );
  kept = record { tables = c.flush.ensures.kept.tables; limit = c.flush.ensures.kept.limit; openings_left = c.flush.ensures.kept.openings_left };
  opened =
      let tag = c.args.tag.now in
      let x : OpenElement = record { row = c.len-row.result; scope = tag.element.scope; namespace = tag.element.namespace; prefixed = not c.is_empty.result; name_count = c.kept_name-name_count.result.0; source = c.kept_name-name_count.result.1 } in
      let spelled : open_name x ≡ name_view tag.name = ap spelled_name c.kept_name-name_count.ensures.bytes ∙ c.requires.spells in (
        x,
        c.in_ok-push_with_room.ensures.items ∙ ap (λ v. v.items ++ x ∷ []) c.flush.ensures.kept.opened,
        record { name = spelled; prefixed = ap not c.is_empty.ensures; kept = c.kept_name-name_count.ensures; scope = refl; namespace = refl },
      );
}

pub returns-in_err-room : goal.returns-in_err-room
returns-in_err-room c = record {
  value = λ total at openings_left s t sh here is.
      let p = err_from_is_err_and c.from_residual-in_err-room.result c.from_residual-in_err-room.ensures.1 in
      let f = c.flush.new.self in
      let next : State = record { at = at; done = Nil; stack = inside s.at t s.done s.stack; openings_left = openings_left } in
      let n = settled_count total s.stack s.done f (c.in_ok-flush.ensures.ok total s.stack s.done sh) in
      let m = open_count s.stack s.at t s.done in
      let e = c.in_err-room.ensures.err in
      let over = e.1 in
      let len = count_nodes f.nodes in
      let limit = c.flush.ensures.kept.limit in
      let empty = c.in_ok-flush.ensures.empty in
      rw (p.1, p.2, e.0) (counted_err c.args.self.now.nodes_limit next (omega arith));
  kept = record { tables = c.flush.ensures.kept.tables; limit = c.flush.ensures.kept.limit; openings_left = c.flush.ensures.kept.openings_left };
  opened = let p = err_from_is_err_and c.from_residual-in_err-room.result c.from_residual-in_err-room.ensures.1 in rw p.1 tt;
}
