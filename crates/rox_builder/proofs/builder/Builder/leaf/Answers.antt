use Rattle.std.proofs.Common.{◌++◌, ◌∷◌, [], refl, ap, ◌∙◌, arith}
use Rattle.std.proofs.lemmas.Result.{err_from_is_err_and}
use Rattle.rox_grammar.specs.Forest.{join}
use Rattle.rox_grammar.specs.Written.{leaf}
use Rattle.rox_reading.specs.State.{State}
use Rattle.rox_rows.specs.declared.row.NodeData.{NodeData}
use Rattle.rox_builder.proofs.Showing.{leaf_shows, leaf_count, settled_count, counted_err}
use Rattle.rox_theory.proofs.Leaves.{fits_counted}
use Rattle.rox_rows.specs.Rows.{node_rows}
use Rattle.rox_rows.proofs.StoredNodes.{count_nodes}
use Rattle.rox_builder.proofs.builder.Builder.leaf.Goals as goal

pub returns : goal.returns
returns c = record {
  value = λ total at s item sh is.
      let f = c.flush.new.self in
      let st = c.in_ok-flush.ensures.ok total s.stack s.done sh in
      let t : State = record { at = at; done = join s.done (leaf item); stack = s.stack; openings_left = s.openings_left } in
      let n = settled_count total s.stack s.done f st in
      let m = leaf_count s.stack s.done item is.no_text in
      let room = c.in_ok-room.ensures.ok in
      let len = count_nodes f.nodes in
      let limit = c.flush.ensures.kept.limit in
      let empty = c.in_ok-flush.ensures.empty in (
        t,
        fits_counted c.args.self.now.nodes_limit t (omega arith),
        leaf_shows total s.stack s.done f _ c.args.start c.args.end c.args.kind item st (rw c.flush.ensures.kept.tables is)
            (c.in_ok-push.ensures.rows ∙ ap (λ (r : NodeData). (node_rows f.nodes) ++ r ∷ []) c.row-row.ensures) refl refl refl,
      );
  kept = record { opened = c.flush.ensures.kept.opened; tables = c.flush.ensures.kept.tables; limit = c.flush.ensures.kept.limit; openings_left = c.flush.ensures.kept.openings_left };
}

pub returns-in_err-room : goal.returns-in_err-room
returns-in_err-room c = record {
  value = λ total at s item sh is.
      let p = err_from_is_err_and c.from_residual-in_err-room.result c.from_residual-in_err-room.ensures.1 in
      let f = c.flush.new.self in
      let t : State = record { at = at; done = join s.done (leaf item); stack = s.stack; openings_left = s.openings_left } in
      let n = settled_count total s.stack s.done f (c.in_ok-flush.ensures.ok total s.stack s.done sh) in
      let m = leaf_count s.stack s.done item is.no_text in
      let e = c.in_err-room.ensures.err in
      let over = e.1 in
      let len = count_nodes f.nodes in
      let limit = c.flush.ensures.kept.limit in
      let empty = c.in_ok-flush.ensures.empty in
      rw (p.1, p.2, e.0) (counted_err c.args.self.now.nodes_limit t (omega arith));
  kept = record { opened = c.flush.ensures.kept.opened; tables = c.flush.ensures.kept.tables; limit = c.flush.ensures.kept.limit; openings_left = c.flush.ensures.kept.openings_left };
}
