use Rattle.std.proofs.Common.{◌≡◌, ◌++◌, ◌∷◌, [], refl, ap, ◌∙◌, List, ℕ, arith, string_bytes}
use Rattle.std.proofs.lemmas.Result.{err_from_is_err_and}
use Rattle.rox_grammar.specs.Forest.{join}
use Rattle.rox_grammar.specs.State.{scope_of}
use Rattle.rox_grammar.specs.Tree.{node_in}
use Rattle.rox_grammar.specs.Written.{Text, leaf}
use Rattle.rox_reading.specs.State.{State}
use Rattle.rox_reading.specs.Values.{ReadText}
use Rattle.rox_rows.proofs.StoredNodes.{count_nodes}
use Rattle.rox_rows.specs.Rows.{attribute_rows, node, node_rows}
use Rattle.rox_rows.specs.declared.row.NodeData.{NodeData}
use Rattle.rox_rows.specs.declared.row.NodeKind.{NodeKind}
use Rattle.rox_rows.specs.declared.row.NodeKind.TheVariants as kind
use Rattle.rox_names.specs.TagScopes.{lists_in}
use Rattle.rox_theory.proofs.Leaves.{fits_counted}
use Rattle.rox_values.specs.Values.{piece_view}
use Rattle.rox_builder.specs.BuilderState.{names_in}
use Rattle.rox_builder.specs.PendingText.{waiting}
use Rattle.rox_builder.proofs.Showing.{piece_first, first_count, counted_err}
use Rattle.rox_builder.proofs.builder.Builder.piece.Goals as goal

pub returns-in_err-room : goal.returns-in_err-room
returns-in_err-room c = record {
  value = λ total at s sh.
      let p = err_from_is_err_and c.from_residual-in_err-room.result c.from_residual-in_err-room.ensures.1 in
      let b = c.args.self.now in
      let view : ReadText = piece_view c.args.piece (string_bytes b.buffers.scratch) in
      let t : State = record { at = at; done = join s.done (leaf (Text c.args.start c.args.end view.value view.borrowed)); stack = s.stack; openings_left = s.openings_left } in
      let none = c.is_text_open.ensures.no c.if-is_text_open.false in
      let n = first_count total s.stack s.done b c.args.start c.args.end view.value view.borrowed sh none in
      let e = c.in_err-room.ensures.err in
      let over = e.1 in
      let w = ap waiting none in
      let len = count_nodes b.nodes in
      rw (p.1, p.2, e.0) (counted_err b.nodes_limit t (omega arith));
  kept = record { opened = refl; tables = refl; limit = refl; openings_left = refl };
}

pub returns : goal.returns
returns c = record {
  value = λ total at s sh.
      let b = c.args.self.now in
      let view : ReadText = piece_view c.args.piece (string_bytes b.buffers.scratch) in
      let v : List ℕ = view.value in
      let t : State = record { at = at; done = join s.done (leaf (Text c.args.start c.args.end v view.borrowed)); stack = s.stack; openings_left = s.openings_left } in
      let none = c.is_text_open.ensures.no c.if-is_text_open.false in
      let n = first_count total s.stack s.done b c.args.start c.args.end v view.borrowed sh none in
      let room = c.in_ok-room.ensures.ok in
      let w = ap waiting none in
      let len = count_nodes b.nodes in
      let is : c.text_in-text.result.now ≡ v = c.text_in-text.ensures ∙ ap (λ (bs : List ℕ). (piece_view c.args.piece bs).value) c.as_str.ensures.value in
      let bytes = c.in_ok-stored.ensures.bytes (rw is (c.slice.ensures.its (string_bytes b.buffers.scratch))) ∙ is in
      let borrowed = c.in_ok-stored.ensures.borrowed ∙ c.slice.ensures.borrowed (string_bytes b.buffers.scratch) in
      let k : NodeKind = kind.Text c.in_ok-stored.stored in
      let node : node (attribute_rows b.tables.attributes) (names_in b.tables) (lists_in b.tables) c.args.start c.args.end k ≡ node_in (scope_of s.stack) (Text c.args.start c.args.end v view.borrowed) = rw (bytes, borrowed) refl in
      let rows = c.in_ok-push.ensures.rows ∙ ap (λ (r : NodeData). node_rows b.nodes ++ r ∷ []) c.row-row.ensures in
      (t, fits_counted b.nodes_limit t (omega arith), piece_first total s.stack s.done b _ c.args.start c.args.end v view.borrowed k sh none node tt rows refl refl refl);
  kept = record { opened = refl; tables = refl; limit = refl; openings_left = refl };
}
