use Rattle.std.proofs.Common.{◌≡◌, ◌++◌, is_some, sym, refl, ap, ◌∙◌, List, ℕ, arith, string_bytes}
use Rattle.rox_grammar.specs.Forest.{join}
use Rattle.rox_grammar.specs.Written.{Text, leaf}
use Rattle.rox_reading.specs.State.{State}
use Rattle.rox_reading.specs.Values.{ReadText}
use Rattle.rox_values.specs.Values.{piece_view}
use Rattle.rox_builder.proofs.Showing.{waiting_first, first_count}
use Rattle.rox_theory.proofs.Leaves.{fits_counted}
use Rattle.rox_rows.proofs.StoredNodes.{count_nodes}
use Rattle.rox_builder.proofs.builder.Builder.waiting_piece.Goals as goal

pub returns : goal.returns
returns c =
    let none = c.is_text_open.ensures.no c.if-is_text_open.false in
    record {
      value = λ yes total at s sh.
          let b = c.args.self.now in
          let view : ReadText = piece_view c.args.piece (string_bytes b.buffers.scratch) in
          let v : List ℕ = view.value in
          let t : State = record { at = at; done = join s.done (leaf (Text c.args.start c.args.end v view.borrowed)); stack = s.stack; openings_left = s.openings_left } in
          let n = first_count total s.stack s.done b c.args.start c.args.end v view.borrowed sh none in
          let len = count_nodes b.nodes in
          let is : c.text_in-text.result.now ≡ v = c.text_in-text.ensures ∙ ap (λ (bs : List ℕ). (piece_view c.args.piece bs).value) c.as_str.ensures.value in
          let bytes = c.in_ok-push_str.ensures.bytes ∙ ap (λ (x : List ℕ). x ++ c.text_in-text.result.now) c.clear.ensures.bytes ∙ is in
          let borrowed : is_some c.slice-self.result ≡ view.borrowed = c.slice-self.ensures.borrowed (string_bytes b.buffers.scratch) in (
            t,
            fits_counted b.nodes_limit t (omega arith),
            rw (sym borrowed) (waiting_first total s.stack s.done b _ c.args.start c.args.end v c.slice-self.result sh none refl refl refl refl refl refl bytes refl (c.slice-self.ensures.its (string_bytes b.buffers.scratch))),
          );
      waits = λ _. refl;
      other = λ no. absurd (cc no);
      kept = record { opened = refl; tables = refl; limit = refl; openings_left = refl };
    }
