use Rattle.std.proofs.Common.{◌≡◌, ◌≢◌, ◌++◌, refl, ap, ◌∙◌, List, ℕ, arith, string_bytes}
use Rattle.rox_grammar.specs.Forest.{join}
use Rattle.rox_grammar.specs.Written.{Text, leaf}
use Rattle.rox_reading.specs.State.{State}
use Rattle.rox_reading.specs.Values.{ReadText}
use Rattle.rox_values.specs.Values.{piece_view}
use Rattle.rox_builder.specs.PendingText.{waiting}
use Rattle.rox_builder.specs.declared.pending.Pending.{Pending}
use Rattle.rox_builder.specs.declared.pending.Pending.TheVariants as pending
use Rattle.rox_builder.proofs.Showing.{slice_more, piece_more, written_count, more_count}
use Rattle.rox_theory.proofs.Leaves.{fits_counted}
use Rattle.rox_rows.proofs.StoredNodes.{count_nodes}
use Rattle.rox_builder.proofs.builder.Builder.join_piece.Goals as goal

is_written : (p : Pending) → p ≢ pending.None → p ≢ pending.Joined → p ≡ pending.Written
is_written p some other = grind arith

pub returns-in-Joined : goal.returns-in-Joined
returns-in-Joined c = record {
  value = λ start end total at s sh.
      let b = c.args.self.now in
      let view : ReadText = piece_view c.args.piece (string_bytes b.buffers.scratch) in
      let v : List ℕ = view.value in
      let t : State = record { at = at; done = join s.done (leaf (Text start end v view.borrowed)); stack = s.stack; openings_left = s.openings_left } in
      let n = more_count total s.stack s.done b start end v view.borrowed sh c.in-Joined.is in
      let w = ap waiting c.in-Joined.is in
      let len = count_nodes b.nodes in
      let most = b.counted in
      let some = b.shallow in
      let is : c.text_in-text.result.now ≡ v = c.text_in-text.ensures ∙ ap (λ (bs : List ℕ). (piece_view c.args.piece bs).value) c.as_str.ensures.value in
      let joined = c.in_ok-push_str.ensures.bytes ∙ ap (λ (x : List ℕ). string_bytes b.joined.text ++ x) is in
      (t, fits_counted b.nodes_limit t (omega arith), piece_more total s.stack s.done b _ start end v view.borrowed sh c.in-Joined.is refl refl refl c.in-Joined.is refl refl joined refl);
  waits = c.in-Joined.is;
  kept = record { opened = refl; tables = refl; limit = refl; openings_left = refl };
}

pub returns : goal.returns
returns c =
    let b = c.args.self.now in
    let was = is_written b.pending c.requires c.in_default.not-Joined in
    record {
      value = λ start end total at s sh.
          let view : ReadText = piece_view c.args.piece (string_bytes b.buffers.scratch) in
          let v : List ℕ = view.value in
          let t : State = record { at = at; done = join s.done (leaf (Text start end v view.borrowed)); stack = s.stack; openings_left = s.openings_left } in
          let n = written_count total s.stack s.done b start end v view.borrowed sh was in
          let len = count_nodes b.nodes in
          let most = b.counted in
          let some = b.shallow in
          let w = ap waiting was in
          let x = c.in_ok-range.ensures.taken in
          let is : c.text_in-text.result.now ≡ v = c.text_in-text.ensures ∙ ap (λ (bs : List ℕ). (piece_view c.args.piece bs).value) c.as_str.ensures.value in
          (t, fits_counted b.nodes_limit t (omega arith), slice_more total s.stack s.done b _ x.0 start end v view.borrowed sh was x.1 refl refl refl (rw x.2 refl) (rw x.2 refl) (rw is at x.3) refl);
      waits = refl;
      kept = record { opened = refl; tables = refl; limit = refl; openings_left = refl };
    }
