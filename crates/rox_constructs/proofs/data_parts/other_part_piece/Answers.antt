use Rattle.std.proofs.Common.{◌≡◌, [], false, refl, sym, ap, ◌∙◌, arith, length, rules, string_bytes}
use Rattle.std.proofs.lemmas.Grind.{common_steps}
use Rattle.std.proofs.lemmas.Bool.{eqb-false}
use Rattle.std.proofs.lemmas.Result.{err_from_is_err_and}
use Rattle.rox_values.specs.Contexts.{context_of}
use Rattle.rox_values.specs.Values.{next_view}
use Rattle.rox_builder.proofs.Stepping.{same_shows}
use Rattle.rox_builder.proofs.Parting.{rests_of, text_rests, text_refused, part_piece_is, part_piece_fails}
use Rattle.rox_constructs.proofs.data_parts.other_part_piece.Goals as goal

pub returns-in_err-piece : goal.returns-in_err-piece
returns-in_err-piece c = record {
  value = λ limit end es s declared h.
      let src = c.args.cursor.now.text.now in
      let b = c.args.builder.now in
      let text = string_bytes c.part.new.buffers.scratch in
      let next = next_view c.in_ok-next.next c.part.new.cursor.pos in
      let e = c.in_ok-next.ensures.value es declared in
      let ok = c.part.new.buffers.scratch.bytes.ok.0 in
      let some : text ≡ [] → ⊥ = λ none. eqb-false _ 0 (sym c.is_empty.ensures ∙ c.if-is_empty.false) (let k = ap length none in omega arith) in
      let a = c.in_err-piece.ensures.value end c.args.stop s (same_shows end s.stack s.done b _ h.shows refl refl refl refl refl) in
      let p = err_from_is_err_and c.from_residual-in_err-piece.result c.from_residual-in_err-piece.ensures.1 in
      rw (p.1, p.2) (part_piece_fails (context_of limit es c.args.context) src c.args.start c.args.stop s e.0 text next c.in_err-piece.field-0.0 (rw h.here at e.1) e.2 some
      (text_refused limit end s b c.piece.new.self c.in_err-piece.field-0.0 c.args.start c.args.stop text false (rests_of limit end s c.args.cursor.now b h) a));
  goes = let p = err_from_is_err_and c.from_residual-in_err-piece.result c.from_residual-in_err-piece.ensures.1 in rw p.1 tt;
}

pub returns : goal.returns
returns c = record {
  value = λ limit end es s declared h.
      let b = c.args.builder.now in
      let text = string_bytes c.part.new.buffers.scratch in
      let next = next_view c.in_ok-next.next c.part.new.cursor.pos in
      let e = c.in_ok-next.ensures.value es declared in
      let ok = c.part.new.buffers.scratch.bytes.ok.0 in
      let some : text ≡ [] → ⊥ = λ none. eqb-false _ 0 (sym c.is_empty.ensures ∙ c.if-is_empty.false) (let k = ap length none in omega arith) in
      let a = c.in_ok-piece.ensures.value end c.args.stop s (same_shows end s.stack s.done b _ h.shows refl refl refl refl refl) in
      let t = text_rests limit end s b c.piece.new.self _ c.args.start c.args.stop text false (rests_of limit end s c.args.cursor.now b h) c.piece.ensures.kept.tables c.piece.ensures.kept.limit c.piece.ensures.kept.openings_left a in
      (t.0, part_piece_is (context_of limit es c.args.context) c.args.cursor.now.text.now c.args.start c.args.stop s t.0 e.0 text next (rw h.here at e.1) e.2 some t.1, t.2);
  goes = first_of (search rules, grind (arith, common_steps));
}
