use Rattle.std.proofs.Common.{◌≡◌, ◌<◌, true, Ok, length, slice_index, slice_range, refl, ap, sym, ◌∙◌, arith}
use Rattle.std.proofs.Math.Arith.{lt_of_le-ne}
use Rattle.std.proofs.lemmas.Bool.{eqb-false}
use Rattle.rox_reading.specs.Values.{ReadText}
use Rattle.rox_scan.proofs.ShortLemmas.{ended_run}
use Rattle.rox_builder.proofs.Stepping.{plain_run, step_is_run, text_stepped}
use Rattle.rox_sections.proofs.Twice.{reads_none, reads_one}
use Rattle.rox_sections.proofs.quick_sections.join_run.Goals as goal

pub returns-then-is_at : goal.returns-then-is_at
returns-then-is_at c = record {
  value = λ context end s inner h. (0, reads_none context end c.args.cursor.now.text.now s c.args.cursor.now c.args.builder.now h);
  onward = omega arith;
  source = refl;
  kept = record { opened = refl; tables = refl; limit = refl; openings_left = refl };
}

pub returns-in_default : goal.returns-in_default
returns-in_default c = record {
  value = λ context end s inner h. (0, reads_none context end c.args.cursor.now.text.now s c.args.cursor.now c.args.builder.now h);
  onward = omega arith;
  source = refl;
  kept = record { opened = refl; tables = refl; limit = refl; openings_left = refl };
}

pub returns : goal.returns
returns c = record {
  value = λ context end s inner h.
      let cursor = c.args.cursor.now in
      let src = cursor.text.now in
      let b = c.args.builder.now in
      let i = cursor.pos in
      let e = c.in-Some.end in
      let r = ended_run src i e c.in-Some.ensures in
      let other : slice_index src i ≡ 60 → ⊥ = eqb-false _ _ (sym c.is_at.ensures ∙ c.if-is_at.false) in
      let less : i < e = lt_of_le-ne c.in-Some.ensures.looked.onward (λ same. other (ap (slice_index src) same ∙ c.in-Some.ensures.here)) in
      let text : ReadText = record { value = slice_range src i e; borrowed = true } in
      let within : s.at < length src = omega (arith, less, c.in-Some.ensures.looked.cut.0, h.here) in (
        1,
        reads_one context end src s _ c.join_piece.new.self inner within
            (rw (step_is_run context src src s i refl h.here other, plain_run context src s i e (slice_range src i e) h.here r.0 r.1)
            (text_stepped context.limit end s cursor _ b c.join_piece.new.self (Ok tt) text h c.join_piece.ensures.kept.tables c.join_piece.ensures.kept.limit c.join_piece.ensures.kept.openings_left (rw c.range.ensures.value at (c.in_ok-join_piece.ensures.value i e end e s h.shows)))),
      );
  onward = c.in-Some.ensures.looked.onward;
  source = refl;
  kept = c.join_piece.ensures.kept;
}
