use Rattle.std.proofs.Common.{true, Ok, refl, slice_index, slice_range, ap, ◌∙◌}
use Rattle.std.proofs.Math.Arith.{lt_of_le-ne}
use Rattle.rox_reading.specs.Values.{ReadText}
use Rattle.rox_scan.proofs.ShortLemmas.{ended_run}
use Rattle.rox_builder.proofs.Stepping.{plain_run, text_stepped}
use Rattle.rox_sections.proofs.PlainReads.{fine_same}
use Rattle.rox_sections.proofs.quick_data.put_character_data.Goals as goal

pub returns : goal.returns
returns c = record {
  value = λ _ context end s _ h.
      let cursor = c.args.cursor.now in
      let src = cursor.text.now in
      let b = c.args.builder.now in
      let i = cursor.pos in
      let e = c.in-Some.end in
      let r = ended_run src i e c.in-Some.ensures in
      let text : ReadText = record { value = slice_range src i e; borrowed = true } in
      rw (plain_run context src s i e (slice_range src i e) h.here r.0 r.1)
      (text_stepped context.limit end s cursor _ b c.put_text.new.self (Ok tt) text h c.put_text.ensures.adds.kept.tables c.put_text.ensures.adds.kept.limit c.put_text.ensures.adds.kept.openings_left (rw c.range.ensures.value at (c.put_text.ensures.adds.value end e s h.shows)));
  other = λ no. absurd (cc no);
  ready = λ _. c.put_text.ensures.ready;
  moves = λ _. lt_of_le-ne c.in-Some.ensures.looked.onward (λ e. c.requires.here (ap (slice_index c.args.cursor.now.text.now) e ∙ c.in-Some.ensures.here));
  goes = record { source = refl; fine = fine_same c.args.builder.now c.put_text.new.self c.requires.room.fine c.put_text.ensures.adds.kept.tables c.put_text.ensures.adds.kept.opened };
  opened = c.put_text.ensures.adds.kept.opened;
  rows = λ _. c.put_text.ensures.rows;
  behind = λ _. c.in-Some.ensures.here;
}
