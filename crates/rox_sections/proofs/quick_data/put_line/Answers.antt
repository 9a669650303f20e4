use Rattle.std.proofs.Common.{◌+◌, ◌≡◌, false, Ok, slice_range, refl, sym, ◌∙◌, arith}
use Rattle.rox_reading.specs.Values.{ReadText}
use Rattle.rox_builder.specs.BuilderState.{KeepsOpen}
use Rattle.rox_builder.proofs.Stepping.{parted_run, same_shows}
use Rattle.rox_sections.proofs.LineRuns.{line_run}
use Rattle.rox_sections.proofs.Twice.{text_stepped_at}
use Rattle.rox_sections.proofs.quick_data.put_line.Goals as goal

pub returns : goal.returns
returns c =
    let src = c.args.text.now in
    let b = c.args.builder.now in
    let i = c.args.start in
    let j = c.args.end in
    let run = c.requires.run in
    let put = c.put_text.ensures in
    let u = c.put_text.new.self in
    let kept : KeepsOpen b u = record { opened = put.adds.kept.opened; tables = put.adds.kept.tables; limit = put.adds.kept.limit; openings_left = put.adds.kept.openings_left } in
    record {
      value = λ _ context end s here behind main start stop h.
          let text : ReadText = record { value = slice_range src (i + 1) j; borrowed = false } in
          let from : i ≡ s.at = sym start ∙ h.here in
          rw (parted_run context src s i j (slice_range src i j) from run.value run.verbatim, line_run context src s i j from main run.line)
          (text_stepped_at context.limit end s here behind i j b u (Ok tt) text start stop h kept
          (rw (c.requires.owned.bytes, c.requires.owned.owned) at (put.adds.value end j s (same_shows end s.stack s.done b _ h.shows refl refl refl refl refl))));
      other = λ no. absurd (omega (arith, no, c.requires.here.room.short, run.line.within));
      cut = λ _. run.cut;
      ready = λ _ most r. put.ready most (record { room = r.room; few = r.few; small = r.small; settled = r.settled });
      moves = λ _. omega (arith, run.line.some);
      tables = kept.tables;
      opened = kept.opened;
      rows = λ _. put.rows;
      behind = λ _. c.requires.behind;
    }
