use Rattle.std.proofs.Common.{◌≡◌, false, Ok, slice_range, refl, sym, ◌∙◌, arith, string_bytes, eqb-true}
use Rattle.rox_builder.specs.BuilderState.{KeepsOpen}
use Rattle.rox_builder.proofs.Stepping.{parted_run, same_shows}
use Rattle.rox_sections.proofs.ChangedRuns.{changed_run}
use Rattle.rox_sections.proofs.Twice.{text_stepped_at}
use Rattle.rox_sections.proofs.quick_data.put_changed_data.Goals as goal

pub returns : goal.returns
returns c =
    let src = c.args.text.now in
    let b = c.args.builder.now in
    let i = c.args.start in
    let j = c.in-Some.end in
    let run = c.in-Some.ensures in
    let put = c.put_text.ensures in
    let k = put.adds.kept in
    let u = c.put_text.new.self in
    let kept : KeepsOpen b u = record { opened = k.opened; tables = k.tables; limit = k.limit; openings_left = k.openings_left } in
    let given = c.changed_data.ensures c.if-not-changed_data.false in
    let bytes = string_bytes c.changed_data.new.out in
    record {
      value = λ _ context end s here behind main start stop h.
          let from : i ≡ s.at = sym start ∙ h.here in
          rw (parted_run context src s i j (slice_range src i j) from run.value run.changes, changed_run context src s i j bytes from main run.some run.within given)
          (text_stepped_at context.limit end s here behind i j b u (Ok tt) (record { value = bytes; borrowed = false }) start stop h kept
          (rw (c.in-Ok.ensures.bytes ∙ c.as_str-changed.ensures.value, c.in-Ok.ensures.owned) at (put.adds.value end j s (same_shows end s.stack s.done b _ h.shows refl refl refl refl refl))));
      other = λ no. absurd (omega (arith, no, c.requires.room.short, run.within));
      cut = λ _. run.cut;
      ready = λ _ most r. put.ready most (record { room = r.room; few = r.few; small = r.small; settled = r.settled });
      moves = λ _. run.some;
      tables = kept.tables;
      opened = kept.opened;
      rows = λ _. put.rows;
      behind = λ _. eqb-true _ _ (sym c.is_at-is_before_markup.ensures ∙ c.if-not-is_before_markup.false);
    }
