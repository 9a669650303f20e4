use Rattle.std.proofs.Common.{ℕ, List, slice_index, refl, ap, ◌∙◌, arith}
use Rattle.rox_builder.proofs.Stepping.{step_is_markup}
use Rattle.rox_sections.proofs.PlainReads.{keeps_same}
use Rattle.rox_content.proofs.quick_content.markup_of_text.Goals as goal

pub returns-then-next-eq47 : goal.returns-then-next-eq47
returns-then-next-eq47 c = record {
  value = λ yes context end s around h.
      rw (step_is_markup context c.args.cursor.now.text.now _ s c.args.cursor.now.pos 47 c.as_bytes-bytes.ensures.value h.here (ap (λ (xs : List ℕ). slice_index xs c.args.cursor.now.pos) c.as_bytes-bytes.ensures.value ∙ c.requires.here) c.if-cursor-bytes.false c.if-next-eq47.true (λ e. cc e))
      (c.close_element.ensures.value yes context end s around h);
  other = λ no. let o = c.close_element.ensures.other no in (o.0, keeps_same _ _ o.1);
  goes = c.close_element.ensures.goes;
}

pub returns : goal.returns
returns c = record {
  value = λ _ context end s around h. c.put_delimited-stop.ensures.value (omega (arith, c.if-stop-gt-MOST_BYTES.false)) context end s c.args.cursor.now _ refl refl h;
  other = λ no. absurd (cc no);
  goes = record { source = refl; fine = c.put_delimited-stop.ensures.fine };
}

pub returns-then-stop-gt-MOST_BYTES : goal.returns-then-stop-gt-MOST_BYTES
returns-then-stop-gt-MOST_BYTES c = grind arith

pub invariant_of-cursor : goal.invariant_of-cursor
invariant_of-cursor c = grind arith
