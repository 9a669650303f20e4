use Rattle.std.proofs.Common.{rules, get_or, ap, ◌∙◌}
use Rattle.rox_values.proofs.SectionLemmas.{part_stretch, stretch_moves}
use Rattle.rox_values.proofs.line_ends.section_part.Goals as goal

pub returns-then-as_bytes-at-ne13 : goal.returns-then-as_bytes-at-ne13
returns-then-as_bytes-at-ne13 c =
    record {
      value = search (rules, part_stretch);
      moves = stretch_moves c.args.raw.now c.args.at _ c.byte_from-end.ensures.finds.place c.requires.within (λ h. c.if-as_bytes-at-ne13.true (ap (λ t. get_or t c.args.at 0) c.as_bytes.ensures.value ∙ h));
      cut = search rules;
    }
