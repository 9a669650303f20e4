use Rattle.std.proofs.Common.{◌∙◌, arith}
use Rattle.rox_values.proofs.BitLemmas.{from_start, inner_cut, inner_fails, inner_on, inner_reads, inner_tag}
use Rattle.rox_values.proofs.plain_bits.inner_stretch_end.Goals as goal

pub chars_up_to-requires : goal.chars_up_to-requires
chars_up_to-requires c =
    let src = c.args.text.now in
    let stop = c.args.stop in
    let cur = c.at-cursor.ensures in
    let e = rw (c.range-front.ensures.value ∙ from_start src stop) at c.skip_set-end.ensures in
    rw (cur.source, cur.place) (record { onward = e.onward; cut = inner_cut src stop c.args.at c.skip_set-end.result c.requires.begins.rest.stop e })

pub returns-in_err-chars_up_to : goal.returns-in_err-chars_up_to
returns-in_err-chars_up_to c = grind (arith, inner_fails)

pub returns-then-is_at : goal.returns-then-is_at
returns-then-is_at c = grind (arith, inner_tag)

pub returns : goal.returns
returns c = grind (arith, inner_reads, inner_on)
