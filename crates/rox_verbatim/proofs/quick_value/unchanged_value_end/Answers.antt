use Rattle.std.proofs.Common.{◌<◌, sym, ◌∙◌, arith}
use Rattle.rox_bytes.proofs.NearLemmas.{value_cut}
use Rattle.rox_verbatim.proofs.Verbatim.{value_closed, value_went_on}
use Rattle.rox_verbatim.proofs.quick_value.unchanged_value_end.Goals as goal

pub returns-then-is_at : goal.returns-then-is_at
returns-then-is_at c =
    let n = c.requires.near in
    value_closed c.args.text.now c.args.start c.args.near c.args.quote c.utf8.text c.requires.cut c.requires.quote n.onward n.within n.passes (sym c.is_at.ensures ∙ c.if-is_at.true)

pub value_end_beyond-end-requires : goal.value_end_beyond-end-requires
value_end_beyond-end-requires c =
    let n = c.requires.near in
    record {
      cut = value_cut c.args.text.now c.args.start c.args.near c.utf8.text c.requires.cut n.onward n.within n.passes;
      quote = c.requires.quote;
    }

pub returns : goal.returns
returns c =
    let n = c.requires.near in
    let zero = c.if-end-eq0.false in
    let some : 0 < c.value_end_beyond-end.result = omega arith in
    value_went_on c.args.text.now c.args.start c.args.near _ c.args.quote c.utf8.text c.requires.cut c.requires.quote n.onward n.within n.passes (c.value_end_beyond-end.ensures some)
