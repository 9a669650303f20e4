use Rattle.std.proofs.Common.{◌≡◌, ◌<◌, false, sym, ◌∙◌, arith}
use Rattle.rox_scan.proofs.LongerLemmas.{comment_near, comment_on}
use Rattle.rox_scan.specs.Lookahead.{ends_comment}
use Rattle.rox_scan.proofs.lookahead.comment_end.Goals as goal

pub loop-end-init : goal.loop-end-init
loop-end-init c =
    let n = c.skip_set-end.ensures in
    record { looked = comment_near c.args.from.text.now c.args.from.pos _ c.args.from.utf8 c.args.from.cut n.onward n.within n.passes n.stops }

pub loop-end-preserved : goal.loop-end-preserved
loop-end-preserved c =
    let src = c.args.from.text.now in
    let j = c.loop-end.end in
    let a = c.after_char-next.ensures.step in
    let n = c.skip_set-end-in-loop-end.ensures in
    let here : ends_comment src j ≡ false = sym c.is_mark_at.ensures ∙ c.if-is_mark_at.false in
    let some : j < c.after_char-next.result = omega (arith, a.onward, c.if-next-end.false) in
    record { looked = comment_on src c.args.from.pos j _ _ c.args.from.utf8 c.args.from.cut c.loop-end.invariant.looked some a.cut a.chars a.wide here n.onward n.within n.passes n.stops }
