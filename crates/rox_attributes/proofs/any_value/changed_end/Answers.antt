use Rattle.std.proofs.Common.{◌≡◌, ◌<◌, ℕ, List, false, get_or, refl, ap, ◌∙◌, arith, ne_eqb}
use Rattle.rox_scan.specs.Lookahead.{ends_value}
use Rattle.rox_attributes.proofs.SpacedEnds.{spaced_near, spaced_on}
use Rattle.rox_attributes.proofs.any_value.changed_end.Goals as goal

pub loop-end-init : goal.loop-end-init
loop-end-init c =
    let n = c.skip_set-end.ensures in
    record { looked = spaced_near c.args.text.now c.args.quote c.args.start _ c.utf8.text c.requires.quote c.requires.cut n.onward n.within n.passes n.stops }

pub loop-end-preserved : goal.loop-end-preserved
loop-end-preserved c =
    let src = c.args.text.now in
    let j = c.loop-end.end in
    let a = c.after_char-next.ensures.step in
    let n = c.skip_set-end-in-loop-end.ensures in
    let read = ap (λ (l : List ℕ). get_or l j 0) c.as_bytes-bytes.ensures.value in
    let other = ne_eqb (get_or src j 0) c.args.quote (λ h. c.if-here-quote.false (read ∙ h)) in
    let no_tag = ne_eqb (get_or src j 0) 60 (λ h. absurd (omega (arith, h, read, c.if-here-eq60.false))) in
    let here : ends_value c.args.quote src j ≡ false = rw (other, no_tag) refl in
    let some : j < c.after_char-next.result = omega (arith, a.onward, c.if-next-end.false) in
    record { looked = spaced_on src c.args.quote c.args.start j _ _ c.utf8.text c.requires.quote c.requires.cut c.loop-end.invariant.looked some a.cut a.chars a.wide here n.onward n.within n.passes n.stops }
