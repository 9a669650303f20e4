use Rattle.std.proofs.Common.{◌≡◌, ◌<◌, ℕ, List, false, get_or, refl, ap, ◌∙◌, arith, ne_eqb}
use Rattle.rox_reading.specs.Values.{is_special}
use Rattle.rox_scan.specs.Lookahead.{ends_value}
use Rattle.rox_scan.proofs.LongerLemmas.{value_char, any_value_near}
use Rattle.rox_scan.proofs.lookahead.scan_value.Goals as goal

pub loop-end-init : goal.loop-end-init
loop-end-init c =
    let n = c.skip_set-end.ensures in
    record { looked = any_value_near c.args.from.text.now c.args.quote.byte c.args.from.pos _ c.args.from.utf8 c.args.quote.is c.args.from.cut n.onward n.within n.passes n.stops }

pub loop-end-preserved : goal.loop-end-preserved
loop-end-preserved c =
    let src = c.args.from.text.now in
    let j = c.loop-end.end in
    let a = c.after_char-next.ensures.step in
    let read = ap (λ (l : List ℕ). get_or l j 0) c.as_bytes-bytes.ensures.value in
    let other = ne_eqb (get_or src j 0) c.args.quote.byte (λ h. c.if-here-quote.false (read ∙ h)) in
    let no_tag = ne_eqb (get_or src j 0) 60 (λ h. absurd (omega (arith, h, read, c.if-here-eq60.false))) in
    let here : ends_value c.args.quote.byte src j ≡ false = rw (other, no_tag) refl in
    let some : j < c.after_char-next.result = omega (arith, a.onward, c.if-next-end.false) in
    let changed : c.is_special.result ≡ is_special (get_or src j 0) = c.is_special.ensures ∙ ap is_special read in
    record { looked = c.value_stretch_end-end.ensures.looked c.args.from.pos c.args.from.cut (rw changed (value_char src c.args.quote.byte c.args.from.pos j _ c.loop-end.is_verbatim c.args.from.utf8 c.args.quote.is c.args.from.cut c.loop-end.invariant.looked some a.cut a.chars a.wide here)) }
