use Rattle.std.proofs.Common.{arith}
use Rattle.rox_bytes.specs.ByteSets.{is_char_byte}
use Rattle.rox_bytes.proofs.NearLemmas.{near_chars, char_cut}
use Rattle.rox_scan.proofs.CharLemmas.{chars_joined, chars_go_on, run_ends_here}
use Rattle.rox_scan.proofs.lookahead.chars_end.Goals as goal

pub loop-end-init : goal.loop-end-init
loop-end-init c =
    let src = c.args.from.text.now in
    let n = c.skip_set-end.ensures in
    let cut = char_cut src _ n.within n.stops in
    record { onward = n.onward; cut = cut; chars = near_chars is_char_byte src c.args.from.pos _ c.args.from.utf8 c.args.from.cut n.onward cut n.passes (λ b h. h) }

pub loop-end-preserved : goal.loop-end-preserved
loop-end-preserved c =
    let src = c.args.from.text.now in
    let i = c.args.from.pos in
    let f = c.loop-end.invariant in
    let a = c.after_char-next.ensures.step in
    let n = c.skip_set-end-in-loop-end.ensures in
    let cut = char_cut src _ n.within n.stops in
    let behind = near_chars is_char_byte src _ _ c.args.from.utf8 a.cut n.onward cut n.passes (λ b h. h) in
    let joined = chars_joined src i _ _ c.args.from.utf8 c.args.from.cut f.cut a.cut f.onward a.onward f.chars a.chars in
    record {
      onward = omega (arith, f.onward, a.onward, n.onward);
      cut = cut;
      chars = chars_joined src i _ _ c.args.from.utf8 c.args.from.cut a.cut cut (omega (arith, f.onward, a.onward)) n.onward joined behind;
    }

pub returns-then-next-end : goal.returns-then-next-end
returns-then-next-end c = grind (arith, chars_go_on, run_ends_here)
