use Rattle.std.proofs.Common.{◌≡◌, ◌+◌, ◌-◌, ◌<◌, ◌≤◌, ◌%◌, bit_and, sym, ap, subst, ◌∙◌, arith, inl, inr, w64}
use Rattle.std.specs.Int.{trailing_zeros}
use Rattle.std.proofs.lemmas.Bool.{cases_eq}
use Rattle.rox_bytes.specs.ByteSets.{EndsSet}
use Rattle.rox_bytes.proofs.MaskLemmas.{first_few, less, some_left}
use Rattle.rox_bytes.proofs.byte_set.skip_second.Goals as goal
use lib.Bits.{and_le_l}

pub returns : goal.returns
returns g c =
    let p = g.C.ByteSet.test in
    let src = c.args.text.now in
    let i = c.args.at in
    let j = c.args.run.at in
    let v = c.args.run.others in
    let left = c.if-rest-eq0.false in
    let some : 0 < v = elim (cases_eq v 0) [
      | inl none ↦ absurd (left (omega (arith, none, and_le_l v ((v + 18446744073709551615) % 18446744073709551616))))
      | inr is ↦ omega (arith, is)
    ] in
    let seen = c.requires.seen some in
    let onward = c.requires.stops.ends.onward in
    let before = j + 1 - i in
    let at_least : 0 < before = omega (arith, onward) in
    let at_most : before ≤ 16 = omega (arith, (first_few p src i v j seen some c.requires.stops)) in
    let last : j ≡ i + (before - 1) = omega (arith, onward) in
    let opens = subst (EndsSet p src i) last c.requires.stops.ends in
    let is = ap (bit_and v) (less p src i v before seen at_least at_most opens) in
    let ends = (some_left p src i v before seen at_least at_most opens (omega (arith, is, left))).0 in
    let end = sym (c.before_first.ensures ∙ ap (trailing_zeros w64) is) in
    subst (λ n. EndsSet p src (j + 1) (i + n)) end (subst (λ m. EndsSet p src m (i + trailing_zeros w64 (bit_and v (v - 1)))) (omega (arith, onward)) ends)
