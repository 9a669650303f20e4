use Rattle.std.proofs.Common.{◌+◌, ◌<◌, bit_and, sym, ap, subst, ◌∙◌, arith, w64}
use Rattle.std.specs.Int.{bit_at, trailing_zeros}
use Rattle.std.proofs.lemmas.Nat.Bits.{bit_at-zero}
use Rattle.rox_bytes.specs.ByteSets.{EndsSet, is_value_byte}
use Rattle.rox_bytes.proofs.MaskLemmas.{less, passes, some_left}
use Rattle.rox_bytes.proofs.window.Window.value_end.Goals as goal

pub returns-then-rest-eq0 : goal.returns-then-rest-eq0
returns-then-rest-eq0 c = λ src before seen.
    let w = c.args.self.now in
    let none = ap (bit_and w.values) (sym (less is_value_byte src w.at w.values before seen.sees.values seen.some seen.few seen.opens)) ∙ c.if-rest-eq0.true in
    passes is_value_byte src w.at w.values before seen.sees.values seen.some seen.few seen.opens 16 (omega arith) (λ k below. ap (λ m. bit_at m k) none ∙ bit_at-zero k)

pub returns : goal.returns
returns c = λ src before seen.
    let w = c.args.self.now in
    let is = ap (bit_and w.values) (less is_value_byte src w.at w.values before seen.sees.values seen.some seen.few seen.opens) in
    subst (λ n. EndsSet is_value_byte src (w.at + before) (w.at + n) × (n < 16)) (sym (c.before_first.ensures ∙ ap (trailing_zeros w64) is))
    (some_left is_value_byte src w.at w.values before seen.sees.values seen.some seen.few seen.opens (omega (arith, is, c.if-rest-eq0.false)))
