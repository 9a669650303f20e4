use Rattle.std.proofs.Common.{ℕ, List, length, not, map, ap, ◌∙◌, arith, inl, inr}
use Rattle.std.specs.Simd.Lanes.{mask_l}
use Rattle.std.proofs.lemmas.Bool.{cases_lt}
use Rattle.rox_bytes.specs.ByteSets.{eased}
use Rattle.rox_bytes.specs.Windows.{IsSeen}
use Rattle.rox_bytes.proofs.EasedLemmas.{eased_passes, eased_stops, length_eased}
use Rattle.rox_bytes.proofs.LaneLemmas.{none_seen, first_seen}
use Rattle.rox_bytes.proofs.byte_set.skip_eased.Goals as goal

pub returns-then-others-ne0 : goal.returns-then-others-ne0
returns-then-others-ne0 g c =
    let p = g.C.ByteSet.test in
    let src = c.args.text.now in
    let own = ap (λ (l : List ℕ). length l) c.as_bytes-bytes.ensures.value in
    let long = length_eased src in
    let seen : IsSeen p (eased src) c.loop-block.block c.others-others.result = record {
      within = omega (arith, long, c.loop-block-test.true, own);
      mask = c.others-others.ensures ∙ ap (λ (l : List ℕ). mask_l (map (λ b. not (p b)) l)) (rw c.as_bytes-bytes.ensures.value at c.eased_at.ensures);
    } in
    let here = first_seen p (eased src) c.loop-block.block c.others-others.result seen (omega (arith, c.if-others-ne0.true)) in
    rw c.before_first-count.ensures (record {
      onward = omega (arith, c.loop-block.invariant.onward, here.onward);
      within = omega (arith, here.within, long);
      passes = λ k low high. elim (cases_lt k c.loop-block.block) [
        | inl before ↦ c.loop-block.invariant.passes k low before
        | inr behind ↦ eased_passes p src k (omega (arith, high, here.within, long)) (here.passes k behind high)
      ];
      stops = λ more. eased_stops p src _ more (here.stops (omega (arith, more, long)));
    })

pub loop-block-preserved : goal.loop-block-preserved
loop-block-preserved g c =
    let p = g.C.ByteSet.test in
    let src = c.args.text.now in
    let own = ap (λ (l : List ℕ). length l) c.as_bytes-bytes.ensures.value in
    let seen : IsSeen p (eased src) c.loop-block.block c.others-others.result = record {
      within = omega (arith, length_eased src, c.loop-block-test.true, own);
      mask = c.others-others.ensures ∙ ap (λ (l : List ℕ). mask_l (map (λ b. not (p b)) l)) (rw c.as_bytes-bytes.ensures.value at c.eased_at.ensures);
    } in
    let here = none_seen p (eased src) c.loop-block.block c.others-others.result seen (omega (arith, c.if-others-ne0.false)) in
    record {
      onward = omega (arith, c.loop-block.invariant.onward);
      within = omega (arith, c.loop-block-test.true, own);
      passes = λ k low high. elim (cases_lt k c.loop-block.block) [
        | inl before ↦ c.loop-block.invariant.passes k low before
        | inr behind ↦ eased_passes p src k (omega (arith, high, c.loop-block-test.true, own)) (here k behind high)
      ];
    }
