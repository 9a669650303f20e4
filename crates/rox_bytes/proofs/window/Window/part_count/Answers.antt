use Rattle.std.proofs.Common.{◌≡◌, ◌+◌, ap, refl, sym, subst, ◌∙◌, arith, inl, inr}
use Rattle.std.proofs.lemmas.Bool.{cases_eq}
use Rattle.rox_bytes.specs.ByteSets.{EndsSet, is_part_byte}
use Rattle.rox_bytes.proofs.LaneLemmas.{first_seen, none_seen}
use Rattle.rox_bytes.proofs.window.Window.part_count.Goals as goal
use lib.Count.{count_trailing_zeros}

-- no bit, no count below the width
none_left : count_trailing_zeros 64 0 ≡ 64
unfolding count_trailing_zeros
none_left = refl

pub returns : goal.returns
returns c =
    let w = c.args.self.now in
    let is = c.before_first.ensures in
    record {
      few = λ src sees few. elim (cases_eq w.parts 0) [
        | inl none ↦ absurd (omega (arith, few, is, ap (count_trailing_zeros 64) none ∙ none_left))
        | inr some ↦ subst (λ n. EndsSet is_part_byte src w.at (w.at + n)) (sym is) (first_seen is_part_byte src w.at w.parts sees.parts (omega (arith, some)))
      ];
      all = λ src sees many. elim (cases_eq w.parts 0) [
        | inl none ↦ none_seen is_part_byte src w.at w.parts sees.parts none
        | inr some ↦ (let ends = first_seen is_part_byte src w.at w.parts sees.parts (omega (arith, some)) in
            λ k low high. ends.passes k low (omega (arith, is, high, many)))
      ];
    }
