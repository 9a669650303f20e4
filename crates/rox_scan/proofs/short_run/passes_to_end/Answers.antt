use Rattle.std.proofs.Common.{◌≡◌, ◌+◌, ◌-◌, ◌≤◌, ◌/◌, ◌^◌, ◌==◌, ℕ, Bool, true, List, not, map, length, sym, ap, subst, ◌∙◌, arith}
use Rattle.std.specs.Simd.Lanes.{chunk, mask_l}
use Rattle.std.proofs.lemmas.Bool.Decides.{nat_tests}
use Rattle.rox_bytes.specs.ByteSets.{AllPass}
use Rattle.rox_bytes.proofs.LaneLemmas.{counted_none, block_passes, mask_from}
use Rattle.rox_scan.proofs.short_run.passes_to_end.Goals as goal

is_none : (n : ℕ) → (n == 0) ≡ true → n ≡ 0
is_none n h = grind (arith, nat_tests)

-- none of the last sixteen from a place on has a bit
last_pass : (p : ℕ → Bool) (src : List ℕ) (i at others : ℕ) → i + 16 ≡ length src → i ≤ at → at ≤ length src → others ≡ mask_l (map (λ b. not (p b)) (chunk i 16 src)) → others / 2 ^ (at - i) ≡ 0 → AllPass p src at (length src)
last_pass p src i at others long from within is none =
    let q = λ (b : ℕ). not (p b) in
    let n = at - i in
    let fits : (i + n) + (16 - n) ≤ length src = omega arith in
    let rest : others / 2 ^ n ≡ mask_l (map q (chunk (i + n) (16 - n) src)) = ap (λ m. m / 2 ^ n) is ∙ mask_from q src i 16 n (omega arith) in
    let counted = counted_none q src (i + n) (16 - n) fits (sym rest ∙ none) in
    subst (λ b. AllPass p src b (length src)) (omega arith) (subst (λ e. AllPass p src (i + n) e) (omega arith) (block_passes p src (i + n) (16 - n) (16 - n) fits counted))

pub returns : goal.returns
returns g c = λ yes. last_pass g.C.ByteSet.test c.args.bytes.now (length c.args.bytes.now - 16) c.args.at _ (omega (arith, c.requires.room)) (omega (arith, c.requires.short)) c.requires.within c.others-others.ensures (is_none _ yes)
