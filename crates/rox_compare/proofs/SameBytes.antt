-- Two stretches of bytes that begin alike.
use Rattle.std.proofs.Common.{◌≡◌, ℕ, zero, suc, ◌<◌, ◌^◌, ◌%◌, Bool, true, false, not, eqb, cond, List, map, length, get_or, refl, sym, ap, subst, ◌∙◌, arith, w8, map-id}
use Rattle.std.specs.List.{prefix_len}
use Rattle.std.specs.Simd.Lanes.{mask_l, top, zip2}
use Rattle.std.proofs.lemmas.Bool.{eqb-true, not-false, not-true}
use Rattle.std.proofs.lemmas.List.Sums.{prefix_len_passes, prefix_len_stops}
use Rattle.std.proofs.lemmas.Simd.{length-zip2, get_or-zip2, tops_compared, mask_l-mod, leading_from_mask_l, trailing_mask_l}
use lib.Count.{count_trailing_zeros}

-- lanes that differ
abbrev pub differ : ℕ → ℕ → Bool
differ a b = not (eqb a b)

abbrev pub differs : ℕ → ℕ → ℕ
differs a b = cond (not (eqb a b)) 255 0

-- no bit is set before the lowest
before_lowest : (ms : List Bool) (k : ℕ) → length ms ≡ 16 → k < 16 → k < count_trailing_zeros 64 (mask_l ms) → get_or ms k false ≡ false
before_lowest ms k long few below =
    let e = map-id ms in
    not-true _ (prefix_len_passes (λ (b : Bool). not b) ms k false (grind (arith, leading_from_mask_l, trailing_mask_l)))

-- bytes before the first of sixteen that differs
pub agree_before : (us vs : List ℕ) (m k : ℕ) → length us ≡ 16 → length vs ≡ 16 → m ≡ mask_l (map (top 7) (zip2 differs us vs)) % 2 ^ 64 → k < 16 → k < count_trailing_zeros 64 m → get_or us k 0 ≡ get_or vs k 0
agree_before us vs m k one other is few below =
    let ms = zip2 differ us vs in
    let long : length ms ≡ 16 = length-zip2 differ us vs (one ∙ sym other) ∙ one in
    let at : m ≡ mask_l ms = is ∙ ap (λ ms. mask_l ms % 2 ^ 64) (tops_compared w8 differ us vs) ∙ mask_l-mod ms 64 (omega arith) in
    let apart = before_lowest ms k long few (subst (λ (n : ℕ). k < count_trailing_zeros 64 n) at below) in
    eqb-true _ _ (not-false _ (sym (get_or-zip2 differ us vs k 0 0 false (omega arith) (omega arith)) ∙ apart))

-- a number without set bits has no lowest one
none_set : count_trailing_zeros 64 0 ≡ 64
unfolding count_trailing_zeros
none_set = refl

some_set : (n : ℕ) → count_trailing_zeros 64 n < 16 → 0 < n
some_set zero few = absurd (omega (arith, none_set))
some_set (suc n) few = omega arith

-- the lowest bit that is set
lowest_set : (ms : List Bool) → length ms ≡ 16 → count_trailing_zeros 64 (mask_l ms) < 16 → get_or ms (count_trailing_zeros 64 (mask_l ms)) false ≡ true
lowest_set ms long few =
    let first : count_trailing_zeros 64 (mask_l ms) ≡ prefix_len (λ (b : Bool). not b) ms = subst (λ (xs : List Bool). 0 < mask_l xs → count_trailing_zeros 64 (mask_l xs) ≡ prefix_len (λ (b : Bool). not b) ms) (map-id ms) (trailing_mask_l (λ (b : Bool). b) 64 ms (omega (arith, long))) (some_set (mask_l ms) few) in
    rw first (not-false _ (prefix_len_stops (λ (b : Bool). not b) ms false (omega (arith, first))))

-- the bytes at the first place of sixteen that differs
pub differ_at : (us vs : List ℕ) (m : ℕ) → length us ≡ 16 → length vs ≡ 16 → m ≡ mask_l (map (top 7) (zip2 differs us vs)) % 2 ^ 64 → count_trailing_zeros 64 m < 16
    → eqb (get_or us (count_trailing_zeros 64 m) 0) (get_or vs (count_trailing_zeros 64 m) 0) ≡ false
differ_at us vs m one other is few =
    let ms = zip2 differ us vs in
    let long : length ms ≡ 16 = length-zip2 differ us vs (one ∙ sym other) ∙ one in
    let at : m ≡ mask_l ms = is ∙ ap (λ ms. mask_l ms % 2 ^ 64) (tops_compared w8 differ us vs) ∙ mask_l-mod ms 64 (omega arith) in
    let low = rw at at few in
    rw at (not-true _ (sym (get_or-zip2 differ us vs (count_trailing_zeros 64 (mask_l ms)) 0 0 false (omega arith) (omega arith)) ∙ lowest_set ms long low))
