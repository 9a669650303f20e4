-- What a mask of sixteen bytes tells of those behind the first that is not in the set.
use Rattle.std.proofs.Common.{◌≡◌, ◌+◌, ◌-◌, ◌<◌, ◌≤◌, ◌/◌, ◌%◌, ◌^◌, ℕ, zero, suc, Bool, true, false, not, cond, List, map, length, get_or, bit_and, sym, ap, subst, ◌∙◌, arith, inl, inr, w64}
use Rattle.std.specs.Int.{bit_at, trailing_zeros}
use Rattle.std.specs.Simd.Lanes.{chunk, mask_l}
use Rattle.std.proofs.lemmas.Bool.{cases_lt}
use Rattle.std.proofs.lemmas.List.{get_or-map, length-map}
use Rattle.std.proofs.lemmas.Nat.Bits.{bit_at-suc, bit_at-trailing_zeros, bit_at_above, bit_at_and, bit_at_lowest}
use Rattle.std.proofs.lemmas.Simd.{bit_mask_l, get_or-chunk, length-chunk, mask_l-lt}
use Rattle.rox_bytes.specs.ByteSets.{AllPass, EndsSet, StopsSet}
use Rattle.rox_bytes.specs.Windows.{IsSeen}
use lib.Bits.{and_le_l}

-- ---- a number and the one below it have the same bits above its lowest

abbrev IsLowest : ℕ → ℕ → Type 0
IsLowest v n = (bit_at v n ≡ 1) × ((k : ℕ) → k < n → bit_at v k ≡ 0)

half_lowest : (v n : ℕ) → IsLowest v (suc n) → IsLowest (v / 2) n
half_lowest v n low = (sym (bit_at-suc v n) ∙ low.0, λ k less. sym (bit_at-suc v k) ∙ low.1 (suc k) (omega arith))

half_less : (v n : ℕ) → IsLowest v (suc n) → (v - 1) / 2 ≡ v / 2 - 1
half_less v n low = omega (arith, bit_at_lowest v, low.1 0 (omega arith))

none_there : (v n : ℕ) → IsLowest v n → bit_at (v - 1) n ≡ 0
none_there v zero low = omega (arith, bit_at_lowest v, bit_at_lowest (v - 1), low.0)
none_there v (suc n) low = bit_at-suc (v - 1) n ∙ ap (λ m. bit_at m n) (half_less v n low) ∙ none_there (v / 2) n (half_lowest v n low)

same_above : (v n k : ℕ) → IsLowest v n → n < k → bit_at (v - 1) k ≡ bit_at v k
same_above v zero zero low above = absurd (omega arith)
same_above v zero (suc k) low above = grind (arith, bit_at-suc)
same_above v (suc n) zero low above = absurd (omega arith)
same_above v (suc n) (suc k) low above =
    bit_at-suc (v - 1) k ∙ ap (λ m. bit_at m k) (half_less v n low) ∙ same_above (v / 2) n k (half_lowest v n low) (omega arith) ∙ sym (bit_at-suc v k)

-- so both have all but the lowest
cleared : (v n k : ℕ) → IsLowest v n → k ≤ n → bit_at (bit_and v (v - 1)) k ≡ 0
cleared v n k low up = elim (cases_lt k n) [
  | inl less ↦ omega (arith, bit_at_and v (v - 1) k, low.1 k less)
  | inr more ↦ let same : k ≡ n = omega arith in omega (arith, bit_at_and v (v - 1) k, ap (bit_at (v - 1)) same, none_there v n low)
]

kept : (v n k : ℕ) → IsLowest v n → n < k → bit_at (bit_and v (v - 1)) k ≡ bit_at v k
kept v n k low above = omega (arith, bit_at_and v (v - 1) k, same_above v n k low above)

-- ---- a bit tells whether the byte at its place is in the set

abbrev bit_of : Bool → ℕ
bit_of b = cond (not b) 1 0

tells : (p : ℕ → Bool) (src : List ℕ) (i others k : ℕ) → IsSeen p src i others → k < 16 → bit_at others k ≡ bit_of (p (get_or src (i + k) 0))
tells p src i others k seen few =
    let q = λ (b : ℕ). not (p b) in
    ap (λ m. bit_at m k) seen.mask ∙ bit_mask_l (map q (chunk i 16 src)) k
    ∙ ap (λ b. cond b 1 0) (get_or-map q (chunk i 16 src) k 0 false (omega (arith, length-chunk i 16 src seen.within)) ∙ ap q (get_or-chunk i 16 src k 0 few))

by_none : (b : Bool) → bit_of b ≡ 0 → b ≡ true
by_none b none = grind arith

by_one : (b : Bool) → bit_of b ≡ 1 → b ≡ false
by_one b one = grind arith

few_bits : (p : ℕ → Bool) (src : List ℕ) (i others : ℕ) → IsSeen p src i others → others < 2 ^ 16
few_bits p src i others seen =
    let ms = map (λ b. not (p b)) (chunk i 16 src) in
    let long : length ms ≡ 16 = length-map (chunk i 16 src) (λ b. not (p b)) ∙ length-chunk i 16 src seen.within in
    subst (λ m. m < 2 ^ 16) (sym seen.mask) (subst (λ n. mask_l ms < 2 ^ n) long (mask_l-lt ms))

-- the first that is not in it is among them
pub first_few : (p : ℕ → Bool) (src : List ℕ) (i others j : ℕ) → IsSeen p src i others → 0 < others → StopsSet p src i j → j < i + 16
first_few p src i others j seen some stops = elim (cases_lt j (i + 16)) [
  | inl less ↦ less
  | inr more ↦ (
      let t = trailing_zeros w64 others in
      let small = few_bits p src i others seen in
      let one = (bit_at-trailing_zeros w64 others some (omega (arith, small))).1 in
      let inside : t < 16 = elim (cases_lt t 16) [ inl below ↦ below | inr above ↦ absurd (omega (arith, one, bit_at_above others 16 t small above)) ] in
      let passes = stops.ends.passes (i + t) (omega arith) (omega (arith, inside, more)) in
      absurd (cc (passes, (by_one _ (sym (tells p src i others t seen inside) ∙ one)))))
]

-- ---- what is behind the first that is not in it

module _ (p : ℕ → Bool) (src : List ℕ) (i others before : ℕ) (seen : IsSeen p src i others) (some : 0 < before) (few : before ≤ 16) (opens : EndsSet p src i (i + (before - 1))) where
  lowest : IsLowest others (before - 1)
  lowest =
      let within = seen.within in (
        tells p src i others (before - 1) seen (omega (arith, some, few)) ∙ ap bit_of (opens.stops (omega (arith, some, few, within))),
        λ k less. tells p src i others k seen (omega (arith, some, few)) ∙ ap bit_of (opens.passes (i + k) (omega arith) (omega arith)),
      )

  -- the number below it does not wrap
  pub less : (others + 18446744073709551615) % 18446744073709551616 ≡ others - 1
  less =
      let small = few_bits p src i others seen in
      grind (arith, lowest)

  -- what has no bit behind it passes
  pub passes : (e : ℕ) → e ≤ 16 → ((k : ℕ) → k < e → bit_at (bit_and others (others - 1)) k ≡ 0) → AllPass p src (i + before) (i + e)
  passes e short none k low high =
      let j = k - i in
      subst (λ m. p (get_or src m 0) ≡ true) (omega arith)
      (by_none _ (sym (tells p src i others j seen (omega arith)) ∙ sym (kept others (before - 1) j lowest (omega (arith, some))) ∙ none j (omega arith)))

  pub some_left : 0 < bit_and others (others - 1)
      → EndsSet p src (i + before) (i + trailing_zeros w64 (bit_and others (others - 1))) × (trailing_zeros w64 (bit_and others (others - 1)) < 16)
  some_left left =
      let v = others in
      let rest = bit_and v (v - 1) in
      let t = trailing_zeros w64 rest in
      let n = before - 1 in
      let within = seen.within in
      let small = few_bits p src i v seen in
      let first = bit_at-trailing_zeros w64 rest left (omega (arith, small, and_le_l v (v - 1))) in
      let one = first.1 in
      let behind : n < t = elim (cases_lt n t) [ inl below ↦ below | inr more ↦ absurd (omega (arith, one, cleared v n t lowest more)) ] in
      let same = kept v n t lowest behind in
      let inside : t < 16 = elim (cases_lt t 16) [ inl below ↦ below | inr more ↦ absurd (omega (arith, one, same, bit_at_above v 16 t small more)) ] in (
        record {
          onward = omega (arith, behind, some);
          within = omega (arith, inside, within);
          passes = passes t (omega (arith, inside)) first.2;
          stops = λ more. by_one _ (sym (tells p src i v t seen inside) ∙ sym same ∙ one);
        },
        inside,
      )
