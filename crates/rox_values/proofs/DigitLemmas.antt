-- Digits, one after another.
use Rattle.std.proofs.Common.{◌≡◌, ℕ, ◌+◌, ◌*◌, ◌<◌, ◌≤◌, ◌&&◌, min, nat_lt, nat_eq, not, Bool, true, false, List, [], ◌∷◌, ◌++◌, length, get_or, drop, arith, add-zero, add_assoc, sym, inl, inr}
use Rattle.std.specs.List.{prefix_len, slice_range}
use Rattle.std.proofs.lemmas.List.{drop_more, drop_all}
use Rattle.std.proofs.lemmas.Bool.{cases_lt}
use Rattle.std.proofs.lemmas.Bool.Decides.{nat_tests}
use Rattle.std.proofs.lemmas.Grind.{fold-append}
use Rattle.std.proofs.Math.Nat.{mul-le-mul_left, mul-le-mul_right}
use Rattle.rox_grammar.specs.References.{bytes_end, number, digit_value}
use Rattle.rox_grammar.proofs.Stretches.{slice-more}

pub bytes_on : (p : ℕ → Bool) (src : List ℕ) (i : ℕ) → i < length src → p (get_or src i 0) ≡ true → bytes_end p src (i + 1) ≡ bytes_end p src i
unfolding bytes_end
bytes_on p src i within passes = rw (drop_more src i 0 within, passes) (add_assoc i 1 (prefix_len p (drop (i + 1) src)))

pub bytes_stop : (p : ℕ → Bool) (src : List ℕ) (i : ℕ) → i < length src → p (get_or src i 0) ≡ false → bytes_end p src i ≡ i
unfolding bytes_end
bytes_stop p src i within fails = rw (drop_more src i 0 within, fails) (add-zero i)

pub bytes_past : (p : ℕ → Bool) (src : List ℕ) (i : ℕ) → length src ≤ i → bytes_end p src i ≡ i
unfolding bytes_end
bytes_past p src i past = rw (drop_all i src past) (add-zero i)

pub ruleset digit_steps = (bytes_on, bytes_stop, bytes_past)

number_append : (base d : ℕ) (digits : List ℕ) → number base (digits ++ d ∷ []) ≡ number base digits * base + digit_value d
number_append base d digits = fold-append (λ n d. n * base + digit_value d) 0 digits (d ∷ [])

-- a number goes on from where it was stopped
stopped : (base n d limit : ℕ) → 0 < base → min (min n limit * base + d) limit ≡ min (n * base + d) limit
stopped base n d limit some =
    elim (cases_lt n limit) [
      | inl below ↦ grind arith
      | inr past ↦
          let is : min n limit ≡ limit = omega (arith, past) in
          rw is (omega (arith, mul-le-mul_left limit some, mul-le-mul_right base past))
    ]

-- one more digit
pub one_more_digit : (base : ℕ) (src : List ℕ) (at e limit : ℕ) → 0 < base → at ≤ e → e < length src
    → min (number base (slice_range src at (e + 1))) limit ≡ min (min (number base (slice_range src at e)) limit * base + digit_value (get_or src e 0)) limit
one_more_digit base src at e limit some le lt =
    rw (slice-more src at e 0 le lt, number_append base (get_or src e 0) (slice_range src at e)) (sym (stopped base (number base (slice_range src at e)) (digit_value (get_or src e 0)) limit some))

pub equal_below : (m n limit : ℕ) → m < limit → (nat_lt m limit && not (nat_eq m n)) ≡ false → m ≡ n
equal_below m n limit below h = grind (arith, nat_tests)
