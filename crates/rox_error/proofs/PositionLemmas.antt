-- Where a character and a line begin.
use Rattle.std.proofs.Common.{◌≡◌, ℕ, zero, suc, ◌+◌, ◌-◌, ◌<◌, ◌≤◌, ◌==◌, true, not, cond, List, length, take, drop, get_or, inl, inr, refl, sym, ap, ◌∙◌, arith, add-zero, add-one, add-suc, take_all}
use Rattle.std.proofs.lemmas.Bool.{cases_Bool, false_from_ne_true}
use Rattle.std.proofs.lemmas.List.Sums.{suffix_len-take_yes, suffix_len-take_no}
use Rattle.std.specs.List.{suffix_len, after_last}

-- the nearest place at or before n that begins a line
abbrev pub line_start : List ℕ → ℕ → ℕ
line_start src zero = 0
line_start src (suc n) = cond (get_or src n 0 == 10) (suc n) (line_start src n)

line_start_is : (src : List ℕ) (n : ℕ) → n ≤ length src → n - suffix_len (λ b. not (b == 10)) (take n src) ≡ line_start src n
line_start_is src zero within = omega arith
line_start_is src (suc n) within =
    let at : suc n - 1 ≡ n = omega arith in
    elim (cases_Bool (get_or src n 0 == 10)) as (λ q. suc n - suffix_len (λ b. not (b == 10)) (take (suc n) src) ≡ line_start src (suc n)) [
      | inl here ↦ (
          let none = suffix_len-take_no (λ b. not (b == 10)) src (suc n) 0 (omega arith) within (rw (at, here) refl) in
          rw (none, here) (omega arith))
      | inr other ↦ (
          let more : suffix_len (λ b. not (b == 10)) (take (suc n) src) ≡ 1 + suffix_len (λ b. not (b == 10)) (take n src) =
          suffix_len-take_yes (λ b. not (b == 10)) src (suc n) 0 (omega arith) within (rw (at, other) refl) ∙ ap (λ (k : ℕ). 1 + suffix_len (λ b. not (b == 10)) (take k src)) at in
          rw other (omega (arith, more, line_start_is src n (omega arith))))
    ]

pub last_line_is : (src : List ℕ) → after_last (λ b. b == 10) src ≡ drop (line_start src (length src)) src
last_line_is src =
    let whole : take (length src) src ≡ src = take_all (length src) src (omega arith) in
    ap (λ (n : ℕ). drop n src) (ap (λ (xs : List ℕ). length src - suffix_len (λ b. not (b == 10)) xs) (sym whole) ∙ line_start_is src (length src) (omega arith))

pub line_start_back : (src : List ℕ) (n d : ℕ) → ((j : ℕ) → n ≤ j → j < n + d → (get_or src j 0 == 10) ≡ true → ⊥) → line_start src (n + d) ≡ line_start src n
line_start_back src n zero none = rw add-zero refl
line_start_back src n (suc d) none =
    let here = false_from_ne_true (get_or src (n + d) 0 == 10) (none (n + d) (omega arith) (omega arith)) in
    rw (add-suc, here) (line_start_back src n d (λ j low high. none j low (omega arith)))

pub line_start_found : (src : List ℕ) (k : ℕ) → k < length src → (get_or src k 0 == 10) ≡ true → ((j : ℕ) → k + 1 ≤ j → j < length src → (get_or src j 0 == 10) ≡ true → ⊥) → line_start src (length src) ≡ k + 1
line_start_found src k within here after =
    ap (line_start src) (sym (omega arith)) ∙ line_start_back src (k + 1) (length src - (k + 1)) (λ j low high. after j low (omega arith)) ∙ rw (add-one, here) refl

pub line_start_none : (src : List ℕ) → ((j : ℕ) → 0 ≤ j → j < length src → (get_or src j 0 == 10) ≡ true → ⊥) → line_start src (length src) ≡ 0
line_start_none src none =
    ap (line_start src) (sym (omega arith)) ∙ line_start_back src 0 (length src) (λ j low high. none j low (omega arith))
