-- Stretches of bytes, by first ones and last ones that cover them.
use Rattle.std.proofs.Common.{◌≡◌, ℕ, zero, suc, ◌+◌, ◌-◌, ◌≤◌, Bool, true, false, List, [], ◌∷◌, ◌++◌, length, take, drop, slice_range, bytes_eq, refl, sym, ap, ◌∙◌, arith, take_all, take-append-drop, length-drop}
use Rattle.std.proofs.lemmas.Slice.Eq.{bytes_eq-Decides}

pub take_of_take : (xs : List ℕ) (k n : ℕ) → k ≤ n → take k (take n xs) ≡ take k xs
take_of_take xs zero n l = refl
take_of_take [] (suc k) zero l = absurd (omega arith)
take_of_take [] (suc k) (suc n) l = refl
take_of_take (x ∷ xs) (suc k) zero l = absurd (omega arith)
take_of_take (x ∷ xs) (suc k) (suc n) l = ap (λ (ys : List ℕ). x ∷ ys) (take_of_take xs k n (omega arith))

-- the last word is what is left behind the bytes before it
pub last_of : (w : ℕ) (xs : List ℕ) (last : ℕ) → length xs ≡ last + w → slice_range xs last (last + w) ≡ drop last xs
last_of w xs last n =
    let left = length-drop last xs in
    take_all _ (drop last xs) (omega (arith, left, n))

covered : (w v : ℕ) (one other : List ℕ) (last : ℕ) → last ≤ w → length one ≡ last + v → length other ≡ last + v
    → take w one ≡ take w other → slice_range one last (last + v) ≡ slice_range other last (last + v) → one ≡ other
covered w v one other last l m n p q =
    let front : take last one ≡ take last other = sym (take_of_take one last w l) ∙ ap (take last) p ∙ take_of_take other last w l in
    let back : drop last one ≡ drop last other = sym (last_of v one last m) ∙ q ∙ last_of v other last n in
    sym (take-append-drop last one) ∙ ap (λ (xs : List ℕ). xs ++ drop last one) front ∙ ap (λ (ys : List ℕ). take last other ++ ys) back ∙ take-append-drop last other

pub same_truth : (a b : Bool) → (a ≡ true → b ≡ true) → (b ≡ true → a ≡ true) → a ≡ b
same_truth true b f g = sym (f refl)
same_truth false true f g = g refl
same_truth false false f g = refl

-- where the first w bytes are the same, and the last v begin at their end or before it, these tell
pub ends_tell : (w v : ℕ) (one other : List ℕ) (last : ℕ) → last ≤ w → length one ≡ last + v → length other ≡ last + v → bytes_eq (slice_range one 0 w) (slice_range other 0 w) ≡ true
    → bytes_eq (slice_range one last (last + v)) (slice_range other last (last + v)) ≡ bytes_eq one other
ends_tell w v one other last l m n first =
    let whole : w - 0 ≡ w = omega arith in
    let p : take w one ≡ take w other = ap (λ (k : ℕ). take k one) (sym whole) ∙ (bytes_eq-Decides (slice_range one 0 w) (slice_range other 0 w)).0 first ∙ ap (λ (k : ℕ). take k other) whole in
    same_truth _ _
    (λ h. (bytes_eq-Decides one other).1 (covered w v one other last l m n p ((bytes_eq-Decides (slice_range one last (last + v)) (slice_range other last (last + v))).0 h)))
    (λ h. (bytes_eq-Decides (slice_range one last (last + v)) (slice_range other last (last + v))).1 (ap (λ (xs : List ℕ). slice_range xs last (last + v)) ((bytes_eq-Decides one other).0 h)))

-- where the first word is the same, the last word tells
pub last_tell : (w : ℕ) (one other : List ℕ) (last : ℕ) → last ≤ w → length one ≡ last + w → length other ≡ last + w → bytes_eq (slice_range one 0 w) (slice_range other 0 w) ≡ true
    → bytes_eq (slice_range one last (last + w)) (slice_range other last (last + w)) ≡ bytes_eq one other
last_tell w = ends_tell w w
