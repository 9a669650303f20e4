-- Stretches of a source.
use Rattle.std.proofs.Common.{◌≡◌, ℕ, zero, suc, ◌+◌, ◌-◌, ◌<◌, ◌≤◌, List, [], ◌∷◌, ◌++◌, length, take, drop, get_or, slice_range, refl, ap, ◌∙◌, arith, length-drop}
use Rattle.std.proofs.Math.Seq.{take-append-add}
use Rattle.std.proofs.lemmas.List.{length-take, get_or-drop, take_more, take_all, take-append-le, drop-append-le}
use Rattle.std.proofs.lemmas.List.Folds.{drop_split}

-- How long a stretch is.
pub range_length : (src : List ℕ) (i j : ℕ) → i ≤ j → j ≤ length src → length (slice_range src i j) ≡ j - i
range_length src i j le inside = omega (arith, length-take (j - i) (drop i src), length-drop i src)

-- A stretch in two parts.
pub range_parts : (src : List ℕ) (a b c : ℕ) → a ≤ b → b ≤ c → c ≤ length src → slice_range src a c ≡ slice_range src a b ++ slice_range src b c
range_parts src a b c le le' inside =
    let long = range_length src a b le (omega arith) in
    let e : c - a ≡ length (slice_range src a b) + (c - b) = omega arith in
    ap (take (c - a)) (drop_split src a b le) ∙ ap (λ (n : ℕ). take n (slice_range src a b ++ drop b src)) e ∙ take-append-add (slice_range src a b) (drop b src) (c - b)

-- A stretch with one more.
pub slice-more : {A : Type 0} (xs : List A) (i j : ℕ) (d : A) → i ≤ j → j < length xs → slice_range xs i (j + 1) ≡ slice_range xs i j ++ get_or xs j d ∷ []
slice-more xs i j d le lt =
    let g : get_or (drop i xs) (j - i) d ≡ get_or xs (i + (j - i)) d = rw get_or-drop refl in
    ap (λ m. take m (drop i xs)) (omega arith) ∙ take_more (drop i xs) (j - i) d (rw length-drop (omega arith))
    ∙ ap (λ x. take (j - i) (drop i xs) ++ x ∷ []) (g ∙ ap (λ m. get_or xs m d) (omega arith))

-- A stretch up to the end.
pub slice-rest : {A : Type 0} (xs : List A) (i : ℕ) → slice_range xs i (length xs) ≡ drop i xs
slice-rest xs i = take_all (length xs - i) (drop i xs) (rw length-drop (omega arith))

-- A stretch of a list that has grown.
pub slice-append : {X : Type 0} (xs ys : List X) (i j : ℕ) → i ≤ j → j ≤ length xs → slice_range (xs ++ ys) i j ≡ slice_range xs i j
slice-append xs ys i j ordered within =
    ap (take (j - i)) (drop-append-le i xs ys (omega arith)) ∙ take-append-le (j - i) (drop i xs) ys (long xs i j ordered within)
  where
    long : {X : Type 0} (xs : List X) (i j : ℕ) → i ≤ j → j ≤ length xs → j - i ≤ length (drop i xs)
    long xs zero j ordered within = omega arith
    long [] (suc i) j ordered within = omega arith
    long (x ∷ xs) (suc i) j ordered within = let k = long xs i (j - 1) (omega arith) (omega arith) in omega arith
