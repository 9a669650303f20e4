-- A stretch of a list: its first, its last, and how many it has.
use Rattle.std.proofs.Common.{◌≡◌, ℕ, ◌+◌, ◌-◌, ◌<◌, ◌≤◌, List, [], ◌∷◌, ◌++◌, length, get_or, map, take, drop, ap, ◌∙◌, drop-cons, arith, slice_range}
use Rattle.std.proofs.lemmas.List.{take_more, take_all, get_or-drop, length-map, length-drop, length-take-le}

-- the first, and the rest
pub first_of : {X : Type 0} (xs : List X) (i j : ℕ) (d : X) → i < j → j ≤ length xs → slice_range xs i j ≡ get_or xs i d ∷ slice_range xs (i + 1) j
first_of xs i j d o w = grind (arith, drop-cons)

-- those before the last, and the last
pub last_of : {X : Type 0} (xs : List X) (i j : ℕ) (d : X) → i < j → j ≤ length xs → slice_range xs i j ≡ slice_range xs i (j - 1) ++ get_or xs (j - 1) d ∷ []
last_of xs i j d o w =
    let n : length (drop i xs) ≡ length xs - i = length-drop i xs in
    ap (λ n. take n (drop i xs)) (omega arith) ∙ take_more (drop i xs) ((j - 1) - i) d (omega arith)
    ∙ ap (λ x. take ((j - 1) - i) (drop i xs) ++ x ∷ []) (get_or-drop i xs ((j - 1) - i) d ∙ ap (λ n. get_or xs n d) (omega arith))

-- how many there are, also of what they are mapped to
pub length_stretch : {X Y : Type 0} (f : X → Y) (xs : List X) (i j : ℕ) → i ≤ j → j ≤ length xs → length (map f (slice_range xs i j)) ≡ j - i
length_stretch f xs i j o w = grind (arith, length-drop, length-map, length-take-le)

-- all of the list
pub whole : {X : Type 0} (xs : List X) (n : ℕ) → n ≡ length xs → slice_range xs 0 n ≡ xs
whole xs n e = take_all (n - 0) xs (omega arith)
