-- What holds of all items of a list, and lists that have the same items.
use Rattle.std.proofs.Common.{◌≡◌, ℕ, zero, suc, ◌-◌, List, [], ◌∷◌, ◌++◌, map, take, drop, refl, ap, ◌∙◌}
use Rattle.std.specs.List.{AllByRecursion, slice_range}

pub all_take : {X : Type 0} (P : X → Type 0) (n : ℕ) (xs : List X) → AllByRecursion P xs → AllByRecursion P (take n xs)
all_take P zero xs h = tt
all_take P (suc n) [] h = tt
all_take P (suc n) (x ∷ xs) (p, h) = (p, all_take P n xs h)

pub all_drop : {X : Type 0} (P : X → Type 0) (n : ℕ) (xs : List X) → AllByRecursion P xs → AllByRecursion P (drop n xs)
all_drop P zero xs h = h
all_drop P (suc n) [] h = tt
all_drop P (suc n) (x ∷ xs) (p, h) = all_drop P n xs h

pub all_slice : {X : Type 0} (P : X → Type 0) (xs : List X) (i j : ℕ) → AllByRecursion P xs → AllByRecursion P (slice_range xs i j)
all_slice P xs i j h = all_take P (j - i) (drop i xs) (all_drop P i xs h)

pub all_append : {X : Type 0} (P : X → Type 0) (xs ys : List X) → AllByRecursion P xs → AllByRecursion P ys → AllByRecursion P (xs ++ ys)
all_append P [] ys h k = k
all_append P (x ∷ xs) ys (p, h) k = (p, all_append P xs ys h k)

pub all_weaker : {X : Type 0} (P Q : X → Type 0) (xs : List X) → ((x : X) → P x → Q x) → AllByRecursion P xs → AllByRecursion Q xs
all_weaker P Q [] w h = tt
all_weaker P Q (x ∷ xs) w (p, h) = (w x p, all_weaker P Q xs w h)

pub map_same : {X Y : Type 0} (f g : X → Y) (P : X → Type 0) (xs : List X) → ((x : X) → P x → f x ≡ g x) → AllByRecursion P xs → map f xs ≡ map g xs
map_same f g P [] e h = refl
map_same f g P (x ∷ xs) e (p, h) = ap (λ y. y ∷ map f xs) (e x p) ∙ ap (λ ys. g x ∷ ys) (map_same f g P xs e h)
