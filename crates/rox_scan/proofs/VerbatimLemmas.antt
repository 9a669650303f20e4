-- Bytes that a search does not find.
use Rattle.std.proofs.Common.{◌≡◌, ℕ, ◌==◌, ◌||◌, not, Bool, List, [], ◌∷◌, length, refl, arith}
use Rattle.std.specs.List.{position_or_len, list_any}
use Rattle.rox_grammar.specs.Content.{is_verbatim}

-- a search reaches the end where no byte passes
nowhere_step : (p : ℕ → Bool) (x : ℕ) (xs : List ℕ) (b : Bool) → p x ≡ b → (position_or_len p xs == length xs) ≡ not (list_any p xs) → (position_or_len p (x ∷ xs) == length (x ∷ xs)) ≡ not (list_any p (x ∷ xs))
nowhere_step p x xs b is rest = grind arith

nowhere : (p : ℕ → Bool) (xs : List ℕ) → (position_or_len p xs == length xs) ≡ not (list_any p xs)
nowhere p [] = refl
nowhere p (x ∷ xs) = nowhere_step p x xs (p x) refl (nowhere p xs)

pub run_plain : (xs : List ℕ) → (position_or_len (λ c. c == 38 || c == 13) xs == length xs) ≡ is_verbatim xs
run_plain xs = nowhere (λ c. c == 38 || c == 13) xs
