use Rattle.std.specs.Prelude.{◌≡◌, ◌≢◌, ℕ, List, ◌∷◌, ◌++◌, All, length, Some}
use Rattle.rox_dump.specs.Numbers.{number_of}

-- The batch starts with the text `text`, and `rest` follows. A text is its length in decimal digits, a line feed, its bytes, and
-- a line feed.
abbrev pub BeginsWith : List ℕ → List ℕ → List ℕ → Type 0
BeginsWith batch text rest =
    (digits : List ℕ) × (number_of digits ≡ Some (length text)) × (batch ≡ digits ++ (10 ∷ (text ++ (10 ∷ rest))))

-- The bytes contain no line feed.
abbrev pub IsOneLine : List ℕ → Type 0
IsOneLine bytes = All (λ byte. byte ≢ 10) bytes

-- The first `count` bytes are `text`. A line feed follows them, and then `rest`.
abbrev pub IsSplit : List ℕ → ℕ → List ℕ → List ℕ → Type 0
IsSplit bytes count text rest = (length text ≡ count) × (bytes ≡ text ++ (10 ∷ rest))
