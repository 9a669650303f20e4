-- Short texts as words.
use Rattle.std.specs.Prelude.{◌≤◌, ℕ, List, length}

-- At least `few` bytes, and at most `many`.
pub record HasLength (few many : ℕ) (bytes : List ℕ) : Type 0 where
  pub least : few ≤ length bytes
  pub most : length bytes ≤ many
