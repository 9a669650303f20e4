-- How values are appended to a list.
use Rattle.std.specs.Prelude.{◌≡◌, ◌++◌, Bool, true, false, List}

-- The values `more` are appended if `well` is true; otherwise the list stays.
pub record Puts {A : Type 0} (more : List A) (well : Bool) (old new : List A) : Type 0 where
  pub put : well ≡ true → new ≡ old ++ more
  pub none : well ≡ false → new ≡ old
