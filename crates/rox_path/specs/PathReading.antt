-- What each step of reading a path gives.
use Prim.Native.Char.{code}
use Rattle.std.specs.Prelude.{◌≡◌, ℕ, ◌<◌, ◌≤◌, List, length, IsCharBoundary}
use Rattle.rox_grammar.specs.Names.{byte, slice}
use Rattle.rox_path.specs.declared.parse.PathError.{PathError}
use Rattle.rox_path.specs.declared.parse.PathError.TheVariants.{BadPath, OutOfMemory}
use Rattle.rox_path.specs.Steps.{Expanded, PathStep}
use Rattle.rox_path.specs.Paths.{local_end, uri_end, IsStepName, IsStep}

-- The range from `i` up to `j` is not empty, and `j` is between two characters.
pub record EndsBehind (text : List ℕ) (i j : ℕ) : Type 0 where
  pub onward : i < j
  pub cut : IsCharBoundary text j

-- A local name is read from `i` up to its end `j`.
pub record ReadsLocal (text : List ℕ) (i j : ℕ) (read : List ℕ) : Type 0 where
  pub end : j ≡ local_end text i
  pub local : read ≡ slice text i j
  pub ends : EndsBehind text i j

-- A name is read from `i` up to its end `j`.
pub record ReadsName (text : List ℕ) (i j : ℕ) (read : Expanded) : Type 0 where
  pub name : IsStepName text i j read
  pub ends : EndsBehind text i j

-- A step is read from `i` up to its end `j`.
pub record ReadsStep (text : List ℕ) (i j : ℕ) (read : PathStep) : Type 0 where
  pub step : IsStep text i j read
  pub ends : EndsBehind text i j

-- The URI that starts at `i` ends at `j`: at a `}`, or at the end of the text.
pub record ReadsUri (text : List ℕ) (i j : ℕ) : Type 0 where
  pub value : j ≡ uri_end text i
  pub onward : i ≤ j
  pub within : j ≤ length text
  pub found : j < length text → byte text j ≡ code "}"

-- If the error has an offset, `P` holds of it.
abbrev pub ToldAt : (ℕ → Type 0) → PathError → Type 0
ToldAt P (BadPath place) = P place
ToldAt P OutOfMemory = Unit {0}
