-- The messages for a text that is not a path.
use Rattle.std.specs.Prelude.{ℕ, List, ◌++◌, codes, decimal}
use Rattle.rox_path.specs.declared.parse.PathError.{PathError}
use Rattle.rox_path.specs.declared.parse.PathError.TheVariants.{BadPath, OutOfMemory}

-- The text that an error prints.
abbrev pub message : PathError → List ℕ
message (BadPath place) = codes "bad path at byte " ++ decimal place
message OutOfMemory = codes "out of memory"
