-- Whether an error is one of the text.
use Rattle.std.specs.Prelude.{◌≢◌, String}
use Rattle.std.specs.declared.alloc.Global.{Global}
use Rattle.rox_error.specs.declared.error.Error.{Error}
use Rattle.rox_error.specs.declared.error.Error.TheVariants as error
use Rattle.rox_error.specs.declared.position.TextPos.{TextPos}

-- The error is one of the text: it is neither `OutOfMemory` nor the resolver's own.
abbrev pub IsTextError : Error → Type 0
IsTextError e = (e ≢ error.OutOfMemory) × ((p : TextPos) (words : String Global) → e ≢ error.EntityResolver p words)
