-- What it means that an error is a copy of another.
use Rattle.std.specs.Prelude.{◌≡◌, ⊤, String, string_bytes}
use Rattle.std.specs.declared.alloc.Global.{Global}
use Rattle.rox_error.specs.declared.error.Error.{Error}
use Rattle.rox_error.specs.declared.error.Error.TheVariants as error

-- The two strings have equal bytes.
abbrev pub IsCopyOf : String Global → String Global → Type 0
IsCopyOf text copy = string_bytes copy ≡ string_bytes text

-- The second error is equal to the first, except that its strings are copies.
abbrev pub IsCopy : Error → Error → Type 0
IsCopy (error.DuplicatedNamespace n p) e = (m : String Global) × IsCopyOf n m × (e ≡ error.DuplicatedNamespace m p)
IsCopy (error.UnknownNamespace n p) e = (m : String Global) × IsCopyOf n m × (e ≡ error.UnknownNamespace m p)
IsCopy (error.UnexpectedCloseTag n a p) e = (m : String Global) × (b : String Global) × IsCopyOf n m × IsCopyOf a b × (e ≡ error.UnexpectedCloseTag m b p)
IsCopy (error.UnknownEntityReference n p) e = (m : String Global) × IsCopyOf n m × (e ≡ error.UnknownEntityReference m p)
IsCopy (error.DuplicatedAttribute n p) e = (m : String Global) × IsCopyOf n m × (e ≡ error.DuplicatedAttribute m p)
IsCopy (error.EntityResolver p n) e = (m : String Global) × IsCopyOf n m × (e ≡ error.EntityResolver p m)
IsCopy other e = e ≡ other

-- The error owns no string, so its copy needs no memory.
abbrev pub NamesNothing : Error → Type 0
NamesNothing (error.DuplicatedNamespace n p) = ⊥
NamesNothing (error.UnknownNamespace n p) = ⊥
NamesNothing (error.UnexpectedCloseTag n a p) = ⊥
NamesNothing (error.UnknownEntityReference n p) = ⊥
NamesNothing (error.DuplicatedAttribute n p) = ⊥
NamesNothing (error.EntityResolver p n) = ⊥
NamesNothing other = ⊤
