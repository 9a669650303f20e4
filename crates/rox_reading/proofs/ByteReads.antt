-- What single bytes are read as.
use Rattle.std.proofs.Common.{◌≡◌, ℕ, true, ◌+◌, ◌<◌, List, Ok, length, slice_index, refl, arith}
use Rattle.std.proofs.lemmas.Bool.{eq-eqb, lt-leb}
use Rattle.std.proofs.lemmas.Bool.Decides.{nat_tests}
use Rattle.std.proofs.lemmas.List.{get_or_past}
use Rattle.rox_reading.specs.Lexical.{byte_at}
use Rattle.rox_reading.specs.Values.{is_special}

-- a byte but 0 that is there is read
pub byte_is : (src : List ℕ) (i b : ℕ) → slice_index src i ≡ b → 0 < b → byte_at b src i ≡ Ok (tt, i + 1)
unfolding byte_at
byte_is src i b is some =
    let within : i < length src = grind (arith, get_or_past) in
    rw (lt-leb (length src) i within, eq-eqb (slice_index src i) b is) refl

-- A byte that ends a stretch of a value is ASCII.
pub special_ascii : (b : ℕ) → is_special b ≡ true → b < 128
special_ascii b h = grind (arith, nat_tests)
