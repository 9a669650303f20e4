-- A stretch of a value within a replacement text ends at the first byte that is none of its own.
use Rattle.std.proofs.Common.{◌≡◌, ℕ, ◌<◌, ◌≤◌, true, false, List, length, get_or, arith}
use Rattle.std.proofs.lemmas.Bool.Decides.{nat_tests}
use Rattle.rox_grammar.specs.Search.{byte_from}
use Rattle.rox_bytes.specs.ByteSets.{AllPass}
use Rattle.rox_bytes.proofs.NearLemmas.{near_found}
use Rattle.rox_values.specs.Values.{ends_stretch, is_inner_byte}

inner_plain : (b : ℕ) → is_inner_byte b ≡ true → ends_stretch b ≡ false
unfolding is_inner_byte
inner_plain b h = grind (arith, nat_tests)

inner_ends : (b : ℕ) → is_inner_byte b ≡ false → ends_stretch b ≡ true
unfolding is_inner_byte
inner_ends b h = grind (arith, nat_tests)

pub inner_stops : (src : List ℕ) (i e : ℕ) → i ≤ e → e ≤ length src → AllPass is_inner_byte src i e → (e < length src → is_inner_byte (get_or src e 0) ≡ false) → byte_from ends_stretch src i ≡ e
inner_stops src i e le within all stops = near_found is_inner_byte ends_stretch src i e le within all inner_plain (λ more. inner_ends _ (stops more))
