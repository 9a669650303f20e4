-- Buffers in front of writers.
use Rattle.std.proofs.Common.{◌≡◌, refl, ap, ◌∙◌, List, ℕ, [], ◌++◌, Option, Some, None, append-nil, Result, Ok, Err, IfOk}
use Rattle.std.specs.Io.KnownBytes.{append_known}

-- an empty buffer adds nothing to what is known
pub nothing_held : (known : Option (List ℕ)) (held : List ℕ) → held ≡ [] → append_known known held ≡ known
nothing_held None held is = refl
nothing_held (Some bytes) held is = ap Some (ap (λ h. bytes ++ h) is ∙ append-nil bytes)

-- what follows of a result
pub if_ok : {A E : Type 0} {P Q : A → Type 0} (r : Result A E) → ((a : A) → P a → Q a) → IfOk r P → IfOk r Q
if_ok (Ok a) f p = f a p
if_ok (Err e) f p = tt
