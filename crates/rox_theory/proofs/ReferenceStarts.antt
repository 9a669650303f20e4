-- How a reference to a character begins, byte by byte.
use Rattle.std.proofs.Common.{◌≡◌, ℕ, ◌+◌, true, List, sym, ap, ◌∙◌, arith}
use Rattle.std.specs.Prelude.{codes}
use Rattle.rox_grammar.specs.Search.{stands}
use Rattle.rox_grammar.specs.Names.{byte}
use Rattle.rox_grammar.specs.Constructs.{text_at}
use Rattle.rox_theory.proofs.Basics.{within}
use Rattle.rox_theory.proofs.Places.{here_is, stands_two}
use Rattle.rox_theory.proofs.DeclarationLemmas.{stands_reads}

-- `&#`.
pub hash_bytes : (src : List ℕ) (i : ℕ) → text_at "&#" src i ≡ true → (byte src i ≡ 38) × (byte src (i + 1) ≡ 35)
hash_bytes src i h =
    (sym (ap (byte src) (omega arith)) ∙ stands_reads (codes "&#") src i 0 h (omega arith), stands_reads (codes "&#") src i 1 h (omega arith))

pub hash_stands : (src : List ℕ) (i : ℕ) → byte src i ≡ 38 → byte src (i + 1) ≡ 35 → text_at "&#" src i ≡ true
hash_stands src i amp hash = stands_two 38 35 src i (within src (i + 1) (λ z. omega arith)) amp hash

-- `&#x`.
pub hex_bytes : (src : List ℕ) (i : ℕ) → text_at "&#x" src i ≡ true → (byte src i ≡ 38) × (byte src (i + 1) ≡ 35) × (byte src (i + 2) ≡ 120)
hex_bytes src i h =
    let z : i + 0 ≡ i = omega arith in (
      sym (ap (byte src) z) ∙ stands_reads (codes "&#x") src i 0 h (omega arith),
      stands_reads (codes "&#x") src i 1 h (omega arith),
      stands_reads (codes "&#x") src i 2 h (omega arith),
    )

pub hex_stands : (src : List ℕ) (i : ℕ) → byte src i ≡ 38 → byte src (i + 1) ≡ 35 → byte src (i + 2) ≡ 120 → text_at "&#x" src i ≡ true
unfolding stands
hex_stands src i amp hash hex = grind (arith, within, here_is)
