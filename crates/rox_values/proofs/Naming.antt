-- A name that is held behind its code is found by the code and the name, and no other is.
use Rattle.std.proofs.Common.{◌≡◌, ℕ, false, ◌&&◌, ◌==◌, List, refl, bytes_eq, arith}
use Rattle.std.proofs.lemmas.Bool.Decides.{nat_tests}
use Rattle.std.proofs.lemmas.Map.Text.{is_eq-slice_cmp}
use Rattle.std.proofs.lemmas.Slice.Eq.{bytes_eq-Decides}
use Rattle.std.specs.declared.cmp.Ordering.{Ordering}
use Rattle.std.specs.Ordering.{is_eq, nat_cmp, ordering_then}
use Rattle.std.specs.Cmp.Lexicographic.{slice_cmp}
use Rattle.rox_values.specs.HeldEntities.{code_of}

both_tie : (r s : Ordering) → is_eq (ordering_then r s) ≡ (is_eq r && is_eq s)
both_tie r s = grind arith

codes_tie : (x y : ℕ) → is_eq (nat_cmp x y) ≡ (x == y)
codes_tie x y = grind (arith, nat_tests)

names_tie : (x y : ℕ) (name held : List ℕ) → is_eq (ordering_then (nat_cmp x y) (slice_cmp nat_cmp name held)) ≡ ((x == y) && bytes_eq name held)
names_tie x y name held = rw (both_tie (nat_cmp x y) (slice_cmp nat_cmp name held), codes_tie x y, is_eq-slice_cmp name held) refl

-- a code tells no name from itself
pub named_alike : (name held : List ℕ) → is_eq (ordering_then (nat_cmp (code_of name) (code_of held)) (slice_cmp nat_cmp name held)) ≡ bytes_eq name held
named_alike name held = grind (arith, names_tie, bytes_eq-Decides)

-- and what is held behind another number is not found
pub named_otherwise : (name held : List ℕ) (k : ℕ) → (k == code_of held) ≡ false → is_eq (ordering_then (nat_cmp (code_of name) k) (slice_cmp nat_cmp name held)) ≡ false
named_otherwise name held k other = grind (arith, names_tie, bytes_eq-Decides)
