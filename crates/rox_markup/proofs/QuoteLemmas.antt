-- A quote is one byte.
use Rattle.std.proofs.Common.{◌≡◌, ℕ, ◌+◌, ◌==◌, ◌||◌, Bool, true, false, cond, List, Ok, length, slice_index, leb, ap, Result}
use Rattle.rox_grammar.specs.declared.fault.Fault.{Fault}
use Rattle.rox_reading.specs.Lexical.{quote_at}

-- a choice is what was chosen
by_test : {X P : Type 0} (b : Bool) (x y z : X) → cond b x y ≡ z → (x ≡ z → P) → (y ≡ z → P) → P
by_test true x y z h holds fails = holds h
by_test false x y z h holds fails = fails h

-- equal values are read up to one place
same_place : {A : Type 0} (x y : A × ℕ) → ◌≡◌ {A = Result (A × ℕ) Fault} (Ok x) (Ok y) → y.1 ≡ x.1
same_place x y h = let e : y ≡ x = cc in ap (λ p. p.1) e

-- what follows it stands behind it
pub quote_next : (src : List ℕ) (i q j : ℕ) → quote_at src i ≡ Ok (q, j) → j ≡ i + 1
unfolding quote_at
quote_next src i q j h =
    by_test (leb (length src) i) _ _ _ h (λ e. cc) (λ h. by_test (slice_index src i == 39 || slice_index src i == 34) _ _ _ h (same_place _ _) (λ e. cc))
