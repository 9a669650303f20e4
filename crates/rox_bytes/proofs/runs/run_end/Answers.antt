-- What is known where the loop over the run comes to a character.
use Rattle.std.proofs.Common.{◌≡◌, ℕ, ◌+◌, ◌<◌, ◌≤◌, Bool, true, false, List, length, get_or, sym, subst, ◌∙◌, arith, IsCharBoundary, IsUtf8}
use Rattle.std.specs.Char.{len_utf8}
use Rattle.std.proofs.lemmas.Str.{IsCharBoundary-after_ascii}
use Rattle.rox_grammar.specs.Runs.{run_end, StandsAt}
use Rattle.rox_grammar.proofs.AtPlace.{run_at_end}
use Rattle.rox_bytes.specs.ScanResults.{Finds}
use Rattle.rox_bytes.proofs.RunLemmas.{run_on, run_on_ascii, run_stops, run_stops_ascii}
use Rattle.rox_bytes.proofs.runs.run_end.Goals as goal

abbrev Onward : (ℕ → Bool) → List ℕ → (at i : ℕ) → Type 0
Onward p src at i = IsCharBoundary src i × (at ≤ i) × (run_end p src i ≡ run_end p src at)

ascii_on : (p : ℕ → Bool) (src bytes : List ℕ) (at i : ℕ) (r : Bool) → IsUtf8 src → bytes ≡ src → Onward p src at i → i < length bytes → get_or bytes i 0 < 128 → r ≡ p (get_or bytes i 0) → r ≡ true → Onward p src at (i + 1)
ascii_on p src bytes at i r utf8 same on within ascii is holds =
    let more = subst (λ (xs : List ℕ). i < length xs) same within in
    let small = subst (λ (xs : List ℕ). get_or xs i 0 < 128) same ascii in
    let passes = subst (λ (xs : List ℕ). p (get_or xs i 0) ≡ true) same (sym is ∙ holds) in
    (IsCharBoundary-after_ascii src i utf8 more small, (omega (arith, on.1)), run_on_ascii p src i utf8 more small passes ∙ on.2)

ascii_ends : (p : ℕ → Bool) (src bytes : List ℕ) (at i : ℕ) (r : Bool) → IsUtf8 src → bytes ≡ src → Onward p src at i → i < length bytes → get_or bytes i 0 < 128 → r ≡ p (get_or bytes i 0) → r ≡ false → Finds src at i (run_end p src at)
ascii_ends p src bytes at i r utf8 same on within ascii is fails = grind (arith, run_stops_ascii)

wide_on : (p : ℕ → Bool) (src : List ℕ) (at i c n : ℕ) → IsUtf8 src → Onward p src at i → StandsAt c src i → IsCharBoundary src (i + len_utf8 c) → p c ≡ true → n ≡ len_utf8 c → Onward p src at (i + n)
wide_on p src at i c n utf8 on stands cut passes size = grind (arith, run_on)

pub loop-i-preserved-then-b-lt128 : goal.loop-i-preserved-then-b-lt128
loop-i-preserved-then-b-lt128 g c =
    ascii_on g.C.Class.test c.args.text.now c.as_bytes-bytes.result.now c.args.at c.loop-i.i c.has_byte.result c.utf8.text c.as_bytes-bytes.ensures.value c.loop-i.invariant c.loop-i-test.true c.if-b-lt128.true c.has_byte.ensures c.if-not-has_byte.false

pub returns-then-not-has_byte : goal.returns-then-not-has_byte
returns-then-not-has_byte g c = grind (arith, ascii_ends)

pub loop-i-preserved : goal.loop-i-preserved
loop-i-preserved g c = grind (arith, wide_on)

pub returns-then-not-has : goal.returns-then-not-has
returns-then-not-has g c = grind (arith, run_stops)

pub returns : goal.returns
returns g c = grind (arith, run_at_end)
