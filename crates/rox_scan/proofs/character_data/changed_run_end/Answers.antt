use Rattle.std.proofs.Common.{◌≡◌, ◌<◌, ◌-◌, ℕ, List, false, slice_range, arith, inl, inr}
use Rattle.std.proofs.lemmas.Bool.{cases_lt}
use Rattle.rox_grammar.specs.Content.{is_verbatim}
use Rattle.rox_scan.proofs.ShortLemmas.{longer_run}
use Rattle.rox_scan.proofs.character_data.changed_run_end.Goals as goal

-- no bytes need no replacement
some_bytes : (src : List ℕ) (i j : ℕ) → is_verbatim (slice_range src i j) ≡ false → i < j
some_bytes src i j changes = elim (cases_lt i j) [ inl more ↦ more | inr past ↦ let none : j - i ≡ 0 = omega arith in absurd (cc (rw none at changes)) ]

pub returns : goal.returns
returns c = grind (arith, longer_run)
