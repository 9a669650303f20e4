-- Where the first mark is.
use Rattle.std.proofs.Common.{◌≡◌, ℕ, ◌+◌, ◌<◌, ◌≤◌, ◌==◌, List, length, drop, get_or, true, arith, IsCharBoundary}
use Rattle.std.specs.List.{position_or_len, starts_with}
use Rattle.std.proofs.lemmas.List.Sums.{fails_before_first}
use Rattle.rox_grammar.specs.Search.{before_mark, mark_from}
use Rattle.rox_grammar.proofs.AtPlace.{mark_from_cut}
use Rattle.rox_bytes.proofs.MarkLemmas.{before_mark_is, not_from_first}
use Rattle.rox_bytes.specs.ScanResults.{Finds}

-- A mark whose first byte is ASCII is found between two characters.
pub mark_first : (mark src : List ℕ) (i n : ℕ) → IsCharBoundary src i → 0 < length mark → get_or mark 0 0 < 128 → n ≡ before_mark mark (drop i src) → Finds src i (i + n) (mark_from mark src i)
unfolding mark_from
mark_first mark src i n cut some ascii is = grind (arith, mark_from_cut)

-- The mark that stands at the first byte that is its own is the first.
pub near_first : (mark hay : List ℕ) (n : ℕ) → 0 < length mark → n ≡ position_or_len (λ c. c == get_or mark 0 0) hay → n ≤ length hay → starts_with ◌==◌ (drop n hay) mark ≡ true → before_mark mark hay ≡ n
near_first mark hay n some is within here = grind (arith, before_mark_is, not_from_first, fails_before_first)
