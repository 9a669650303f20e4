-- What stands at a place of a source: fixed texts, the first of one, white space, and the ends of runs.
use Rattle.std.proofs.Common.{◌≡◌, ℕ, suc, ◌+◌, ◌<◌, ◌≤◌, ◌==◌, Bool, true, List, [], ◌∷◌, ◌++◌, length, get_or, drop, refl, sym, arith, inl, inr, add-zero, length-drop, get_or-drop, IsCharBoundary}
use Rattle.std.specs.List.{starts_with}
use Rattle.std.proofs.lemmas.Bool.{cases_Bool, cond_both}
use Rattle.std.proofs.lemmas.Bool.Decides.{Decides-eqb, nat_tests}
use Rattle.std.proofs.lemmas.List.{drop_all}
use Rattle.std.proofs.lemmas.List.Prefix.{at_reads, front_fits}
use Rattle.std.proofs.lemmas.Slice.Eq.{starts_is}
use Rattle.std.proofs.lemmas.Str.{chars-nil}
use Rattle.rox_grammar.specs.Chars.{is_space}
use Rattle.rox_grammar.specs.Runs.{run_end}
use Rattle.rox_grammar.specs.Search.{before_mark, mark_from, stands}

-- Where a mark is, the rest of the source begins with it.
pub stands_split : (mark src : List ℕ) (i : ℕ) → stands mark src i ≡ true → drop i src ≡ mark ++ drop (length mark) (drop i src)
unfolding stands
stands_split mark src i h = (starts_is Decides-eqb (drop i src) mark true (sym h)).0 refl

-- And each of its bytes is there.
pub stands_reads : (mark src : List ℕ) (i j : ℕ) → stands mark src i ≡ true → j < length mark → get_or src (i + j) 0 ≡ get_or mark j 0
stands_reads mark src i j h within = at_reads 0 src mark i _ (stands_split mark src i h) j within

-- And it is within the source.
pub stands_fits : (mark src : List ℕ) (i : ℕ) → 0 < length mark → stands mark src i ≡ true → i + length mark ≤ length src
stands_fits mark src i some h =
    omega (arith, (front_fits (drop i src) mark _ (stands_split mark src i h)), length-drop i src)

-- A mark is found in the text or at its end.
pub before_mark_le : (mark bs : List ℕ) → before_mark mark bs ≤ length bs
before_mark_le mark [] = omega arith
before_mark_le mark (b ∷ bs) =
    let ih = before_mark_le mark bs in
    cond_both (starts_with ◌==◌ (b ∷ bs) mark) 0 (1 + before_mark mark bs) (λ (k : ℕ). k ≤ suc (length bs)) (λ here. omega arith) (λ later. omega arith)

-- And its first byte is there.
before_mark_reads : (mark bs : List ℕ) → 0 < length mark → before_mark mark bs < length bs → get_or bs (before_mark mark bs) 0 ≡ get_or mark 0 0
unfolding stands
before_mark_reads mark [] long some = absurd (omega arith)
before_mark_reads mark (c ∷ cs) long some =
    elim (cases_Bool (starts_with ◌==◌ (c ∷ cs) mark)) as (λ s. get_or (c ∷ cs) (before_mark mark (c ∷ cs)) 0 ≡ get_or mark 0 0) [
      | inl here ↦ rw here (stands_reads mark (c ∷ cs) 0 0 here long)
      | inr later ↦ (let more : 1 + before_mark mark cs < suc (length cs) = rw later at some in let e : 1 + before_mark mark cs ≡ suc (before_mark mark cs) = omega arith in rw (later, e) (before_mark_reads mark cs long (omega arith)))
    ]

-- A character begins where a mark is found whose first byte is ASCII.
pub mark_from_cut : (mark src : List ℕ) (i : ℕ) → 0 < length mark → get_or mark 0 0 < 128 → i ≤ length src → IsCharBoundary src (mark_from mark src i)
unfolding mark_from
mark_from_cut mark src i some ascii inside = grind (arith, before_mark_le, before_mark_reads, length-drop, get_or-drop)

-- A run is empty at the end, and past it.
pub run_at_end : (p : ℕ → Bool) (src : List ℕ) (i : ℕ) → length src ≤ i → run_end p src i ≡ i
unfolding run_end
run_at_end p src i past = rw (drop_all i src past, chars-nil) (add-zero i)

-- White space is ASCII.
pub space_ascii : (b : ℕ) → is_space b ≡ true → b < 128
space_ascii b h = grind (arith, nat_tests)
