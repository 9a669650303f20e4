-- Where a fixed text stands.
use Rattle.std.proofs.Common.{◌≡◌, ℕ, zero, suc, ◌+◌, ◌<◌, ◌≤◌, ◌==◌, Bool, true, false, List, [], ◌∷◌, ◌++◌, length, get_or, drop, Option, Some, None, unwrap_or, refl, sym, inl, inr, add-zero, arith, add_assoc, ap, get_or-drop, IsUtf8, IsCharBoundary, length-drop}
use Rattle.std.specs.List.{starts_with, position_or_len}
use Rattle.std.proofs.lemmas.Str.{IsCharBoundary-after_ascii, IsCharBoundary-before_ascii, IsCharBoundary-end}
pub use Rattle.std.proofs.lemmas.Bool.{false_from_ne_true as fails}
use Rattle.std.proofs.lemmas.Bool.{cases_lt}
use Rattle.std.proofs.lemmas.Bool.Decides.{Decides-eqb}
use Rattle.std.proofs.lemmas.List.Sums.{position_or_len_is}
use Rattle.std.proofs.lemmas.List.Prefix.{at_reads, front_fits}
use Rattle.std.proofs.lemmas.Slice.Eq.{starts_is}
use Rattle.memchr.specs.Find.{IsFirstByte, FindsNeedle, OccursAt}
use Rattle.memchr.proofs.lemmas.MatchLemmas.{OccursAt-split}
use Rattle.rox_grammar.specs.Search.{stands, before_mark, mark_from}
use Rattle.rox_grammar.specs.declared.fault.Expected.{Expected}
use Rattle.rox_grammar.specs.ExpectedTexts.{expected_text}
pub use Rattle.rox_grammar.proofs.AtPlace.{stands_split, stands_reads, stands_fits}
use Rattle.rox_bytes.specs.ScanResults.{Finds}

pub stands_from_split : (mark src rest : List ℕ) (i : ℕ) → drop i src ≡ mark ++ rest → stands mark src i ≡ true
unfolding stands
stands_from_split mark src rest i h = (starts_is Decides-eqb (drop i src) mark _ refl).1 rest h

-- a text that is short, or differs in the second byte, does not begin with the mark
pub differs_early : (mark rest : List ℕ) → 1 < length mark → (1 < length rest → get_or rest 1 0 ≡ get_or mark 1 0 → ⊥) → starts_with ◌==◌ rest mark ≡ false
differs_early mark rest some apart =
    fails (starts_with ◌==◌ rest mark) (λ h.
    let split = (starts_is Decides-eqb rest mark true (sym h)).0 refl in
    apart (omega (arith, (front_fits rest mark _ split))) (at_reads 0 rest mark 0 _ split 1 some))

-- after a fixed text whose last byte is ASCII
pub stands_cut : (mark src : List ℕ) (i n : ℕ) → length mark ≡ n + 1 → IsUtf8 src → get_or mark n 0 < 128 → stands mark src i ≡ true → IsCharBoundary src (i + length mark)
stands_cut mark src i n len utf8 ascii h =
    let fits = stands_fits mark src i (omega arith) h in
    let read = stands_reads mark src i n h (omega arith) in
    rw (len, ← add_assoc i n 1) (IsCharBoundary-after_ascii src (i + n) utf8 (omega arith) (omega arith))

-- the first place at which the mark stands
pub before_mark_is : (mark hay : List ℕ) (k : ℕ) → k ≤ length hay → ((j : ℕ) → j < k → starts_with ◌==◌ (drop j hay) mark ≡ false) → (k < length hay → starts_with ◌==◌ (drop k hay) mark ≡ true) → before_mark mark hay ≡ k
before_mark_is mark [] k within none here = omega arith
before_mark_is mark (b ∷ bs) zero within none here = rw (here (omega arith))
before_mark_is mark (b ∷ bs) (suc k) within none here =
    let rest = before_mark_is mark bs k (omega arith) (λ j below. none (suc j) (omega arith)) (λ more. here (omega arith)) in
    rw (none 0 (omega arith)) (omega arith)

-- no mark stands where its first byte doesn't
pub not_from_first : (mark hay : List ℕ) (j : ℕ) → 0 < length mark → (get_or hay j 0 ≡ get_or mark 0 0 → ⊥) → starts_with ◌==◌ (drop j hay) mark ≡ false
not_from_first mark hay j some apart =
    fails (starts_with ◌==◌ (drop j hay) mark) (λ h.
    apart (rw add-zero at (at_reads 0 hay mark j _ ((starts_is Decides-eqb (drop j hay) mark true (sym h)).0 refl) 0 some)))

pub none_below : (mark hay : List ℕ) (at next : ℕ) → 0 < length mark → ((j : ℕ) → j < at → starts_with ◌==◌ (drop j hay) mark ≡ false) → ((k : ℕ) → at ≤ k → k < next → get_or hay k 0 ≡ get_or mark 0 0 → ⊥) → (j : ℕ) → j < next → starts_with ◌==◌ (drop j hay) mark ≡ false
none_below mark hay at next some below apart j lt = grind (arith, not_from_first)

pub first_byte_found : (p : ℕ → Bool) (hay : List ℕ) (r : Option ℕ) → IsFirstByte p hay r → position_or_len p hay ≡ unwrap_or r (length hay)
first_byte_found p hay None h =
    position_or_len_is p hay (length hay) 0 (omega arith) (λ j below. fails (p (get_or hay j 0)) (h j (omega arith) below)) (λ more. absurd (omega arith))
first_byte_found p hay (Some k) h = grind (arith, position_or_len_is)

-- where a needle occurs the mark stands, and the other way round
occurs_stands : (mark hay : List ℕ) (k : ℕ) → OccursAt hay mark k → starts_with ◌==◌ (drop k hay) mark ≡ true
occurs_stands mark hay k h = (starts_is Decides-eqb (drop k hay) mark _ refl).1 _ (OccursAt-split hay mark k h)

stands_occurs : (mark hay : List ℕ) (k : ℕ) → 0 < length mark → starts_with ◌==◌ (drop k hay) mark ≡ true → OccursAt hay mark k
stands_occurs mark hay k some h =
    let split = (starts_is Decides-eqb (drop k hay) mark true (sym h)).0 refl in
    let fits = front_fits (drop k hay) mark _ split in
    grind (arith, length-drop, at_reads)

-- what a search for the mark finds
pub found_before : (mark hay : List ℕ) (r : Option ℕ) → 0 < length mark → FindsNeedle hay mark 0 r → before_mark mark hay ≡ unwrap_or r (length hay)
found_before mark hay None some h =
    before_mark_is mark hay (length hay) (omega arith)
    (λ j below. fails _ (λ here. h j (omega arith) (omega arith) (stands_occurs mark hay j some here)))
    (λ more. absurd (omega arith))
found_before mark hay (Some k) some h =
    before_mark_is mark hay k (omega arith)
    (λ j below. fails _ (λ here. h.0.before j (omega arith) below (stands_occurs mark hay j some here)))
    (λ more. occurs_stands mark hay k h.1)

-- the first byte of the mark stands there
pub found_reads : (mark hay : List ℕ) (r : Option ℕ) → 0 < length mark → FindsNeedle hay mark 0 r → unwrap_or r (length hay) < length hay → get_or hay (unwrap_or r (length hay)) 0 ≡ get_or mark 0 0
found_reads mark hay r some h more = grind arith

pub found_within : (mark hay : List ℕ) (r : Option ℕ) → FindsNeedle hay mark 0 r → unwrap_or r (length hay) ≤ length hay
found_within mark hay r h = grind arith

-- after the ASCII byte n of a fixed text that stands at i
pub stands_front_cut : (mark src : List ℕ) (i n : ℕ) → n < length mark → IsUtf8 src → get_or mark n 0 < 128 → stands mark src i ≡ true → IsCharBoundary src (i + (n + 1))
stands_front_cut mark src i n within utf8 ascii h =
    let fits = stands_fits mark src i (omega arith) h in
    let read = stands_reads mark src i n h within in
    rw (← add_assoc i n 1) (IsCharBoundary-after_ascii src (i + n) utf8 (omega arith) (omega arith))

-- a fixed text begins with an ASCII byte
pub word_first : (w : Expected) → (0 < length (expected_text w)) × (get_or (expected_text w) 0 0 < 128)
word_first w = grind arith

-- where a search behind a place finds the mark
pub mark_found : (mark src : List ℕ) (i : ℕ) (r : Option ℕ) → IsCharBoundary src i → 0 < length mark → get_or mark 0 0 < 128 → FindsNeedle (drop i src) mark 0 r
    → Finds src i (i + unwrap_or r (length (drop i src))) (mark_from mark src i)
unfolding mark_from
mark_found mark src i r cut some ascii found =
    let n = unwrap_or r (length (drop i src)) in
    let long = length-drop i src in
    let within = found_within mark (drop i src) r found in
    record {
      place = ap (λ k. i + k) (sym (found_before mark (drop i src) r some found));
      onward = omega arith;
      cut = elim (cases_lt (i + n) (length src)) [
        | inl more ↦ IsCharBoundary-before_ascii src (i + n) more (omega (arith, found_reads mark (drop i src) r some found (omega arith), get_or-drop i src n 0))
        | inr past ↦ let end : i + n ≡ length src = omega arith in rw end (IsCharBoundary-end src)
      ];
    }
