-- Where a fixed text is first, and whether a stretch of the source holds one.
use Rattle.std.proofs.Common.{◌≡◌, ℕ, zero, suc, ◌+◌, ◌-◌, ◌<◌, ◌≤◌, ◌||◌, ◌==◌, true, false, List, [], ◌∷◌, length, take, drop, refl, sym, ap, ◌∙◌, subst, arith, inl, inr, get_or-drop, length-drop, length-take}
use Rattle.std.specs.List.{starts_with}
use Rattle.std.proofs.lemmas.Bool.{cases_Bool, cases_lt, false≢true, lt-ltb, eqb-true, eq-eqb, ne_eqb, or_from, or_left, or_right}
use Rattle.std.proofs.lemmas.List.{take-take, drop-take, drop-drop, get_or-take}
use Rattle.std.proofs.lemmas.Grind.{common_steps}
use Rattle.rox_grammar.specs.FixedTexts.{word_text, double_dash}
use Rattle.rox_grammar.specs.declared.fault.Word.TheVariants as word
use Rattle.rox_grammar.specs.Search.{stands, before_mark, mark_from, byte_from, has_mark}
use Rattle.rox_grammar.specs.Names.{byte, slice}
use Rattle.rox_grammar.proofs.Stretches.{range_length}
use Rattle.rox_theory.proofs.Productions.{two_dashes_begin}
use Rattle.rox_theory.proofs.DeclarationLemmas.{stands_reads, stands_fits}
use Rattle.rox_theory.proofs.Places.{stands_two}
use Rattle.rox_theory.proofs.Basics.{mark_from_le}
use Rattle.rox_theory.proofs.LiteralLemmas.{from_here}

-- ---- in a list

-- A mark that begins a front begins the whole.
no_front : (mark : List ℕ) (n : ℕ) (hay : List ℕ) → starts_with ◌==◌ hay mark ≡ false → starts_with ◌==◌ (take n hay) mark ≡ false
no_front mark n hay none = grind (arith, common_steps)

pub starts_take : (mark : List ℕ) (n : ℕ) (xs : List ℕ) → length mark ≤ n → starts_with ◌==◌ (take n xs) mark ≡ starts_with ◌==◌ xs mark
starts_take mark n xs fits = rw (take-take (length mark) n xs fits) refl

-- The first one is there.
first_stands : (mark hay : List ℕ) → before_mark mark hay < length hay → starts_with ◌==◌ (drop (before_mark mark hay) hay) mark ≡ true
first_stands mark [] some = absurd (omega arith)
first_stands mark (b ∷ bs) some =
    elim (cases_Bool (starts_with ◌==◌ (b ∷ bs) mark)) as (λ s. starts_with ◌==◌ (drop (before_mark mark (b ∷ bs)) (b ∷ bs)) mark ≡ true) [
      | inl here ↦ rw (here, here) refl
      | inr later ↦ (
          let some' : 1 + before_mark mark bs < length (b ∷ bs) = rw later at some in
          let on : suc (before_mark mark bs) ≡ 1 + before_mark mark bs = omega arith in
          rw later (subst (λ (k : ℕ). starts_with ◌==◌ (drop k (b ∷ bs)) mark ≡ true) on (first_stands mark bs (omega arith))))
    ]

-- None is before it.
first_le : (mark hay : List ℕ) (k : ℕ) → starts_with ◌==◌ (drop k hay) mark ≡ true → before_mark mark hay ≤ k
first_le mark [] k h = omega arith
first_le mark (b ∷ bs) zero h = rw h (omega arith)
first_le mark (b ∷ bs) (suc k) h = grind (arith, first_le mark bs k h)

-- A front before the first one holds none.
front_without : (mark : List ℕ) (n : ℕ) (hay : List ℕ) → n ≤ before_mark mark hay → before_mark mark (take n hay) ≡ length (take n hay)
front_without mark zero [] le = refl
front_without mark zero (b ∷ bs) le = refl
front_without mark (suc n) [] le = refl
front_without mark (suc n) (b ∷ bs) le =
    elim (cases_Bool (starts_with ◌==◌ (b ∷ bs) mark)) as (λ s. before_mark mark (take (suc n) (b ∷ bs)) ≡ length (take (suc n) (b ∷ bs))) [
      | inl here ↦ absurd (let le' : suc n ≤ 0 = rw here at le in omega arith)
      | inr later ↦ (
          let le' : suc n ≤ 1 + before_mark mark bs = rw later at le in
          rw (no_front mark (suc n) (b ∷ bs) later) (omega (arith, (front_without mark n bs (omega arith)))))
    ]

-- ---- in a source

-- The first place of a mark, where it is not the end, has it.
pub mark_stands : (mark src : List ℕ) (i : ℕ) → mark_from mark src i < length src → stands mark src (mark_from mark src i) ≡ true
unfolding stands mark_from
mark_stands mark src i some =
    let long = length-drop i src in
    subst (λ (l : List ℕ). starts_with ◌==◌ l mark ≡ true) (drop-drop (before_mark mark (drop i src)) i src) (first_stands mark (drop i src) (omega arith))

-- No place before it has.
pub mark_first : (mark src : List ℕ) (i k : ℕ) → i ≤ k → stands mark src k ≡ true → mark_from mark src i ≤ k
unfolding stands mark_from
mark_first mark src i k from h =
    let e : i + (k - i) ≡ k = omega arith in
    let h' : starts_with ◌==◌ (drop (k - i) (drop i src)) mark ≡ true = subst (λ (l : List ℕ). starts_with ◌==◌ l mark ≡ true) (sym (drop-drop (k - i) i src ∙ ap (λ (n : ℕ). drop n src) e)) h in
    let le = first_le mark (drop i src) (k - i) h' in
    omega arith

-- What is before it holds none.
pub mark_behind : (mark src : List ℕ) (i e : ℕ) → e ≤ mark_from mark src i → has_mark mark (slice src i e) ≡ false
unfolding mark_from
mark_behind mark src i e le = grind (arith, front_without)

-- What continues after it holds one.
pub mark_inside : (mark src : List ℕ) (i e : ℕ) → 0 < length mark → e ≤ length src → mark_from mark src i + length mark ≤ e → has_mark mark (slice src i e) ≡ true
unfolding mark_from
mark_inside mark src i e some within inside =
    let n = before_mark mark (drop i src) in
    let long = length-drop i src in
    let long' = length-take (e - i) (drop i src) in
    let split : n + (e - i - n) ≡ e - i = omega arith in
    let here = first_stands mark (drop i src) (omega arith) in
    let cut : starts_with ◌==◌ (take (e - i - n) (drop n (drop i src))) mark ≡ true = starts_take mark (e - i - n) (drop n (drop i src)) (omega arith) ∙ here in
    let there : starts_with ◌==◌ (drop n (take (e - i) (drop i src))) mark ≡ true =
    ap (λ (m : ℕ). starts_with ◌==◌ (drop n (take m (drop i src))) mark) (sym split) ∙ ap (λ (l : List ℕ). starts_with ◌==◌ l mark) (drop-take n (e - i - n) (drop i src)) ∙ cut in
    let le = first_le mark (take (e - i) (drop i src)) n there in
    lt-ltb (before_mark mark (slice src i e)) (length (slice src i e)) (omega arith)

-- ---- comments: two dashes in a text, or one at its end

-- A byte of a stretch.
slice_byte : (src : List ℕ) (i e k : ℕ) → i + k < e → byte (slice src i e) k ≡ byte src (i + k)
slice_byte src i e k below = get_or-take (e - i) (drop i src) k 0 (omega arith) ∙ get_or-drop i src k 0

-- A text that ends before or where they are has no two, nor one at its end.
pub no_dashes : (src : List ℕ) (i e : ℕ) → e ≤ mark_from double_dash src i → stands (word_text word.CommentEnd) src e ≡ true
    → (has_mark double_dash (slice src i e) || byte (slice src i e) (length (slice src i e) - 1) == 45) ≡ false
no_dashes src i e before closes =
    let fits = stands_fits (word_text word.CommentEnd) src e (omega arith) closes in
    let dash : byte src (e + 0) ≡ 45 = stands_reads (word_text word.CommentEnd) src e 0 closes (omega arith) in
    let long = length-take (e - i) (drop i src) in
    let left = length-drop i src in
    or_from (has_mark double_dash (slice src i e)) (byte (slice src i e) (length (slice src i e) - 1) == 45) (mark_behind double_dash src i e before)
    (ne_eqb (byte (slice src i e) (length (slice src i e) - 1)) 45 (λ last.
    elim (cases_lt i e) as (λ s. ⊥) [
      | inl some ↦ (
          let one : byte src (e - 1) ≡ 45 = ap (byte src) (sym (omega arith)) ∙ sym (slice_byte src i e (length (slice src i e) - 1) (omega arith)) ∙ last in
          let first = mark_first double_dash src i (e - 1) (omega arith) (stands_two 45 45 src (e - 1) (omega arith) one (ap (byte src) (omega arith) ∙ dash)) in
          omega arith)
      | inr none ↦ grind arith
    ]))

-- One before whose end they begin has.
pub two_dashes : (src : List ℕ) (i e : ℕ) → i ≤ e → e ≤ length src → mark_from double_dash src i < e
    → (has_mark double_dash (slice src i e) || byte (slice src i e) (length (slice src i e) - 1) == 45) ≡ true
two_dashes src i e le within before =
    let k = mark_from double_dash src i in
    let long = range_length src i e le within in
    elim (cases_lt (k + 1) e) as (λ s. (has_mark double_dash (slice src i e) || byte (slice src i e) (length (slice src i e) - 1) == 45) ≡ true) [
      | inl inside ↦ or_left (has_mark double_dash (slice src i e)) (byte (slice src i e) (length (slice src i e) - 1) == 45) (mark_inside double_dash src i e (omega arith) within (omega arith))
      | inr last ↦ (
          let from = mark_from_le double_dash src i in
          let here : byte src (k + 0) ≡ 45 = stands_reads double_dash src k 0 (mark_stands double_dash src i (omega arith)) (omega arith) in
          or_right (has_mark double_dash (slice src i e)) (byte (slice src i e) (length (slice src i e) - 1) == 45)
          (eq-eqb _ _ (slice_byte src i e (length (slice src i e) - 1) (omega arith) ∙ ap (byte src) (omega arith) ∙ here)))
    ]

-- The first `-->` is where the first two dashes are, if it is there.
pub comment_ends : (src : List ℕ) (i e : ℕ) → e ≡ mark_from double_dash src i → stands (word_text word.CommentEnd) src e ≡ true → e ≡ mark_from (word_text word.CommentEnd) src i
comment_ends src i e is closes =
    let k = mark_from (word_text word.CommentEnd) src i in
    let fits = stands_fits (word_text word.CommentEnd) src e (omega arith) closes in
    let from = mark_from_le double_dash src i in
    let le = mark_first (word_text word.CommentEnd) src i e (omega arith) closes in
    let two = two_dashes_begin src k (mark_stands (word_text word.CommentEnd) src i (omega arith)) in
    let ge = mark_first double_dash src i k (mark_from_le (word_text word.CommentEnd) src i) two in
    omega arith

-- And they are where a `-->` is, if the text before it has no two dashes, nor one at its end.
pub dashes_end : (src : List ℕ) (i e : ℕ) → i ≤ e → (has_mark double_dash (slice src i e) || byte (slice src i e) (length (slice src i e) - 1) == 45) ≡ false
    → stands (word_text word.CommentEnd) src e ≡ true → e ≡ mark_from double_dash src i
dashes_end src i e from free closes =
    let fits = stands_fits (word_text word.CommentEnd) src e (omega arith) closes in
    let le = mark_first double_dash src i e from (two_dashes_begin src e closes) in
    grind (arith, two_dashes)

-- Where the text has them, they are before.
pub dashes_before : (src : List ℕ) (i e : ℕ) → stands (word_text word.CommentEnd) src e ≡ true
    → (has_mark double_dash (slice src i e) || byte (slice src i e) (length (slice src i e) - 1) == 45) ≡ true → mark_from double_dash src i < e
dashes_before src i e closes ill = grind (arith, no_dashes)

-- ---- runs: where a `]]>` begins in one, all of it is there
marked_run : (src : List ℕ) (i e : ℕ) → e ≡ byte_from (λ c. c == 60) src i → e ≤ length src → mark_from (word_text word.CDataEnd) src i < e
    → has_mark (word_text word.CDataEnd) (slice src i e) ≡ true
marked_run src i e is within before =
    let k = mark_from (word_text word.CDataEnd) src i in
    let here = mark_stands (word_text word.CDataEnd) src i (omega arith) in
    let fits = stands_fits (word_text word.CDataEnd) src k (omega arith) here in
    let second : byte src (k + 1) ≡ 93 = stands_reads (word_text word.CDataEnd) src k 1 here (omega arith) in
    let third : byte src (k + 2) ≡ 62 = stands_reads (word_text word.CDataEnd) src k 2 here (omega arith) in
    mark_inside (word_text word.CDataEnd) src i e (omega arith) within
    (elim (cases_lt e (k + 3)) as (λ s. k + 3 ≤ e) [
      | inl short ↦ (
          let less : byte src e ≡ 60 = eqb-true _ _ (rw (← is) at (from_here (λ c. c == 60) src i (omega arith))) in
          elim (cases_lt e (k + 2)) as (λ s. k + 3 ≤ e) [
            | inl one ↦ absurd (let same : e ≡ k + 1 = omega arith in let b = ap (byte src) same in omega arith)
            | inr two ↦ absurd (let same : e ≡ k + 2 = omega arith in let b = ap (byte src) same in omega arith)
          ])
      | inr all ↦ all
    ])

-- So none begins in one that has none.
pub unmarked_run : (src : List ℕ) (i e : ℕ) → e ≡ byte_from (λ c. c == 60) src i → e ≤ length src → has_mark (word_text word.CDataEnd) (slice src i e) ≡ false
    → e ≤ mark_from (word_text word.CDataEnd) src i
unmarked_run src i e is within none = grind (arith, marked_run)

-- And where one has a `]]>`, it begins before its end.
pub run_marked : (src : List ℕ) (i e : ℕ) → has_mark (word_text word.CDataEnd) (slice src i e) ≡ true → mark_from (word_text word.CDataEnd) src i < e
run_marked src i e marked =
    elim (cases_lt (mark_from (word_text word.CDataEnd) src i) e) as (λ s. mark_from (word_text word.CDataEnd) src i < e) [
      | inl before ↦ before
      | inr after ↦ absurd (false≢true (sym (mark_behind (word_text word.CDataEnd) src i e after) ∙ marked))
    ]
