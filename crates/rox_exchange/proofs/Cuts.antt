-- What is in a source is in each that has the same bytes up to its end.
use Rattle.std.proofs.Common.{◌≡◌, ℕ, zero, suc, ◌+◌, ◌-◌, ◌<◌, ◌≤◌, ◌⊎◌, ◌==◌, Bool, true, false, List, [], ◌∷◌, ◌++◌, length, take, drop, get_or, refl, sym, ap, ◌∙◌, subst, arith, inl, inr, length-drop, length-take, length-append, chars, IsUtf8, IsCharBoundary, encode_utf8_all}
use Rattle.std.specs.List.{position_or_len, starts_with}
use Rattle.std.proofs.lemmas.Bool.{cases_Bool}
use Rattle.std.proofs.lemmas.List.{drop-take, take-take, get_or-take, drop-append-le}
use Rattle.std.proofs.lemmas.Grind.{common_steps}
use Rattle.rox_grammar.specs.Search.{stands, before_mark, mark_from, byte_from}
use Rattle.std.specs.Char.{encode_utf8, len_utf8}
use Rattle.std.proofs.lemmas.Str.{chars-append, encodes-chars, length-encode, IsUtf8-drop}
use Rattle.rox_grammar.specs.Runs.{run_end, passing}
use Rattle.rox_grammar.specs.Chars.{is_char}
use Rattle.rox_grammar.specs.FixedTexts.{word_text}
use Rattle.rox_grammar.specs.declared.fault.Word.TheVariants as word
use Rattle.rox_grammar.specs.Names.{byte, slice}
use Rattle.rox_grammar.specs.Constructs.{AreChars, IsComment, IsAttValue}
use Rattle.rox_grammar.specs.Content.{IsCharacterData}
use Rattle.rox_theory.proofs.Productions.{comment_made, char_data_parts}
use Rattle.rox_theory.proofs.FirstMarks.{mark_behind, unmarked_run, starts_take}
use Rattle.rox_theory.proofs.RunLemmas.{run_inside}

-- Two lists with one front agree byte by byte.
pub heads : (n x y : ℕ) (xs ys : List ℕ) → take (suc n) (x ∷ xs) ≡ take (suc n) (y ∷ ys) → (x ≡ y) × (take n xs ≡ take n ys)
heads n x y xs ys h = (cc, cc)

-- A mark that begins both.
pub starts_cut : (mark : List ℕ) (n : ℕ) (xs ys : List ℕ) → take n xs ≡ take n ys → length mark ≤ n → starts_with ◌==◌ xs mark ≡ starts_with ◌==◌ ys mark
starts_cut mark n xs ys h fits =
    sym (starts_take mark n xs fits) ∙ ap (λ (zs : List ℕ). starts_with ◌==◌ zs mark) h ∙ starts_take mark n ys fits

-- The first byte that passes.
pub first_cut : (p : ℕ → Bool) (n : ℕ) (xs ys : List ℕ) → take n xs ≡ take n ys → position_or_len p xs < n → position_or_len p ys ≡ position_or_len p xs
first_cut p zero xs ys h some = absurd (omega arith)
first_cut p (suc n) [] [] h some = refl
first_cut p (suc n) [] (y ∷ ys) h some = cc h
first_cut p (suc n) (x ∷ xs) [] h some = cc h
first_cut p (suc n) (x ∷ xs) (y ∷ ys) h some =
    let both = heads n x y xs ys h in
    elim (cases_Bool (p x)) as (λ s. position_or_len p (y ∷ ys) ≡ position_or_len p (x ∷ xs)) [
      | inl here ↦ (let there : p y ≡ true = rw (← both.0) here in rw (here, there) refl)
      | inr later ↦ (
          let there : p y ≡ false = rw (← both.0) later in
          let some' : 1 + position_or_len p xs < suc n = rw later at some in
          rw (later, there) (ap (λ (k : ℕ). 1 + k) (first_cut p n xs ys both.1 (omega arith))))
    ]

-- The first mark.
pub mark_cut : (mark : List ℕ) (n : ℕ) (xs ys : List ℕ) → take n xs ≡ take n ys → before_mark mark xs + length mark ≤ n → 0 < length mark → before_mark mark ys ≡ before_mark mark xs
mark_cut mark zero xs ys h fits some = absurd (omega arith)
mark_cut mark (suc n) [] [] h fits some = refl
mark_cut mark (suc n) [] (y ∷ ys) h fits some = cc h
mark_cut mark (suc n) (x ∷ xs) [] h fits some = cc h
mark_cut mark (suc n) (x ∷ xs) (y ∷ ys) h fits some =
    let same = starts_cut mark (suc n) (x ∷ xs) (y ∷ ys) h (omega arith) in
    elim (cases_Bool (starts_with ◌==◌ (x ∷ xs) mark)) as (λ s. before_mark mark (y ∷ ys) ≡ before_mark mark (x ∷ xs)) [
      | inl here ↦ (let there : starts_with ◌==◌ (y ∷ ys) mark ≡ true = sym same ∙ here in rw (here, there) refl)
      | inr later ↦ (
          let there : starts_with ◌==◌ (y ∷ ys) mark ≡ false = sym same ∙ later in
          let fits' : 1 + before_mark mark xs + length mark ≤ suc n = rw later at fits in
          let ih = mark_cut mark n xs ys (heads n x y xs ys h).1 (omega arith) some in
          rw (later, there) (ap (λ (k : ℕ). 1 + k) ih))
    ]

module _ (src to : List ℕ) (m : ℕ) (same : take m src ≡ take m to) where
  -- The fronts after a place agree.
  pub fronts : (i : ℕ) → i ≤ m → take (m - i) (drop i src) ≡ take (m - i) (drop i to)
  fronts i le =
      let e : i + (m - i) ≡ m = omega arith in
      sym (drop-take i (m - i) src) ∙ ap (λ (k : ℕ). drop i (take k src)) e ∙ ap (drop i) same ∙ sym (ap (λ (k : ℕ). drop i (take k to)) e) ∙ drop-take i (m - i) to

  -- And up to one.
  pub front : (j : ℕ) → j ≤ m → take j src ≡ take j to
  front j le = sym (take-take j m src le) ∙ ap (take j) same ∙ take-take j m to le

  -- A byte.
  pub byte_cut : (i : ℕ) → i < m → byte src i ≡ byte to i
  byte_cut i lt = sym (get_or-take m src i 0 lt) ∙ ap (λ (bs : List ℕ). get_or bs i 0) same ∙ get_or-take m to i 0 lt

  -- A fixed text.
  pub stands_cut : (mark : List ℕ) (i : ℕ) → i + length mark ≤ m → stands mark src i ≡ stands mark to i
  unfolding stands
  stands_cut mark i fits = starts_cut mark (m - i) (drop i src) (drop i to) (fronts i (omega arith)) (omega arith)

  -- The first place of a fixed text.
  pub mark_from_cut : (mark : List ℕ) (i e : ℕ) → e ≡ mark_from mark src i → e + length mark ≤ m → 0 < length mark → e ≡ mark_from mark to i
  unfolding mark_from
  mark_from_cut mark i e is fits some =
      let q = mark_cut mark (m - i) (drop i src) (drop i to) (fronts i (omega arith)) (omega arith) some in
      omega arith

  -- The first place of a byte.
  pub byte_from_cut : (p : ℕ → Bool) (i e : ℕ) → e ≡ byte_from p src i → e < m → e ≡ byte_from p to i
  unfolding byte_from
  byte_from_cut p i e is fits =
      let q = first_cut p (m - i) (drop i src) (drop i to) (fronts i (omega arith)) (omega arith) in
      omega arith

  -- Chars.
  pub chars_cut : (i j : ℕ) → j ≤ m → AreChars src i j → AreChars to i j
  chars_cut i j le are = subst (λ (bs : List ℕ). run_end is_char bs i ≡ j) (front j le) are

  -- A slice.
  pub slice_cut : (i j : ℕ) → i ≤ j → j ≤ m → slice src i j ≡ slice to i j
  slice_cut i j le fits =
      sym (drop-take i (j - i) src) ∙ ap (drop i) (front (i + (j - i)) (omega arith)) ∙ drop-take i (j - i) to

  -- A place within both.
  pub within_cut : (e : ℕ) → e < m → e < length src → e < length to
  within_cut e lt inside = grind (arith, common_steps)

  -- ---- constructs

  -- A comment.
  pub comment_cut : (i e j : ℕ) → j ≤ m → IsComment src i e j → IsComment to i e j
  unfolding run_end
  comment_cut i e j fits is = grind (arith, comment_made, stands_cut, mark_from_cut, chars_cut)

  -- A literal.
  pub literal_cut : (i e j : ℕ) → j ≤ m → IsAttValue src i e j → IsAttValue to i e j
  unfolding run_end
  literal_cut i e j fits is =
      let next = is.0.3 in
      let chars = is.1 in
      let le : i + 1 ≤ e = omega arith in
      let first = byte_cut i (omega arith) in (
        (
          subst (λ (b : ℕ). (b ≡ 39) ⊎ (b ≡ 34)) first is.0.0,
          byte_from_cut (λ c. c == byte src i) (i + 1) e is.0.1 (omega arith) ∙ ap (λ (q : ℕ). byte_from (λ c. c == q) to (i + 1)) first,
          within_cut e (omega arith) is.0.2,
          is.0.3,
        ),
        chars_cut (i + 1) e (omega arith) is.1,
        is.2 ∙ ap (λ (bs : List ℕ). byte_from (λ c. c == 60) bs (i + 1)) (front e (omega arith)),
      )

  -- A run that `<` ends.
  pub run_cut : (i j : ℕ) → j < m → IsCharacterData src i j → IsCharacterData to i j
  run_cut i j fits is =
      let inside = (run_inside src i j is).0 in
      let n : length (take m src) ≡ length (take m to) = ap length same in
      let end = byte_from_cut (λ c. c == 60) i j (char_data_parts is).end fits in
      let none = mark_behind (word_text word.CDataEnd) src i j (char_data_parts is).unmarked in
      grind (arith, chars_cut, unmarked_run, length-take, slice_cut)

-- ---- runs of characters

-- Characters that pass, with others after them.
pub passing_front : (p : ℕ → Bool) (cs ds : List ℕ) → passing p (cs ++ ds) < length (encode_utf8_all cs) → passing p (cs ++ ds) ≡ passing p cs
passing_front p [] ds some = absurd (omega arith)
passing_front p (c ∷ cs) ds some =
    elim (cases_Bool (p c)) as (λ s. passing p (c ∷ (cs ++ ds)) ≡ passing p (c ∷ cs)) [
      | inl passes ↦ (
          let some' : len_utf8 c + passing p (cs ++ ds) < length (encode_utf8 c ++ encode_utf8_all cs) = rw passes at some in
          let n = length-append (encode_utf8 c) (encode_utf8_all cs) in
          let m = length-encode c in
          rw passes (ap (λ (k : ℕ). len_utf8 c + k) (passing_front p cs ds (omega arith))))
      | inr fails ↦ rw fails refl
    ]

-- A run that ends before the end of a text in UTF-8 ends there whatever follows the text.
pub run_end_front : (p : ℕ → Bool) (front back : List ℕ) (i : ℕ) → IsUtf8 front → IsCharBoundary front i → run_end p (front ++ back) i < length front → run_end p (front ++ back) i ≡ run_end p front i
unfolding run_end
run_end_front p front back i utf8 cut below =
    let rest = IsUtf8-drop front i utf8 cut in
    let both : chars (drop i (front ++ back)) ≡ chars (drop i front) ++ chars back = ap chars (drop-append-le i front back cut.0) ∙ chars-append (drop i front) back rest in
    let n : length (encode_utf8_all (chars (drop i front))) ≡ length front - i = ap length (encodes-chars (drop i front) rest) ∙ length-drop i front in
    let some : passing p (chars (drop i front) ++ chars back) < length (encode_utf8_all (chars (drop i front))) = subst (λ (cs : List ℕ). passing p cs < length (encode_utf8_all (chars (drop i front)))) both (omega arith) in
    ap (λ (cs : List ℕ). i + passing p cs) both ∙ ap (λ (k : ℕ). i + k) (passing_front p (chars (drop i front)) (chars back) some)
