-- What is in a source is in each that has the same bytes up to its end: runs of characters, and where characters begin.
use Rattle.std.proofs.Common.{◌≡◌, ℕ, zero, suc, ◌+◌, ◌-◌, ◌<◌, Bool, true, false, List, [], ◌∷◌, ◌++◌, length, take, drop, refl, sym, ap, ◌∙◌, subst, arith, inl, inr, length-drop, length-take, length-append, take-append-drop, chars, IsUtf8, IsCharBoundary, encode_utf8_all}
use Rattle.std.specs.List.{prefix_len}
use Rattle.std.specs.Char.{encode_utf8, len_utf8}
use Rattle.std.proofs.lemmas.Bool.{cases_Bool}
use Rattle.std.proofs.lemmas.List.{get_or-take, drop-append-le}
use Rattle.std.proofs.lemmas.Str.{chars-append, encodes-chars, length-encode, IsUtf8-drop, IsCharBoundary-after_ascii}
use Rattle.rox_grammar.specs.Runs.{run_end, begins, passing, first_passes}
use Rattle.rox_grammar.specs.Names.{byte}
use Rattle.rox_grammar.specs.References.{bytes_end}
use Rattle.rox_theory.proofs.CharTexts.{run_cut}
use Rattle.rox_exchange.specs.Local.{Fronts}
use Rattle.rox_exchange.proofs.Cuts.{heads, fronts, run_end_front}

-- ---- of one source

-- Characters that pass and one that does not, with others after them.
passing_more : (p : ℕ → Bool) (cs ds : List ℕ) → passing p cs < length (encode_utf8_all cs) → passing p (cs ++ ds) ≡ passing p cs
passing_more p [] ds some = absurd (omega arith)
passing_more p (c ∷ cs) ds some =
    elim (cases_Bool (p c)) as (λ s. passing p (c ∷ (cs ++ ds)) ≡ passing p (c ∷ cs)) [
      | inl passes ↦ (
          let some' : len_utf8 c + passing p cs < length (encode_utf8 c ++ encode_utf8_all cs) = rw passes at some in
          let n = length-append (encode_utf8 c) (encode_utf8_all cs) in
          let m = length-encode c in
          rw passes (ap (λ (k : ℕ). len_utf8 c + k) (passing_more p cs ds (omega arith))))
      | inr fails ↦ rw fails refl
    ]

-- A run that ends before the end of a text in UTF-8 ends there with anything after the text.
run_end_more : (p : ℕ → Bool) (front back : List ℕ) (i : ℕ) → IsUtf8 front → IsCharBoundary front i → run_end p front i < length front → run_end p (front ++ back) i ≡ run_end p front i
unfolding run_end
run_end_more p front back i utf8 cut below =
    let rest = IsUtf8-drop front i utf8 cut in
    let both : chars (drop i (front ++ back)) ≡ chars (drop i front) ++ chars back = ap chars (drop-append-le i front back cut.0) ∙ chars-append (drop i front) back rest in
    let n : length (encode_utf8_all (chars (drop i front))) ≡ length front - i = ap length (encodes-chars (drop i front) rest) ∙ length-drop i front in
    ap (λ (cs : List ℕ). i + passing p cs) both ∙ ap (λ (k : ℕ). i + k) (passing_more p (chars (drop i front)) (chars back) (omega arith))

-- Its first character is that of the text.
begins_more : (p : ℕ → Bool) (front back : List ℕ) (i : ℕ) → IsUtf8 front → IsCharBoundary front i → i < length front → begins p (front ++ back) i ≡ begins p front i
unfolding begins
begins_more p front back i utf8 cut below =
    let rest = IsUtf8-drop front i utf8 cut in
    let both : chars (drop i (front ++ back)) ≡ chars (drop i front) ++ chars back = ap chars (drop-append-le i front back cut.0) ∙ chars-append (drop i front) back rest in
    ap (first_passes p) both ∙ some (chars (drop i front)) (chars back) (encodes-chars (drop i front) rest)
  where
    some : (cs ds : List ℕ) → encode_utf8_all cs ≡ drop i front → first_passes p (cs ++ ds) ≡ first_passes p cs
    some [] ds is =
        let n : 0 ≡ length front - i = ap length is ∙ length-drop i front in
        absurd (omega arith)
    some (c ∷ cs) ds is = refl

-- The stretch of bytes that pass.
stretch_cut : (p : ℕ → Bool) (n : ℕ) (xs ys : List ℕ) → take n xs ≡ take n ys → prefix_len p xs < n → prefix_len p ys ≡ prefix_len p xs
stretch_cut p zero xs ys h some = absurd (omega arith)
stretch_cut p (suc n) [] [] h some = refl
stretch_cut p (suc n) [] (y ∷ ys) h some = cc h
stretch_cut p (suc n) (x ∷ xs) [] h some = cc h
stretch_cut p (suc n) (x ∷ xs) (y ∷ ys) h some =
    let both = heads n x y xs ys h in
    elim (cases_Bool (p x)) as (λ s. prefix_len p (y ∷ ys) ≡ prefix_len p (x ∷ xs)) [
      | inl here ↦ (
          let there : p y ≡ true = rw (← both.0) here in
          let some' : 1 + prefix_len p xs < suc n = rw here at some in
          rw (here, there) (ap (λ (k : ℕ). 1 + k) (stretch_cut p n xs ys both.1 (omega arith))))
      | inr later ↦ (let there : p y ≡ false = rw (← both.0) later in rw (later, there) refl)
    ]

-- ---- of two that have one front

module _ (src to : List ℕ) (m : ℕ) (f : Fronts src to m) where
  -- How long the front is.
  long : length (take m src) ≡ m
  long = let inside = f.inside in omega (arith, length-take m src)

  split_src : take m src ++ drop m src ≡ src
  split_src = take-append-drop m src

  split_to : take m src ++ drop m to ≡ to
  split_to = ap (λ (bs : List ℕ). bs ++ drop m to) f.same ∙ take-append-drop m to

  -- A character begins after a byte that is ASCII.
  pub behind : (b i : ℕ) → i < m → byte src i ≡ b → b < 128 → IsCharBoundary (take m src) (i + 1)
  behind b i below is ascii =
      let n = long in
      let same = get_or-take m src i 0 below in
      IsCharBoundary-after_ascii (take m src) i f.utf8 (omega arith) (omega arith)

  -- A run of characters, and after it another begins.
  pub run_cuts : (p : ℕ → Bool) (i e : ℕ) → IsCharBoundary (take m src) i → e < m → e ≡ run_end p src i → (e ≡ run_end p to i) × IsCharBoundary (take m src) e
  run_cuts p i e cut below is =
      let n = long in
      let whole : run_end p (take m src ++ drop m src) i ≡ e = ap (λ (bs : List ℕ). run_end p bs i) split_src ∙ sym is in
      let one : run_end p (take m src ++ drop m src) i ≡ run_end p (take m src) i = run_end_front p (take m src) (drop m src) i f.utf8 cut (omega arith) in
      let two : run_end p (take m src ++ drop m to) i ≡ run_end p (take m src) i = run_end_more p (take m src) (drop m to) i f.utf8 cut (omega arith) in
      let at : run_end p (take m src) i ≡ e = sym one ∙ whole in
      (sym at ∙ sym two ∙ ap (λ (bs : List ℕ). run_end p bs i) split_to, subst (IsCharBoundary (take m src)) at (run_cut p (take m src) i f.utf8 cut))

  -- Its first character.
  pub begins_cut : (p : ℕ → Bool) (i : ℕ) → IsCharBoundary (take m src) i → i < m → begins p src i ≡ begins p to i
  begins_cut p i cut below =
      let n = long in
      sym (ap (λ (bs : List ℕ). begins p bs i) split_src) ∙ begins_more p (take m src) (drop m src) i f.utf8 cut (omega arith)
      ∙ sym (begins_more p (take m src) (drop m to) i f.utf8 cut (omega arith)) ∙ ap (λ (bs : List ℕ). begins p bs i) split_to

  -- A stretch of bytes.
  pub bytes_end_cut : (p : ℕ → Bool) (i e : ℕ) → e ≡ bytes_end p src i → e < m → e ≡ bytes_end p to i
  unfolding bytes_end
  bytes_end_cut p i e is below =
      let q = stretch_cut p (m - i) (drop i src) (drop i to) (fronts src to m f.same i (omega arith)) (omega arith) in
      omega arith
