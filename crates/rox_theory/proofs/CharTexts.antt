-- Texts of Chars: how they are joined and cut, and which stretches of a source are such texts.
use Rattle.std.proofs.Common.{◌≡◌, ℕ, ◌+◌, ◌-◌, ◌<◌, ◌≤◌, Bool, true, ◌&&◌, List, [], ◌∷◌, ◌++◌, length, take, drop, refl, sym, ap, ◌∙◌, subst, arith, inl, inr, append_assoc, length-append, length-drop, encode_utf8, chars, IsUtf8, IsCharBoundary}
use Rattle.std.specs.List.{list_all}
use Rattle.std.proofs.Math.Utf8.{encodes, scalar, scalars, low_scalar}
use Rattle.std.proofs.Math.Seq.{take-append_seam, drop-append_seam}
use Rattle.std.proofs.lemmas.Bool.{and_parts, and_from, cases_Bool}
use Rattle.std.proofs.lemmas.List.{append-nil, drop-take, drop-drop}
use Rattle.std.proofs.lemmas.List.Folds.{list_all-append}
use Rattle.std.proofs.lemmas.Str.{chars-nil, chars-encodes, chars-append, encodes-chars, scalars-chars, encode_ascii, IsUtf8-nil, IsUtf8-append, IsUtf8-between, IsUtf8-drop, IsCharBoundary-from_drop, IsCharBoundary-before_ascii, IsCharBoundary-after_ascii, length-encode}
use Rattle.rox_grammar.specs.Chars.{is_char}
use Rattle.rox_grammar.specs.Runs.{run_end, passing}
use Rattle.rox_grammar.proofs.Passing.{all_pass}
use Rattle.rox_grammar.specs.Names.{byte, slice}
use Rattle.rox_grammar.specs.Constructs.{AreChars}
use Rattle.rox_theory.proofs.Basics.{within}
pub use Rattle.rox_grammar.specs.CharText.{IsCharText}
use Rattle.rox_grammar.proofs.Stretches.{range_parts, range_length}

-- ---- joined and cut

-- No characters.
pub no_text : IsCharText []
no_text = record { utf8 = IsUtf8-nil; all = rw chars-nil refl }

-- The characters of two texts in a row.
all_joined : (v w : List ℕ) → IsUtf8 v → list_all is_char (chars (v ++ w)) ≡ (list_all is_char (chars v) && list_all is_char (chars w))
all_joined v w utf8 = ap (list_all is_char) (chars-append v w utf8) ∙ list_all-append is_char (chars v) (chars w)

-- Two in a row are one.
pub texts_joined : (v w : List ℕ) → IsCharText v → IsCharText w → IsCharText (v ++ w)
texts_joined v w a b = record { utf8 = IsUtf8-append v w a.utf8 b.utf8; all = all_joined v w a.utf8 ∙ and_from _ _ a.all b.all }

-- And one that is cut is two.
text_cut : (v w : List ℕ) → IsUtf8 v → IsUtf8 w → IsCharText (v ++ w) → IsCharText v × IsCharText w
text_cut v w a b h = grind (arith, all_joined)

-- Characters in a row.
chars_text : (cs : List ℕ) → scalars cs ≡ true → list_all is_char cs ≡ true → IsCharText (encodes cs)
chars_text cs s h = record { utf8 = (cs, (s, refl)); all = rw (chars-encodes cs s) h }

-- One character.
pub char_text : (c : ℕ) → scalar c ≡ true → is_char c ≡ true → IsCharText (encode_utf8 c)
char_text c s h = subst (λ (v : List ℕ). IsCharText v) (append-nil (encode_utf8 c)) (chars_text (c ∷ []) (and_from _ _ s refl) (and_from _ _ h refl))

-- One that is ASCII.
pub byte_text : (b : ℕ) → b < 128 → is_char b ≡ true → IsCharText (b ∷ [])
byte_text b low h = subst (λ (v : List ℕ). IsCharText v) (encode_ascii b low) (char_text b (low_scalar b (omega arith)) h)

-- ---- stretches of a source

-- A character begins at an ASCII byte.
pub cut_at : (src : List ℕ) (k b : ℕ) → byte src k ≡ b → 0 < b → b < 128 → IsCharBoundary src k
cut_at src k b is some ascii = IsCharBoundary-before_ascii src k (within src k (λ z. omega arith)) (omega arith)

-- And after it.
pub cut_behind : (src : List ℕ) (k b j : ℕ) → IsUtf8 src → byte src k ≡ b → 0 < b → b < 128 → j ≡ k + 1 → IsCharBoundary src j
cut_behind src k b j utf8 is some ascii e =
    subst (λ (m : ℕ). IsCharBoundary src m) (sym e) (IsCharBoundary-after_ascii src k utf8 (within src k (λ z. omega arith)) (omega arith))

-- What is between two places where characters begin, if the run of Chars reaches from one to the other.
pub chars_between : (src : List ℕ) (i j : ℕ) → IsUtf8 src → IsCharBoundary src i → IsCharBoundary src j → AreChars src i j → IsCharText (slice src i j)
unfolding run_end
chars_between src i j utf8 from to h =
    let le : i ≤ j = omega arith in
    let front : drop i (take j src) ≡ slice src i j = ap (λ (m : ℕ). drop i (take m src)) (sym (omega arith)) ∙ drop-take i (j - i) src in
    let text = IsUtf8-between src i j utf8 le from to in
    let long = range_length src i j le to.0 in
    let h' : i + passing is_char (chars (slice src i j)) ≡ j = rw front at h in
    let spelled = ap length (encodes-chars (slice src i j) text) in
    record { utf8 = text; all = all_pass is_char (chars (slice src i j)) (omega arith) }

-- And what is between two such places within it.
pub chars_within : (src : List ℕ) (from to i j : ℕ) → IsUtf8 src → IsCharBoundary src from → IsCharBoundary src to → AreChars src from to
    → from ≤ i → i ≤ j → j ≤ to → IsCharBoundary src i → IsCharBoundary src j → IsCharText (slice src i j)
chars_within src from to i j utf8 first last h a b c cut cut' =
    let whole = chars_between src from to utf8 first last h in
    let split = range_parts src from i to a (omega arith) last.0 in
    let rest = (text_cut (slice src from i) (slice src i to) (IsUtf8-between src from i utf8 a first cut) (IsUtf8-between src i to utf8 (omega arith) cut last) (subst (λ (v : List ℕ). IsCharText v) split whole)).1 in
    let split' = range_parts src i j to b c last.0 in
    (text_cut (slice src i j) (slice src j to) (IsUtf8-between src i j utf8 b cut cut') (IsUtf8-between src j to utf8 c cut' last) (subst (λ (v : List ℕ). IsCharText v) split' rest)).0

-- ---- runs of characters that pass

-- The characters up to the first that fails, and the others.
record Parted (p : ℕ → Bool) (cs : List ℕ) : Type 0 where
  front : List ℕ
  back : List ℕ
  is : encodes cs ≡ encodes front ++ encodes back
  long : length (encodes front) ≡ passing p cs
  pass : list_all p front ≡ true
  fine : scalars front ≡ true
  fine' : scalars back ≡ true

-- There are such.
parted : (p : ℕ → Bool) (cs : List ℕ) → scalars cs ≡ true → Parted p cs
parted p [] s = record { front = []; back = []; is = refl; long = refl; pass = refl; fine = refl; fine' = refl }
parted p (c ∷ cs) s =
    let both = and_parts (scalar c) (scalars cs) s in
    elim (cases_Bool (p c)) as (λ t. Parted p (c ∷ cs)) [
      | inl passes ↦ (
          let r = parted p cs both.1 in
          record {
            front = c ∷ r.front;
            back = r.back;
            is = ap (λ (v : List ℕ). encode_utf8 c ++ v) r.is ∙ sym (append_assoc (encode_utf8 c) (encodes r.front) (encodes r.back));
            long = rw passes (length-append (encode_utf8 c) (encodes r.front) ∙ omega (arith, length-encode c, r.long));
            pass = and_from (p c) (list_all p r.front) passes r.pass;
            fine = and_from (scalar c) (scalars r.front) both.0 r.fine;
            fine' = r.fine';
          })
      | inr fails ↦ record { front = []; back = c ∷ cs; is = refl; long = rw fails refl; pass = refl; fine = refl; fine' = s }
    ]

-- If what passes are Chars, a run is a text of them.
module _ (p : ℕ → Bool) (src : List ℕ) (i : ℕ) (utf8 : IsUtf8 src) (cut : IsCharBoundary src i) where
  -- The source from there on.
  rest : Parted p (chars (drop i src))
  rest = parted p (chars (drop i src)) (scalars-chars (drop i src) (IsUtf8-drop src i utf8 cut))

  rest_is : drop i src ≡ encodes rest.front ++ encodes rest.back
  rest_is = sym (encodes-chars (drop i src) (IsUtf8-drop src i utf8 cut)) ∙ rest.is

  -- A character begins where the run ends.
  pub run_cut : IsCharBoundary src (run_end p src i)
  unfolding run_end
  run_cut =
      let e : drop (i + passing p (chars (drop i src))) src ≡ encodes rest.back =
      sym (drop-drop (passing p (chars (drop i src))) i src) ∙ ap (drop (passing p (chars (drop i src)))) rest_is ∙ ap (λ (n : ℕ). drop n (encodes rest.front ++ encodes rest.back)) (sym rest.long)
      ∙ drop-append_seam (encodes rest.front) (encodes rest.back) in
      let inside : i + passing p (chars (drop i src)) ≤ length src = omega (arith, cut.0, rest.long, ap length rest_is, length-append (encodes rest.front) (encodes rest.back), length-drop i src) in
      IsCharBoundary-from_drop src (i + passing p (chars (drop i src))) inside (rest.back, (rest.fine', sym e))

  -- And the run is a text of Chars.
  pub run_of_chars : ((c : ℕ) → p c ≡ true → is_char c ≡ true) → IsCharText (slice src i (run_end p src i))
  unfolding run_end
  run_of_chars chars_pass =
      let n : (i + passing p (chars (drop i src))) - i ≡ length (encodes rest.front) = omega (arith, rest.long) in
      let e : slice src i (i + passing p (chars (drop i src))) ≡ encodes rest.front =
      ap (λ (m : ℕ). take m (drop i src)) n ∙ ap (take (length (encodes rest.front))) rest_is ∙ take-append_seam (encodes rest.front) (encodes rest.back) in
      subst (λ (v : List ℕ). IsCharText v) (sym e) (chars_text rest.front rest.fine (weaker rest.front rest.pass))
    where
      weaker : (cs : List ℕ) → list_all p cs ≡ true → list_all is_char cs ≡ true
      weaker [] h = refl
      weaker (c ∷ cs) h = let both = and_parts (p c) (list_all p cs) h in and_from (is_char c) (list_all is_char cs) (chars_pass c both.0) (weaker cs both.1)
