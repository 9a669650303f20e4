-- How a reading that failed went, and the smallest faults.
use Rattle.std.proofs.Common.{◌≡◌, ℕ, ◌+◌, ◌-◌, ◌<◌, ◌≤◌, Bool, true, false, eqb, ltb, leb, List, [], ◌∷◌, ◌++◌, length, take, drop, refl, sym, ap, ◌∙◌, subst, arith, inl, inr, add-zero, get_or, get_or-drop, append_assoc, length-append, length-take, length-drop}
use Rattle.std.specs.Prelude.{Result, Ok, Err, slice_index}
use Rattle.std.specs.Char.{encode_utf8, len_utf8}
use Rattle.std.specs.Str.{chars, IsUtf8, IsCharBoundary, encode_utf8_all, all_scalars}
use Rattle.std.proofs.lemmas.List.{append-nil, drop-drop, drop-take, drop-append-le, take-append-drop}
use Rattle.std.proofs.lemmas.Bool.{cases_Bool, eqb-false, leb-false, leb-true, ltb-true, and_parts}
use Rattle.std.proofs.lemmas.Str.{chars-encodes, encodes-chars, encodes-append, chars-append, length-encode, len_utf8_bounds, IsUtf8-drop, IsUtf8-take, IsUtf8-between, IsCharBoundary-from_drop}
use Rattle.std.proofs.Math.Seq.{drop-append_seam, take-add}
use Rattle.std.proofs.Math.Utf8.{scalar, scalars}
use Rattle.std.proofs.lemmas.Bool.Decides.{nat_tests}
use Rattle.std.proofs.lemmas.Grind.{common_steps}
use Rattle.rox_grammar.specs.declared.fault.Fault.{Fault}
use Rattle.rox_grammar.specs.declared.fault.Expected.{Expected}
use Rattle.rox_grammar.specs.declared.fault.Fault.TheVariants as fault
use Rattle.rox_grammar.specs.Chars.{is_char}
use Rattle.rox_grammar.specs.Runs.{run_end, passing, StandsAt}
use Rattle.rox_grammar.specs.Search.{stands}
use Rattle.rox_grammar.specs.ExpectedTexts.{expected_text}
use Rattle.rox_grammar.specs.Names.{byte}
use Rattle.rox_grammar.specs.Due.{a_byte, a_text, a_qname, chars_to, IsMissing, no_char, other_byte, other_text, no_qname, no_byte}
use Rattle.rox_reading.specs.Refusals.{Refusal, here, lifted}
use Rattle.rox_reading.specs.Lexical.{◌>>=◌, byte_at, string_at, chars_up_to, qname_at}
use Rattle.rox_theory.proofs.Basics.{chosen}
use Rattle.rox_theory.proofs.NameLemmas.{qname_complete}

-- Where a sequence fails, its first step fails, or gives a value with which the rest fails.
pub bind_err : {A B E P : Type 0} (r : Result A E) (f : A → Result B E) (e : E) → (r >>= f) ≡ Err e → (r ≡ Err e → P) → ((x : A) → r ≡ Ok x → f x ≡ Err e → P) → P
bind_err r f e h now later = grind arith

-- The same of a first step that opens no entity: its fault is in the source that is read.
pub lifted_err : {A B P : Type 0} (r : Result A Fault) (f : A → Result B Refusal) (e : Refusal) → (lifted r >>= f) ≡ Err e → ((d : Fault) → r ≡ Err d → here d ≡ e → P)
    → ((x : A) → r ≡ Ok x → f x ≡ Err e → P) → P
lifted_err r f e h now later = grind arith

-- And of one that is all.
pub lifted_only : {A P : Type 0} (r : Result A Fault) (e : Refusal) → lifted r ≡ Err e → ((d : Fault) → r ≡ Err d → here d ≡ e → P) → P
lifted_only r e h go = grind arith

-- What is read to one value is not read to another.
pub ok_one : {A E : Type 0} (x y : A) (r : Result A E) → r ≡ Ok x → r ≡ Ok y → x ≡ y
ok_one x y r h k = let e = sym h ∙ k in cc

-- A refusal by a fault of the source that is read, of which this holds.
abbrev pub IsHere : (Fault → Type 0) → Refusal → Type 0
IsHere P e = (f : Fault) × (here f ≡ e) × P f

-- A result is not a fault.
pub no_fault : {A E P : Type 0} (x : A) (f : E) → ◌≡◌ {A = Result A E} (Ok x) (Err f) → P
no_fault x f h = cc h

-- After the characters that pass, if any byte is left, stands one that fails.
pub fails_in : (p : ℕ → Bool) (src cs : List ℕ) (i : ℕ) → drop i src ≡ encode_utf8_all cs → all_scalars cs ≡ true → i + passing p cs < length src
    → (c : ℕ) × (more : List ℕ) × (drop (i + passing p cs) src ≡ encode_utf8_all (c ∷ more)) × (p c ≡ false) × (all_scalars (c ∷ more) ≡ true)
fails_in p src [] i is scalars some = grind (arith, length-drop i src)
fails_in p src (c ∷ cs) i is scalars some =
    elim (cases_Bool (p c)) as (λ s. (d : ℕ) × (more : List ℕ) × (drop (i + passing p (c ∷ cs)) src ≡ encode_utf8_all (d ∷ more)) × (p d ≡ false) × (all_scalars (d ∷ more) ≡ true)) [
      | inl passes ↦ (
          let past : drop (len_utf8 c) (encode_utf8 c ++ encode_utf8_all cs) ≡ encode_utf8_all cs = grind (arith, common_steps, length-encode) in
          let rest : drop (i + len_utf8 c) src ≡ encode_utf8_all cs = sym (drop-drop (len_utf8 c) i src) ∙ ap (drop (len_utf8 c)) is ∙ past in
          let e : i + len_utf8 c + passing p cs ≡ i + passing p (c ∷ cs) = rw passes (omega arith) in
          let found = fails_in p src cs (i + len_utf8 c) rest (and_parts _ _ scalars).1 (omega arith) in
          (found.0, found.1, subst (λ (k : ℕ). drop k src ≡ encode_utf8_all (found.0 ∷ found.1)) e found.2, found.3, found.4))
      | inr fails ↦ grind arith
    ]

-- The first character of a row.
head_is : (cs ds : List ℕ) (c : ℕ) (more : List ℕ) → cs ≡ c ∷ more → slice_index (cs ++ ds) 0 ≡ c
head_is cs ds c more is = rw is refl

-- A character, and what follows it.
stands_there : (src : List ℕ) (q c : ℕ) (a b : List ℕ) → drop q src ≡ (encode_utf8 c ++ a) ++ b → StandsAt c src q
stands_there src q c a b is =
    let is' : drop q src ≡ encode_utf8 c ++ (a ++ b) = is ∙ append_assoc (encode_utf8 c) a b in
    let past : drop (len_utf8 c) (encode_utf8 c ++ (a ++ b)) ≡ a ++ b = rw (← length-encode c) (drop-append_seam (encode_utf8 c) (a ++ b)) in
    let rest : drop (q + len_utf8 c) src ≡ a ++ b = sym (drop-drop (len_utf8 c) q src) ∙ ap (drop (len_utf8 c)) is' ∙ past in
    is' ∙ ap (λ (r : List ℕ). encode_utf8 c ++ r) (sym rest)

-- A run of Chars that ends before a place ends at a character that is none.
pub ill_char : (src : List ℕ) (i e q : ℕ) → IsUtf8 src → IsCharBoundary src i → IsCharBoundary src e → i ≤ e → q ≡ run_end is_char (take e src) i → q < e
    → StandsAt (slice_index (chars (drop q src)) 0) src q × (is_char (slice_index (chars (drop q src)) 0) ≡ false)
unfolding run_end
ill_char src i e q utf8 cut end le is before =
    let front = take e src in
    let long : length front ≡ e = omega (arith, length-take e src, end.0) in
    let middle : drop i front ≡ take (e - i) (drop i src) = subst (λ (k : ℕ). drop i (take k src) ≡ take (e - i) (drop i src)) (omega arith) (drop-take i (e - i) src) in
    let cut' : IsCharBoundary front i = IsCharBoundary-from_drop front i (omega arith) (subst IsUtf8 (sym middle) (IsUtf8-between src i e utf8 le cut end)) in
    let spelled = IsUtf8-drop front i (IsUtf8-take src e utf8 end) cut' in
    let all : chars (drop i front) ≡ spelled.0 = ap chars (sym spelled.1.1) ∙ chars-encodes spelled.0 spelled.1.0 in
    let same : i + passing is_char spelled.0 ≡ q = ap (λ (cs : List ℕ). i + passing is_char cs) (sym all) ∙ sym is in
    let found = fails_in is_char front spelled.0 i (sym spelled.1.1) spelled.1.0 (omega arith) in
    let c = found.0 in
    let there : drop q front ≡ encode_utf8_all (c ∷ found.1) = subst (λ (k : ℕ). drop k front ≡ encode_utf8_all (c ∷ found.1)) same found.2 in
    let whole : drop q src ≡ drop q front ++ drop e src = ap (drop q) (sym (take-append-drop e src)) ∙ drop-append-le q front (drop e src) (omega arith) in
    let first : slice_index (chars (drop q src)) 0 ≡ c =
    ap (λ (bs : List ℕ). slice_index (chars bs) 0) whole
    ∙ ap (λ (cs : List ℕ). slice_index cs 0) (chars-append (drop q front) (drop e src) ((c ∷ found.1, (found.4, sym there))))
    ∙ head_is (chars (drop q front)) (chars (drop e src)) c found.1 (ap chars there ∙ chars-encodes (c ∷ found.1) found.4) in
    let standing : StandsAt c src q = stands_there src q c (encode_utf8_all found.1) (drop e src) (whole ∙ ap (λ (bs : List ℕ). bs ++ drop e src) there) in
    (subst (λ (d : ℕ). StandsAt d src q) (sym first) standing, ap is_char first ∙ found.3)

-- Chars up to a place: the fault is a character that is none.
pub chars_fails : (src : List ℕ) (i e : ℕ) (f : Fault) → IsUtf8 src → IsCharBoundary src i → IsCharBoundary src e → i ≤ e → chars_up_to e src i ≡ Err f → IsMissing src i (chars_to e) f
unfolding chars_up_to
chars_fails src i e f utf8 cut end le h =
    let q = run_end is_char (take e src) i in
    chosen (ltb q e) _ _ _ h
    (λ ill h.
    let before = ltb-true _ _ ill in
    let found = ill_char src i e q utf8 cut end le refl before in
    let is : fault.NonXmlChar (slice_index (chars (drop q src)) 0) q ≡ f = cc in
    subst (IsMissing src i (chars_to e)) is (no_char e q (slice_index (chars (drop q src)) 0) refl before found.0 found.1))
    (λ fine h. cc)

-- A byte that is required.
pub byte_fails : (b : ℕ) (src : List ℕ) (i : ℕ) (f : Fault) → byte_at b src i ≡ Err f → IsMissing src i (a_byte b) f
unfolding byte_at
byte_fails b src i f h =
    chosen (leb (length src) i) _ _ _ h
    (λ past h. let is : fault.UnexpectedEndOfStream ≡ f = cc in subst (IsMissing src i (a_byte b)) is (no_byte b (leb-true _ _ past)))
    (λ inside h. chosen (eqb (byte src i) b) _ _ _ h (λ same h. cc)
    (λ apart h. let is : fault.InvalidChar b (byte src i) i ≡ f = cc in subst (IsMissing src i (a_byte b)) is (other_byte b (leb-false _ _ inside) (eqb-false _ _ apart))))

-- A fixed text that is required.
pub string_fails : (w : Expected) (src : List ℕ) (i : ℕ) (f : Fault) → string_at w src i ≡ Err f → IsMissing src i (a_text w) f
unfolding string_at
string_fails w src i f h =
    chosen (stands (expected_text w) src i) _ _ _ h (λ same h. cc)
    (λ apart h. let is : fault.InvalidString w i ≡ f = cc in subst (IsMissing src i (a_text w)) is (other_text w apart))

-- The fault of a name that is none.
qname_fault : (src : List ℕ) (i : ℕ) (f : Fault) → qname_at src i ≡ Err f → f ≡ fault.InvalidName i
unfolding qname_at
qname_fault src i f h = grind (arith, nat_tests)

-- A qualified name that is required.
pub qname_fails : (src : List ℕ) (i : ℕ) (f : Fault) → qname_at src i ≡ Err f → IsMissing src i a_qname f
qname_fails src i f h =
    subst (IsMissing src i a_qname) (sym (qname_fault src i f h)) (no_qname (λ name j is. let k = qname_complete src i name j is in no_fault (name, j) f (sym k ∙ h)))

-- ---- Chars hold no other character

-- If all of them pass, each does.
each_passes : (p : ℕ → Bool) (cs ds : List ℕ) (d : ℕ) → passing p (cs ++ d ∷ ds) ≡ length (encode_utf8_all (cs ++ d ∷ ds)) → p d ≡ true
each_passes p [] ds d all = grind (arith, length-append, length-encode)
each_passes p (c ∷ cs) ds d all =
    let n = length-append (encode_utf8 c) (encode_utf8_all (cs ++ d ∷ ds)) in
    let m = length-encode c in let some = (len_utf8_bounds c).0 in
    elim (cases_Bool (p c)) as (λ s. p d ≡ true) [
      | inl passes ↦ (
          let all' : len_utf8 c + passing p (cs ++ d ∷ ds) ≡ length (encode_utf8 c ++ encode_utf8_all (cs ++ d ∷ ds)) = rw passes at all in
          each_passes p cs ds d (omega arith))
      | inr fails ↦ (let z : 0 ≡ length (encode_utf8 c ++ encode_utf8_all (cs ++ d ∷ ds)) = rw fails at all in absurd (omega arith))
    ]

-- What is no Char is a scalar value all the same.
ill_scalar : (c : ℕ) → is_char c ≡ false → scalar c ≡ true
ill_scalar c h = grind (arith, nat_tests)

-- A character begins with no byte that continues with one.
lead_byte : (c : ℕ) (rest : List ℕ) → 128 ≤ get_or (encode_utf8 c ++ rest) 0 0 → 192 ≤ get_or (encode_utf8 c ++ rest) 0 0
unfolding encode_utf8
lead_byte c rest = grind arith

-- So no other character stands among Chars.
pub chars_refuse : (src : List ℕ) (i e q c : ℕ) → IsUtf8 src → IsCharBoundary src i → IsCharBoundary src e → i ≤ q → q < e → run_end is_char (take e src) i ≡ e → StandsAt c src q → is_char c ≡ false → ⊥
unfolding run_end
chars_refuse src i e q c utf8 cut end from below all stands' ill =
    let scalar' = ill_scalar c ill in
    let first : get_or (drop q src) 0 0 ≡ byte src q = get_or-drop q src 0 0 ∙ ap (byte src) (add-zero q) in
    let lead : 128 ≤ byte src q → 192 ≤ byte src q =
    subst (λ (b : ℕ). 128 ≤ b → 192 ≤ b) (ap (λ (bs : List ℕ). get_or bs 0 0) (sym stands') ∙ first) (lead_byte c (drop (q + len_utf8 c) src)) in
    let at_q : IsCharBoundary src q = (omega (arith, end.0), λ inside'. lead) in
    let one = IsUtf8-between src i q utf8 from cut at_q in
    let two = IsUtf8-between src q e utf8 (omega arith) at_q end in
    let a = take (q - i) (drop i src) in
    let b = take (e - q) (drop q src) in
    let middle : drop i (take e src) ≡ take (e - i) (drop i src) = subst (λ (k : ℕ). drop i (take k src) ≡ take (e - i) (drop i src)) (omega arith) (drop-take i (e - i) src) in
    let halves : take (q - i + (e - q)) (drop i src) ≡ a ++ take (e - q) (drop (q - i) (drop i src)) = take-add (q - i) (e - q) (drop i src) in
    let second : drop (q - i) (drop i src) ≡ drop q src = drop-drop (q - i) i src ∙ ap (λ (k : ℕ). drop k src) (omega arith) in
    let split : drop i (take e src) ≡ a ++ b = middle ∙ ap (λ (k : ℕ). take k (drop i src)) (sym (omega arith)) ∙ halves ∙ ap (λ (bs : List ℕ). a ++ take (e - q) bs) second in
    let both : chars (drop i (take e src)) ≡ chars a ++ chars b = ap chars split ∙ chars-append a b one in
    let long : length (a ++ b) ≡ e - i = ap length (sym split) ∙ length-drop i (take e src) ∙ (let n = length-take e src in omega (arith, n, end.0)) in
    let spelled : encode_utf8_all (chars a ++ chars b) ≡ a ++ b = encodes-append (chars a) (chars b) ∙ rw (encodes-chars a one, encodes-chars b two) refl in
    let pass : passing is_char (chars a ++ chars b) ≡ length (encode_utf8_all (chars a ++ chars b)) =
    ap (passing is_char) (sym both) ∙ (let n : passing is_char (chars (drop i (take e src))) ≡ e - i = omega arith in n) ∙ sym long ∙ ap length (sym spelled) in
    let some : 0 < length b = omega (arith, length-take (e - q) (drop q src), length-drop q src, end.0) in
    first_one (chars b) refl two (encodes-chars b two) some pass scalar'
  where
    -- The first character there is the one that is there.
    first_one : (cs : List ℕ) → cs ≡ chars (take (e - q) (drop q src)) → IsUtf8 (take (e - q) (drop q src)) → encode_utf8_all (chars (take (e - q) (drop q src))) ≡ take (e - q) (drop q src) → 0 < length (take (e - q) (drop q src))
        → passing is_char (chars (take (q - i) (drop i src)) ++ chars (take (e - q) (drop q src))) ≡ length (encode_utf8_all (chars (take (q - i) (drop i src)) ++ chars (take (e - q) (drop q src))))
        → scalar c ≡ true → ⊥
    first_one [] is two spelled some pass scalar' =
        let z : 0 ≡ length (take (e - q) (drop q src)) = ap (λ (cs : List ℕ). length (encode_utf8_all cs)) is ∙ ap length spelled in
        absurd (omega arith)
    first_one (d ∷ ds) is two spelled some pass scalar' =
        let front = chars (take (q - i) (drop i src)) in
        let pass' : passing is_char (front ++ d ∷ ds) ≡ length (encode_utf8_all (front ++ d ∷ ds)) =
        subst (λ (cs : List ℕ). passing is_char (front ++ cs) ≡ length (encode_utf8_all (front ++ cs))) (sym is) pass in
        let whole : drop q src ≡ take (e - q) (drop q src) ++ drop (e - q) (drop q src) = sym (take-append-drop (e - q) (drop q src)) in
        let here : slice_index (chars (drop q src)) 0 ≡ d =
        ap (λ (bs : List ℕ). slice_index (chars bs) 0) whole ∙ ap (λ (cs : List ℕ). slice_index cs 0) (chars-append (take (e - q) (drop q src)) (drop (e - q) (drop q src)) two)
        ∙ head_is (chars (take (e - q) (drop q src))) (chars (drop (e - q) (drop q src))) d ds (sym is) in
        let alone : scalars (c ∷ []) ≡ true = rw scalar' refl in
        let single : IsUtf8 (encode_utf8 c) = (c ∷ [], (alone, append-nil (encode_utf8 c))) in
        let is_c : chars (encode_utf8 c) ≡ c ∷ [] = ap chars (sym (append-nil (encode_utf8 c))) ∙ chars-encodes (c ∷ []) alone in
        let there : slice_index (chars (drop q src)) 0 ≡ c =
        ap (λ (bs : List ℕ). slice_index (chars bs) 0) stands' ∙ ap (λ (cs : List ℕ). slice_index cs 0) (chars-append (encode_utf8 c) (drop (q + len_utf8 c) src) single)
        ∙ head_is (chars (encode_utf8 c)) (chars (drop (q + len_utf8 c) src)) c [] is_c in
        cc (sym ill ∙ sym (ap is_char (sym here ∙ there)) ∙ (each_passes is_char front ds d pass'))
