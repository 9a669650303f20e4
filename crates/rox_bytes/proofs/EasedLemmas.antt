-- Bytes where each 239 that 191 does not follow counts as 255.
use Rattle.std.proofs.Common.{◌≡◌, ◌⊎◌, ℕ, zero, suc, ◌+◌, ◌-◌, ◌<◌, ◌≤◌, ◌==◌, ◌||◌, ◌&&◌, Bool, true, false, not, cond, List, [], ◌∷◌, ◌++◌, map, replicate, length, get_or, take, drop, bit_and, refl, sym, ap, ◌∙◌, arith, inl, inr, get_or-drop, length-drop, length-append, IsUtf8, chars, IsCharBoundary}
use Rattle.std.specs.Char.{encode_utf8}
use Rattle.std.specs.Simd.Lanes.{sel_l, top, zip2}
use Rattle.std.proofs.Math.Utf8.{encodes}
use Rattle.std.proofs.lemmas.Bool.{and_parts, and_from, cases_eq, cases_lt, false≢true}
use Rattle.std.proofs.lemmas.Bool.Decides.{nat_tests}
use Rattle.std.proofs.lemmas.List.{length-take, get_or-take, drop_more, drop_all, get_or_past}
use Rattle.std.proofs.lemmas.Str.{encode_ascii, length-encode, encodes-chars, IsUtf8-drop, IsUtf8-take}
use Rattle.rox_grammar.specs.Chars.{is_char}
use Rattle.rox_grammar.specs.Runs.{passing, run_end}
use Rattle.rox_bytes.specs.ByteSets.{eased, is_char_byte, leads_char, passes_eased}
use Rattle.rox_bytes.proofs.LaneLemmas.{differs, equals}

-- ---- sixteen of them

pub length_eased : (src : List ℕ) → length (eased src) ≡ length src
length_eased [] = refl
length_eased (b ∷ bs) = ap suc (length_eased bs)

pub drop_eased : (i : ℕ) (src : List ℕ) → drop i (eased src) ≡ eased (drop i src)
drop_eased zero src = refl
drop_eased (suc i) [] = refl
drop_eased (suc i) (b ∷ bs) = drop_eased i bs

lane : (e f : Bool) → top 7 (bit_and (cond e 255 0) (cond (not f) 255 0)) ≡ (e && not f)
lane e f = grind arith

pub eased_lanes : (n : ℕ) (src : List ℕ) → n < length src
    → sel_l (map (top 7) (zip2 bit_and (zip2 equals (take n src) (replicate n 239)) (zip2 differs (take n (drop 1 src)) (replicate n 191)))) (replicate n 255) (take n src) ≡ take n (eased src)
eased_lanes zero src more = refl
eased_lanes (suc n) [] more = absurd (omega (arith, more))
eased_lanes (suc n) (b ∷ []) more = absurd (omega (arith, more))
eased_lanes (suc n) (b ∷ c ∷ rest) more = rw (lane (b == 239) (c == 191), eased_lanes n (c ∷ rest) (omega (arith, more))) refl

get_eased : (src : List ℕ) (k : ℕ) → k < length src → get_or (eased src) k 0 ≡ cond (leads_char (get_or src k 0) (get_or src (suc k) 0)) 255 (get_or src k 0)
get_eased [] k less = absurd (omega (arith, less))
get_eased (b ∷ bs) zero less = refl
get_eased (b ∷ bs) (suc k) less = get_eased bs k (omega (arith, less))

-- what passes among the eased bytes
pub eased_passes : (p : ℕ → Bool) (src : List ℕ) (k : ℕ) → k < length src → p (get_or (eased src) k 0) ≡ true → passes_eased p src k ≡ true
eased_passes p src k less h = grind (arith, get_eased)

-- and what stops there
pub eased_stops : (p : ℕ → Bool) (src : List ℕ) (k : ℕ) → k < length src → p (get_or (eased src) k 0) ≡ false → (p (get_or src k 0) && not (get_or src k 0 == 239)) ≡ false
eased_stops p src k less h = grind (arith, get_eased)

-- ---- their characters

-- each byte is of a Char, or a 239 that 191 does not follow
abbrev fair : List ℕ → Bool
fair [] = true
fair (b ∷ bs) = (is_char_byte b || leads_char b (get_or bs 0 0)) && fair bs

fair_behind : (xs ys : List ℕ) → fair (xs ++ ys) ≡ true → fair ys ≡ true
fair_behind [] ys h = h
fair_behind (x ∷ xs) ys h = fair_behind xs ys (and_parts _ _ h).1

fair_ascii : (c n : ℕ) → c < 128 → (is_char_byte c || leads_char c n) ≡ true → is_char c ≡ true
fair_ascii c n ascii h = grind (arith, nat_tests)

first_apart : (rest : List ℕ) → fair (encode_utf8 65534 ++ rest) ≡ false
unfolding encode_utf8
first_apart rest = refl

last_apart : (rest : List ℕ) → fair (encode_utf8 65535 ++ rest) ≡ false
unfolding encode_utf8
last_apart rest = refl

fair_char : (c : ℕ) (rest : List ℕ) → fair (encode_utf8 c ++ rest) ≡ true → is_char c ≡ true
fair_char c rest h =
    elim (cases_lt c 128) [
      | inl ascii ↦ (let h' = rw (encode_ascii c ascii) at h in fair_ascii c (get_or rest 0 0) ascii (and_parts _ _ h').0)
      | inr wide ↦ elim (cases_eq c 65534) [
        | inl first ↦ absurd (false≢true (sym (first_apart rest) ∙ rw first at h))
        | inr other ↦ elim (cases_eq c 65535) [ inl last ↦ absurd (false≢true (sym (last_apart rest) ∙ rw last at h)) | inr others ↦ grind (arith, nat_tests) ]
      ]
    ]

fair_passing : (cs : List ℕ) → fair (encodes cs) ≡ true → passing is_char cs ≡ length (encodes cs)
fair_passing [] h = refl
fair_passing (c ∷ cs) h = grind (arith, fair_passing cs (fair_behind (encode_utf8 c) (encodes cs) h), fair_char, length-append, length-encode)

fair_run : (src : List ℕ) (i : ℕ) → IsUtf8 src → IsCharBoundary src i → fair (drop i src) ≡ true → run_end is_char src i ≡ length src
unfolding run_end
fair_run src i utf8 cut h =
    let back = encodes-chars (drop i src) (IsUtf8-drop src i utf8 cut) in
    omega (arith, (fair_passing (chars (drop i src)) (rw back h)), ap length back, length-drop i src, cut.0)

fair_here : (p : ℕ → Bool) (b m n : ℕ) → (p b ≡ true → is_char_byte b ≡ true) → (p b || leads_char b m) ≡ true → (n ≡ m) ⊎ (n ≡ 0) → (is_char_byte b || leads_char b n) ≡ true
fair_here p b m n are h next = grind arith

all_fair : (p : ℕ → Bool) (src : List ℕ) (i e n : ℕ) → i + n ≡ e → e ≤ length src → ((k : ℕ) → i ≤ k → k < e → passes_eased p src k ≡ true) → ((b : ℕ) → p b ≡ true → is_char_byte b ≡ true) → fair (drop i (take e src)) ≡ true
all_fair p src i e zero same within all are = let long = length-take e src in rw (drop_all i (take e src) (omega (arith, long))) refl
all_fair p src i e (suc n) same within all are =
    let long = length-take e src in
    let zero : i + 1 + 0 ≡ i + 1 = omega arith in
    let behind : get_or (drop (i + 1) (take e src)) 0 0 ≡ get_or (take e src) (i + 1) 0 = get_or-drop (i + 1) (take e src) 0 0 ∙ ap (λ (k : ℕ). get_or (take e src) k 0) zero in
    let next : (get_or (drop (i + 1) (take e src)) 0 0 ≡ get_or src (i + 1) 0) ⊎ (get_or (drop (i + 1) (take e src)) 0 0 ≡ 0) = grind (arith, get_or-take, get_or_past) in
    let here = fair_here p (get_or src i 0) (get_or src (i + 1) 0) _ (are (get_or src i 0)) (all i (omega arith) (omega arith)) next in
    let rest = all_fair p src (i + 1) e n (omega arith) within (λ k low high. all k (omega arith) high) are in
    rw (drop_more (take e src) i 0 (omega (arith, long)), (get_or-take e src i 0 (omega (arith, long)))) (and_from _ _ here rest)

-- a place before the end of a front is one between characters of the front
pub cut_before : (src : List ℕ) (i e : ℕ) → i ≤ e → e ≤ length src → IsCharBoundary src i → IsCharBoundary (take e src) i
cut_before src i e le within cut = grind (arith, length-take, get_or-take)

-- eased bytes are of Chars
pub eased_chars : (p : ℕ → Bool) (src : List ℕ) (i e : ℕ) → IsUtf8 src → IsCharBoundary src i → i ≤ e → IsCharBoundary src e → ((k : ℕ) → i ≤ k → k < e → passes_eased p src k ≡ true) → ((b : ℕ) → p b ≡ true → is_char_byte b ≡ true) → run_end is_char (take e src) i ≡ e
eased_chars p src i e utf8 start le cut all are =
    let whole = fair_run (take e src) i (IsUtf8-take src e utf8 cut) (cut_before src i e le cut.0 start) (all_fair p src i e (e - i) (omega arith) cut.0 all are) in
    omega (arith, whole, (length-take e src))

-- such a byte passes, or it is a 239
pub eased_byte : (p : ℕ → Bool) (src : List ℕ) (k : ℕ) → passes_eased p src k ≡ true → (p (get_or src k 0) ≡ true) ⊎ (get_or src k 0 ≡ 239)
eased_byte p src k h = grind arith
