-- Stretches of listed places, and lists in parts.
use Rattle.std.proofs.Common.{◌≡◌, ℕ, zero, suc, ◌+◌, ◌-◌, ◌<◌, ◌≤◌, List, [], ◌∷◌, ◌++◌, length, take, drop, reverse, get_or, refl, sym, ap, ◌∙◌, arith, append_assoc, get_or-drop, slice_range}
use Rattle.std.proofs.Math.Seq.{take-append_seam, take-append-add, drop-append-add}
use Rattle.std.proofs.lemmas.List.{take-append-le, drop-append-le, get_or-take, get_or-reverse, length-reverse, reverse-append}
use Rattle.rox_grammar.proofs.Stretches.{range_length, range_parts}

-- the one at this place of a stretch
pub range_get : (xs : List ℕ) (i j k d : ℕ) → k < j - i → get_or (slice_range xs i j) k d ≡ get_or xs (i + k) d
range_get xs i j k d h = get_or-take (j - i) (drop i xs) k d h ∙ rw get_or-drop refl

pub back_get : (xs : List ℕ) (i j k d : ℕ) → i ≤ j → j ≤ length xs → k < j - i → get_or (reverse (slice_range xs i j)) k d ≡ get_or xs (j - 1 - k) d
back_get xs i j k d ordered within h = grind (arith, range_length, get_or-reverse, range_get)

-- the one at this place of two lists
pub get_front : (xs ys : List ℕ) (k d : ℕ) → k < length xs → get_or (xs ++ ys) k d ≡ get_or xs k d
get_front [] ys k d h = absurd (omega arith)
get_front (x ∷ xs) ys zero d h = refl
get_front (x ∷ xs) ys (suc k) d h = get_front xs ys k d (omega arith)

pub get_behind : (xs ys : List ℕ) (k d : ℕ) → length xs ≤ k → get_or (xs ++ ys) k d ≡ get_or ys (k - length xs) d
get_behind [] ys k d h = let e : k - 0 ≡ k = omega arith in rw e refl
get_behind (x ∷ xs) ys zero d h = absurd (omega arith)
get_behind (x ∷ xs) ys (suc k) d h = let e : suc k - suc (length xs) ≡ k - length xs = omega arith in rw e (get_behind xs ys k d (omega arith))

-- a list but for one
abbrev pub cut : ℕ → List ℕ → List ℕ
cut i xs = take i xs ++ drop (i + 1) xs

pub cut_middle : (a b c : List ℕ) (i : ℕ) → length a ≡ i → length b ≡ 1 → cut i (a ++ (b ++ c)) ≡ a ++ c
cut_middle a b c i n m =
    let front : take i (a ++ (b ++ c)) ≡ a = ap (λ k. take k (a ++ (b ++ c))) (sym n) ∙ take-append_seam a (b ++ c) in
    let rest : drop (i + 1) (a ++ (b ++ c)) ≡ c = ap (λ k. drop k (a ++ (b ++ c))) (omega arith) ∙ drop-append-add a (b ++ c) 1 ∙ behind b m in
    ap (λ xs. xs ++ drop (i + 1) (a ++ (b ++ c))) front ∙ ap (λ xs. a ++ xs) rest
  where
    behind : (b : List ℕ) → length b ≡ 1 → drop 1 (b ++ c) ≡ c
    behind [] m = absurd (omega arith)
    behind (x ∷ []) m = refl
    behind (x ∷ (y ∷ b)) m = absurd (omega arith)

-- of two lists, where it is in the first
pub cut_first : (xs ys : List ℕ) (i : ℕ) → i < length xs → cut i (xs ++ ys) ≡ cut i xs ++ ys
cut_first xs ys i h = grind (arith, take-append-le, drop-append-le, append_assoc)

-- and where it is not
pub cut_rest : (xs ys : List ℕ) (i n : ℕ) → n ≡ length xs → n ≤ i → cut i (xs ++ ys) ≡ xs ++ cut (i - n) ys
cut_rest xs ys i n e h =
    let k : i ≡ length xs + (i - n) = omega arith in
    grind (arith, take-append-add, drop-append-add, append_assoc)

-- a stretch but for one
pub cut_range : (xs : List ℕ) (i j k : ℕ) → i ≤ j → j ≤ length xs → k < j - i → slice_range xs i (i + k) ++ slice_range xs (i + k + 1) j ≡ cut k (slice_range xs i j)
cut_range xs i j k ordered within h =
    let a = slice_range xs i (i + k) in
    let b = slice_range xs (i + k) (i + k + 1) in
    let n : length a ≡ k = range_length xs i (i + k) (omega arith) (omega arith) ∙ (omega arith) in
    let m : length b ≡ 1 = range_length xs (i + k) (i + k + 1) (omega arith) (omega arith) ∙ (omega arith) in
    sym (ap (cut k) (grind (arith, range_parts)) ∙ cut_middle a b (slice_range xs (i + k + 1) j) k n m)

-- the same from the back
pub cut_back : (xs : List ℕ) (i j k : ℕ) → i ≤ j → j ≤ length xs → k < j - i → reverse (slice_range xs (j - k) j) ++ reverse (slice_range xs i (j - k - 1)) ≡ cut k (reverse (slice_range xs i j))
cut_back xs i j k ordered within h =
    let a = slice_range xs i (j - k - 1) in
    let b = slice_range xs (j - k - 1) (j - k) in
    let c = slice_range xs (j - k) j in
    let parts : slice_range xs i j ≡ a ++ (b ++ c) = grind (arith, range_parts) in
    let n : length (reverse c) ≡ k = length-reverse c ∙ range_length xs (j - k) j (omega arith) within ∙ (omega arith) in
    let m : length (reverse b) ≡ 1 = length-reverse b ∙ range_length xs (j - k - 1) (j - k) (omega arith) (omega arith) ∙ (omega arith) in
    sym (ap (cut k) (grind (arith, reverse-append, append_assoc)) ∙ cut_middle (reverse c) (reverse b) (reverse a) k n m)
