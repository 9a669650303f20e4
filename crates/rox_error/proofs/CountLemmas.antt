-- Counts of bytes in parts of a text, and of characters by their first bytes.
use Rattle.std.proofs.Common.{◌≡◌, ◌≤◌, ◌<◌, ℕ, ◌+◌, ◌/◌, Bool, true, false, cond, ◌||◌, List, [], ◌∷◌, length, take, drop, count_by, nat_lt, nat_le, refl, sym, ap, ◌∙◌, arith, IsUtf8, chars}
use lib.Utf8.{encode, encodes, next}
use lib.Dec.{ltb, ltb→lt}
use Rattle.std.proofs.lemmas.Bool.Decides.{nat_tests}
use Rattle.std.proofs.lemmas.List.Sums.{sum_by-take-drop, sum_by-cons, sum_by-append}
use Rattle.std.proofs.lemmas.Str.{chars_from_encodes}

pub count_in_parts : (p : ℕ → Bool) (n : ℕ) (xs : List ℕ) → count_by p (take n xs) + count_by p (drop n xs) ≡ count_by p xs
count_in_parts p n xs = sum_by-take-drop (λ y. cond (p y) 1 0) xs n

-- a byte that starts a character
abbrev pub is_first : ℕ → Bool
is_first b = nat_lt b 128 || nat_le 192 b

counts_one : (b : ℕ) (bs : List ℕ) → is_first b ≡ true → count_by is_first (b ∷ bs) ≡ 1 + count_by is_first bs
counts_one b bs h = sum_by-cons (λ y. cond (is_first y) 1 0) b bs ∙ ap (λ (t : Bool). cond t 1 0 + count_by is_first bs) h

counts_none : (b : ℕ) (bs : List ℕ) → is_first b ≡ false → count_by is_first (b ∷ bs) ≡ count_by is_first bs
counts_none b bs h = sum_by-cons (λ y. cond (is_first y) 1 0) b bs ∙ ap (λ (t : Bool). cond t 1 0 + count_by is_first bs) h ∙ omega arith

low_is_first : (b : ℕ) → b < 128 → is_first b ≡ true
low_is_first b h = grind (arith, nat_tests)

high_is_first : (b : ℕ) → 192 ≤ b → is_first b ≡ true
high_is_first b h = grind (arith, nat_tests)

later_is_not : (b : ℕ) → 128 ≤ b → b < 192 → is_first b ≡ false
later_is_not b low high = grind (arith, nat_tests)

next_is_not : (n : ℕ) (bs : List ℕ) → count_by is_first (next n ∷ bs) ≡ count_by is_first bs
next_is_not n bs = counts_none (next n) bs (later_is_not (next n) (omega arith) (omega arith))

starts_with : (b : ℕ) (bs : List ℕ) → 192 ≤ b → count_by is_first bs ≡ 0 → count_by is_first (b ∷ bs) ≡ 1
starts_with b bs h none = omega (arith, counts_one b bs (high_is_first b h), none)

two : (c : ℕ) → count_by is_first ((192 + c / 64) ∷ next c ∷ []) ≡ 1
two c = starts_with (192 + c / 64) (next c ∷ []) (omega arith) (next_is_not c [])

three : (c : ℕ) → count_by is_first ((224 + c / 4096) ∷ next (c / 64) ∷ next c ∷ []) ≡ 1
three c = starts_with (224 + c / 4096) (next (c / 64) ∷ next c ∷ []) (omega arith) (next_is_not (c / 64) (next c ∷ []) ∙ next_is_not c [])

four : (c : ℕ) → count_by is_first ((240 + c / 262144) ∷ next (c / 4096) ∷ next (c / 64) ∷ next c ∷ []) ≡ 1
four c = starts_with (240 + c / 262144) (next (c / 4096) ∷ next (c / 64) ∷ next c ∷ []) (omega arith) (next_is_not (c / 4096) (next (c / 64) ∷ next c ∷ []) ∙ next_is_not (c / 64) (next c ∷ []) ∙ next_is_not c [])

by_length : (c : ℕ) (x y z : Bool) → (x ≡ true → c < 128)
    → count_by is_first (cond x (c ∷ []) (cond y ((192 + c / 64) ∷ next c ∷ []) (cond z ((224 + c / 4096) ∷ next (c / 64) ∷ next c ∷ []) ((240 + c / 262144) ∷ next (c / 4096) ∷ next (c / 64) ∷ next c ∷ [])))) ≡ 1
by_length c true y z low = counts_one c [] (low_is_first c (low refl))
by_length c false true z low = two c
by_length c false false true low = three c
by_length c false false false low = four c

-- a character has one first byte
one_first : (c : ℕ) → count_by is_first (encode c) ≡ 1
unfolding encode
one_first c = by_length c (ltb c 128) (ltb c 2048) (ltb c 65536) (λ h. ltb→lt c 128 (rw h tt))

firsts : (cs : List ℕ) → count_by is_first (encodes cs) ≡ length cs
firsts [] = refl
firsts (c ∷ cs) = sum_by-append (λ y. cond (is_first y) 1 0) (encode c) (encodes cs) ∙ omega (arith, one_first c, firsts cs)

pub characters_are_firsts : (bs : List ℕ) → IsUtf8 bs → count_by is_first bs ≡ length (chars bs)
characters_are_firsts bs u = ap (count_by is_first) (sym u.1.1) ∙ firsts u.0 ∙ ap length (chars_from_encodes u.0 bs u u.1.1)
