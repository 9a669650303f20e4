-- Blocks of bytes, seen through a mask that has a bit for each byte that is not in a set.
use Rattle.std.proofs.Common.{◌≡◌, ℕ, zero, suc, ◌+◌, ◌-◌, ◌*◌, ◌/◌, ◌%◌, ◌^◌, ◌<◌, ◌≤◌, Bool, true, false, not, cond, eqb, ltb, leb, List, [], ◌∷◌, map, length, get_or, replicate, refl, sym, ap, ap₂, ◌∙◌, arith, inl, inr, w8, Fits, shr-shr, drop, lt-ltb, ◌||◌, subst}
use Rattle.std.specs.List.{prefix_len}
use Rattle.std.specs.Simd.Lanes.{mask_l, top, zip2, chunk, Each1}
use Rattle.std.proofs.lemmas.Simd.{Each1-weaker, Each1-zip2, Each2-splat, below_from_Fits, length-zip2, swz_l, SwzOk, SwzOk-from_below, SwzOk-from_Each1, length-swz_l, get_or-swz_l, zip2_splat, zip2_of_maps, map-map, mask_l-mod, length-chunk, leading_from_mask_l, trailing_mask_l, run_in_chunk_fails, run_in_chunk_stops}
use Rattle.std.proofs.lemmas.List.{get_or-map, ext_get_or, length-map, drop-map, drop-take, drop-drop}
use Rattle.std.proofs.lemmas.Bool.{cases_lt, eqb-true, le-ltb, lt-leb, not-false, not-true}
use Rattle.rox_bytes.specs.ByteSets.{AllPass, EndsSet}
use Rattle.rox_bytes.specs.Windows.{IsSeen}
use Rattle.rox_bytes.proofs.TableLemmas.{agree_below, agree_at}
use Rattle.rox_bytes.specs.Nibbles.{at_low, at_high}
use lib.Count.{count_trailing_zeros}
use lib.Dec.{T}
use lib.Bits.{bit_and, bit_or}

-- the lanes of a comparison
abbrev pub equals : ℕ → ℕ → ℕ
equals a b = cond (eqb a b) 255 0

abbrev pub below : ℕ → ℕ → ℕ
below a b = cond (ltb a b) 255 0

-- and of a difference
abbrev pub less : ℕ → ℕ → ℕ
less a b = (a + (256 - b)) % 256

each_byte : (f : ℕ → ℕ) (q : ℕ → Bool) → agree_below (λ x. top 7 (f x)) q 256 ≡ true → (v : List ℕ) → Each1 (Fits w8) v → map (top 7) (map f v) ≡ map q v
each_byte f q all [] fits = refl
each_byte f q all (x ∷ xs) fits =
    ap₂ (λ a b. a ∷ b) (agree_at (λ y. top 7 (f y)) q 256 all x fits.0.fits) (each_byte f q all xs fits.1)

-- a mask that is computed lane by lane, where the test agrees at each of the 256 bytes
pub masked : (f : ℕ → ℕ) (q : ℕ → Bool) (v z : List ℕ) → length v ≤ 64 → Each1 (Fits w8) v → z ≡ map f v → agree_below (λ x. top 7 (f x)) q 256 ≡ true → mask_l (map (top 7) z) % 2 ^ 64 ≡ mask_l (map q v)
masked f q v z short fits e all =
    ap (λ l. mask_l l % 2 ^ 64) (ap (map (top 7)) e ∙ each_byte f q all v fits) ∙ mask_l-mod (map q v) 64 (omega (arith, length-map v q))

pub either : (f g : ℕ → ℕ) (v : List ℕ) {a b : List ℕ} → a ≡ map f v → b ≡ map g v → zip2 bit_or a b ≡ map (λ x. bit_or (f x) (g x)) v
either f g v p q = zip2_of_maps bit_or f g v p q

-- a comparison of computed lanes with one number, which stands on the right
pub against : (h : ℕ → ℕ → ℕ) (f : ℕ → ℕ) (y n : ℕ) (v : List ℕ) {a : List ℕ} → length v ≡ n → a ≡ map f v → zip2 h a (replicate n y) ≡ map (λ x. h (f x) y) v
against h f y n v long p = grind (arith, zip2_splat, length-map, map-map)

splat_left : (h : ℕ → ℕ → ℕ) (y : ℕ) (xs : List ℕ) → zip2 h (replicate (length xs) y) xs ≡ map (h y) xs
splat_left h y [] = refl
splat_left h y (x ∷ xs) = ap (λ r. h y x ∷ r) (splat_left h y xs)

-- or on the left
pub from : (h : ℕ → ℕ → ℕ) (f : ℕ → ℕ) (y n : ℕ) (v : List ℕ) {a : List ℕ} → length v ≡ n → a ≡ map f v → zip2 h (replicate n y) a ≡ map (λ x. h y (f x)) v
from h f y n v long p = grind (arith, length-map, splat_left, map-map)

-- where no bit is set, all of the block passes
pub counted_none : (q : ℕ → Bool) (src : List ℕ) (i n : ℕ) → i + n ≤ length src → mask_l (map q (chunk i n src)) ≡ 0 → n ≡ prefix_len (λ b. not (q b)) (chunk i n src)
counted_none q src i n room none = sym (leading_from_mask_l q (chunk i n src) none ∙ length-chunk i n src room)

-- where one is set, what stands before the lowest
counted_some : (q : ℕ → Bool) (src : List ℕ) (i n : ℕ) → i + n ≤ length src → n ≤ 64 → 0 < mask_l (map q (chunk i n src))
    → count_trailing_zeros 64 (mask_l (map q (chunk i n src))) ≡ prefix_len (λ b. not (q b)) (chunk i n src)
counted_some q src i n room few some = trailing_mask_l q 64 (chunk i n src) (omega (arith, length-chunk i n src room)) some

first : (b : Bool) (n m l : ℕ) → 0 < cond b 1 0 + 2 * n → (0 < n → m < l) → cond (not b) (1 + m) 0 < suc l
first b n m l some f = grind arith

-- which are fewer than the block has
some_left : (q : ℕ → Bool) (xs : List ℕ) → 0 < mask_l (map q xs) → prefix_len (λ b. not (q b)) xs < length xs
some_left q [] some = absurd (omega arith)
some_left q (x ∷ xs) some = first (q x) (mask_l (map q xs)) (prefix_len (λ b. not (q b)) xs) (length xs) some (some_left q xs)

pub block_passes : (p : ℕ → Bool) (src : List ℕ) (i n r : ℕ) → i + n ≤ length src → r ≡ prefix_len (λ b. not (not (p b))) (chunk i n src) → AllPass p src i (i + r)
block_passes p src i n r room counted k low high = not-false _ (run_in_chunk_fails (λ b. not (p b)) src i n r 0 room counted k low high)

-- what passes goes on behind a place
pub passes_on : (p : ℕ → Bool) (src : List ℕ) (i e j : ℕ) → AllPass p src i e → AllPass p src e j → AllPass p src i j
passes_on p src i e j before behind k low high = elim (cases_lt k e) [ inl less ↦ before k low less | inr more ↦ behind k more high ]

-- where they end behind those that pass
pub ends_on : (p : ℕ → Bool) (src : List ℕ) (i e j : ℕ) → i ≤ e → AllPass p src i e → EndsSet p src e j → EndsSet p src i j
ends_on p src i e j le before behind = grind arith

block_stops : (p : ℕ → Bool) (src : List ℕ) (i n r : ℕ) → i + n ≤ length src → r ≡ prefix_len (λ b. not (not (p b))) (chunk i n src) → r < n → p (get_or src (i + r) 0) ≡ false
block_stops p src i n r room counted short = not-true _ (run_in_chunk_stops (λ b. not (p b)) src i n r 0 room counted short)

-- where no bit is set all sixteen pass
pub none_seen : (p : ℕ → Bool) (src : List ℕ) (i others : ℕ) → IsSeen p src i others → others ≡ 0 → AllPass p src i (i + 16)
none_seen p src i others seen none =
    let within = seen.within in
    block_passes p src i 16 16 within (counted_none (λ b. not (p b)) src i 16 within (sym seen.mask ∙ none))

-- and the first that has a bit ends the set
pub first_seen : (p : ℕ → Bool) (src : List ℕ) (i others : ℕ) → IsSeen p src i others → 0 < others → EndsSet p src i (i + count_trailing_zeros 64 others)
first_seen p src i others seen some =
    let q = λ (b : ℕ). not (p b) in
    let within = seen.within in
    let mask = seen.mask in
    let left : 0 < mask_l (map q (chunk i 16 src)) = omega (arith, mask, some) in
    let count = ap (count_trailing_zeros 64) mask ∙ (counted_some q src i 16 within (omega arith) left) in
    let short : count_trailing_zeros 64 others < 16 = omega (arith, count, some_left q (chunk i 16 src) left, length-chunk i 16 src within) in
    record {
      onward = omega arith;
      within = omega arith;
      passes = block_passes p src i 16 _ within count;
      stops = λ more. block_stops p src i 16 _ within count short;
    }

-- and it is there
pub first_there : (p : ℕ → Bool) (src : List ℕ) (i others : ℕ) → IsSeen p src i others → 0 < others → i + count_trailing_zeros 64 others < length src
first_there p src i others seen some =
    let q = λ (b : ℕ). not (p b) in
    let within = seen.within in
    let mask = seen.mask in
    let left : 0 < mask_l (map q (chunk i 16 src)) = omega (arith, mask, some) in
    let count = ap (count_trailing_zeros 64) mask ∙ counted_some q src i 16 within (omega arith) left in
    omega (arith, count, some_left q (chunk i 16 src) left, length-chunk i 16 src within)

-- the lanes as they are
pub map_same : (v : List ℕ) → v ≡ map (λ x. x) v
map_same [] = refl
map_same (x ∷ xs) = ap (λ r. x ∷ r) (map_same xs)

-- ---- look-ups at halves

abbrev pub down : ℕ → ℕ → ℕ
down a b = a / 2 ^ b

abbrev pub IsBlock : List ℕ → Type 0
IsBlock v = (length v ≡ 16) × Each1 (Fits w8) v

lane_fits : (v : List ℕ) (i : ℕ) → Each1 (Fits w8) v → get_or v i 0 < 256
lane_fits [] i h = omega arith
lane_fits (x ∷ xs) zero h = h.0.fits
lane_fits (x ∷ xs) (suc i) h = lane_fits xs i h.1

pub high_ok : (v : List ℕ) → IsBlock v → SwzOk w8 16 16 0 (zip2 down v (replicate 16 4))
high_ok v fits =
    let small = Each1-weaker (λ a. a < 256) (λ a. a / 16 < 16) (λ a h. omega arith) v (below_from_Fits w8 v fits.1) in
    SwzOk-from_below w8 16 1 16 0 (zip2 down v (replicate 16 4)) refl (omega (arith, length-zip2 down v (replicate 16 4) fits.0))
    (Each1-zip2 down (λ j. j < 16) v (replicate 16 4) (Each2-splat (λ a b. down a b < 16) v 16 4 small))

-- an index below 16, or one that gives 0
abbrev is_index : ℕ → Bool
is_index j = leb 128 j || ltb j 16

index_ok : (a : ℕ) → a < 256 → T (is_index (bit_and a 143))
unfolding agree_below
index_ok a h = subst T (sym (agree_at (λ x. is_index (bit_and x 143)) (λ x. true) 256 refl a h)) tt

pub low_ok : (v : List ℕ) → IsBlock v → SwzOk w8 16 16 0 (zip2 bit_and v (replicate 16 143))
low_ok v fits =
    let good = Each1-weaker (λ a. a < 256) (λ a. T (is_index (bit_and a 143))) index_ok v (below_from_Fits w8 v fits.1) in
    SwzOk-from_Each1 w8 16 1 16 0 (zip2 bit_and v (replicate 16 143)) refl (omega (arith, length-zip2 bit_and v (replicate 16 143) fits.0))
    (Each1-zip2 bit_and (λ j. T (is_index j)) v (replicate 16 143) (Each2-splat (λ a b. T (is_index (bit_and a b))) v 16 143 good))

-- a table that is read at places g x, where one from 128 on gives 0
pub looked_up : (t : List ℕ) (g f : ℕ → ℕ) (v js : List ℕ) → IsBlock v → js ≡ map g v → ((x : ℕ) → x < 256 → cond (leb 128 (g x)) 0 (get_or t (g x) 0) ≡ f x) → swz_l w8 16 t 0 js ≡ map f v
looked_up t g f v js fits e gives =
    let long : length js ≡ 16 = ap length e ∙ length-map v g ∙ fits.0 in
    ext_get_or 0 _ _ (length-swz_l w8 16 t 0 js ∙ long ∙ sym (length-map v f ∙ fits.0)) (λ i h.
    let lt : i < 16 = omega (arith, length-swz_l w8 16 t 0 js) in
    let within : i < length v = omega (arith, fits.0) in
    get_or-swz_l w8 16 t 0 js i (omega arith)
    ∙ ap (λ k. cond (leb 128 (get_or js i 0)) 0 (get_or t k 0)) (omega arith) ∙ ap (λ k. cond (leb 128 k) 0 (get_or t k 0)) (ap (λ l. get_or l i 0) e ∙ get_or-map g v i 0 0 within)
    ∙ gives (get_or v i 0) (lane_fits v i fits.1) ∙ sym (get_or-map f v i 0 0 within))

-- the places of ASCII bytes are their low halves
pub low_gives : (t : List ℕ) (x : ℕ) → x < 256 → cond (leb 128 (bit_and x 143)) 0 (get_or t (bit_and x 143) 0) ≡ at_low t x
unfolding agree_below
low_gives t x h =
    let past = agree_at (λ y. leb 128 (bit_and y 143)) (λ y. not (ltb y 128)) 256 refl x h in
    elim (cases_lt x 128) [
      | inl ascii ↦ let low = eqb-true _ _ (agree_at (λ y. eqb (bit_and y 143) (bit_and y 15)) (λ y. true) 128 refl x ascii) in rw (past, lt-ltb x 128 ascii, low) refl
      | inr wide ↦ rw (past, le-ltb x 128 wide) refl
    ]

pub high_gives : (t : List ℕ) (x : ℕ) → x < 256 → cond (leb 128 (x / 16)) 0 (get_or t (x / 16) 0) ≡ at_high t x
high_gives t x h = rw (lt-leb 128 (x / 16) (omega arith)) refl

abbrev pub differs : ℕ → ℕ → ℕ
differs a b = cond (not (eqb a b)) 255 0

halved : (b : Bool) (m : ℕ) → (cond b 1 0 + 2 * m) / 2 ^ 1 ≡ m
halved b m = grind arith

-- a mask moved down is that of what is left behind so many
mask_down : (ms : List Bool) (k : ℕ) → mask_l ms / 2 ^ k ≡ mask_l (drop k ms)
mask_down ms zero = omega arith
mask_down [] (suc k) = omega arith
mask_down (b ∷ bs) (suc k) =
    ap (λ n. mask_l (b ∷ bs) / 2 ^ n) (omega arith) ∙ sym (shr-shr (mask_l (b ∷ bs)) 1 k) ∙ ap (λ m. m / 2 ^ k) (halved b (mask_l bs)) ∙ mask_down bs k

-- so that of a block tells what stands from a place inside on
pub mask_from : (q : ℕ → Bool) (src : List ℕ) (i n k : ℕ) → k ≤ n → mask_l (map q (chunk i n src)) / 2 ^ k ≡ mask_l (map q (chunk (i + k) (n - k) src))
mask_from q src i n k le =
    let split : n ≡ k + (n - k) = omega arith in
    grind (arith, mask_down, drop-map, drop-take, drop-drop)
