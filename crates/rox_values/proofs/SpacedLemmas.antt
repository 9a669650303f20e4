-- A value without references and without CR.
use Rattle.std.proofs.Common.{◌≡◌, ◌≢◌, ℕ, zero, suc, ◌+◌, ◌-◌, ◌<◌, ◌≤◌, Bool, true, Option, IfSome, List, [], ◌∷◌, ◌++◌, Ok, length, map, take, get_or, slice_index, slice_range, inl, inr, refl, sym, ap, ◌∙◌, arith, IsUtf8, IsCharBoundary}
use Rattle.std.specs.Prelude.{String, string_bytes}
use Rattle.std.specs.declared.alloc.Global.{Global}
use Rattle.std.proofs.lemmas.Bool.{cases_Bool, cases_lt, le-ltb, lt-ltb}
use Rattle.std.proofs.lemmas.Bool.Decides.{nat_tests}
use Rattle.std.proofs.lemmas.List.{drop_more, get_or-take, length-take-le, map-append}
use Rattle.std.proofs.lemmas.Str.{IsCharBoundary-after_ascii}
use Rattle.rox_grammar.specs.Entities.{Entity}
use Rattle.rox_grammar.proofs.Stretches.{range_parts}
use Rattle.rox_reading.proofs.ByteReads.{special_ascii}
use Rattle.rox_reading.specs.Values.{ValueInclusion, bytes_of, is_special, value_bit_at, value_text}
use Rattle.rox_bytes.specs.ByteSets.{AllPass, EndsSet, is_run_byte, is_stretch_byte}
use Rattle.rox_values.specs.PlainBits.{spaced_byte}
use Rattle.rox_values.proofs.BitLemmas.{outer_stretch, space_is, stretch_is}

-- ---- bytes that are changed one after another

-- the first `i` bytes of `a` are changed, which gives `b`
pub record SpacedUpTo (a b : List ℕ) (i : ℕ) : Type 0 where
  pub long : length b ≡ length a
  pub done : (k : ℕ) → k < i → get_or b k 0 ≡ spaced_byte (get_or a k 0)
  pub rest : (k : ℕ) → i ≤ k → get_or b k 0 ≡ get_or a k 0

-- ---- what is read of it

run_no_reference : (b : ℕ) → is_run_byte b ≡ true → b ≢ 38
unfolding is_run_byte
run_no_reference b h = grind (arith, nat_tests)

run_no_return : (b : ℕ) → is_run_byte b ≡ true → b ≢ 13
unfolding is_run_byte
run_no_return b h = grind (arith, nat_tests)

white : (b : ℕ) → is_special b ≡ true → b ≢ 38 → b ≢ 13 → spaced_byte b ≡ 32
white b h no_reference no_return = grind (arith, nat_tests)

plain_stays : (b : ℕ) → is_stretch_byte b ≡ true → spaced_byte b ≡ b
unfolding is_stretch_byte
plain_stays b h = grind (arith, nat_tests)

stretch_stays : (src : List ℕ) (i j n : ℕ) → i + n ≡ j → j ≤ length src → AllPass is_stretch_byte src i j → map spaced_byte (slice_range src i j) ≡ slice_range src i j
stretch_stays src i j zero same within all = let none : j - i ≡ 0 = omega arith in rw none refl
stretch_stays src i j (suc n) same within all =
    let first : j - i ≡ suc (j - (i + 1)) = omega arith in
    rw (first, drop_more src i 0 (omega arith), plain_stays _ (all i (omega arith) (omega arith))) (ap (λ (xs : List ℕ). get_or src i 0 ∷ xs) (stretch_stays src (i + 1) j n (omega arith) within (λ k low high. all k (omega arith) high)))

-- a set ends somewhere
ends_set : (p : ℕ → Bool) (src : List ℕ) (n i : ℕ) → i + n ≡ length src → (j : ℕ) × EndsSet p src i j
ends_set p src zero i same = (i, record { onward = omega arith; within = omega arith; passes = λ k low high. absurd (omega arith); stops = λ more. absurd (omega (arith, more)) })
ends_set p src (suc n) i same = elim (cases_Bool (p (slice_index src i))) [
  | inl passes_here ↦
      let on = ((ends_set p src n (i + 1) (omega arith)).1).onward in grind arith
  | inr fails_here ↦ (i, record { onward = omega arith; within = omega arith; passes = λ k low high. absurd (omega (arith, low, high)); stops = λ more. fails_here })
]

none_left : (main : Bool) (es : List Entity) (opener : ValueInclusion) (openings_left : ℕ) (src : List ℕ) (stop n i : ℕ) → stop ≤ i → value_text main es opener n src stop i openings_left ≡ Ok (map spaced_byte (slice_range src i stop), openings_left)
unfolding value_text
none_left main es opener openings_left src stop zero i past = let none : stop - i ≡ 0 = omega arith in rw none refl
none_left main es opener openings_left src stop (suc n) i past = let none : stop - i ≡ 0 = omega arith in rw (le-ltb i stop past, none) refl

-- an item, and what is read behind it
item_read : (main : Bool) (es : List Entity) (opener : ValueInclusion) (openings_left : ℕ) (src bs rest : List ℕ) (stop n i j : ℕ) → i < stop → value_bit_at main es src stop i ≡ Ok (bytes_of bs, j)
    → value_text main es opener n src stop j openings_left ≡ Ok (rest, openings_left) → value_text main es opener (suc n) src stop i openings_left ≡ Ok (bs ++ rest, openings_left)
unfolding value_text
item_read main es opener openings_left src bs rest stop n i j more is behind = rw (lt-ltb i stop more, is, behind) refl

white_read : (src : List ℕ) (i stop : ℕ) → i < stop → stop ≤ length src → spaced_byte (slice_index src i) ≡ 32 → 32 ∷ map spaced_byte (slice_range src (i + 1) stop) ≡ map spaced_byte (slice_range src i stop)
white_read src i stop more within is =
    let first : stop - i ≡ suc (stop - (i + 1)) = omega arith in
    rw (first, drop_more src i 0 (omega arith), is) refl

pub spaced_read : (es : List Entity) (opener : ValueInclusion) (openings_left : ℕ) (src : List ℕ) (stop n i : ℕ) → IsUtf8 src → stop - i ≤ n → i ≤ stop → IsCharBoundary src i → IsCharBoundary src stop
    → AllPass is_run_byte src i stop → value_text true es opener n src stop i openings_left ≡ Ok (map spaced_byte (slice_range src i stop), openings_left)
spaced_read es opener openings_left src stop zero i utf8 few le from to all = none_left true es opener openings_left src stop zero i (omega arith)
spaced_read es opener openings_left src stop (suc n) i utf8 few le from to all = elim (cases_lt i stop) [
  | inr past ↦ none_left true es opener openings_left src stop (suc n) i past
  | inl more ↦
      let within = to.0 in
      let here = all i (omega arith) more in
      elim (cases_Bool (is_special (slice_index src i))) [
        | inl special ↦
            let no_reference = run_no_reference _ here in
            let no_return = run_no_return _ here in
            let mid : IsCharBoundary src (i + 1) = IsCharBoundary-after_ascii src i utf8 (omega arith) (special_ascii _ special) in
            let rest = spaced_read es opener openings_left src stop n (i + 1) utf8 (omega arith) (omega arith) mid to (λ k low high. all k (omega arith) high) in
            let read = item_read true es opener openings_left src (32 ∷ []) (map spaced_byte (slice_range src (i + 1) stop)) stop n i (i + 1) more (space_is true es src stop i special no_reference no_return) rest in
            read ∙ ap (λ (xs : List ℕ). Ok (xs, openings_left)) (white_read src i stop more within (white _ special no_reference no_return))
        | inr plain ↦
            let long = length-take-le stop src within in
            let r = ends_set is_stretch_byte (take stop src) (stop - i) i (omega (arith, long)) in
            let j = r.0 in
            let e = r.1 in
            let s = outer_stretch src stop i j (record { start = from; stop = to }) more plain e in
            let on = s.onward in
            let short = e.within in
            let rest = spaced_read es opener openings_left src stop n j utf8 (omega (arith, on)) (omega (arith, short, long)) s.cut to (λ k low high. all k (omega (arith, on, low)) high) in
            let read = item_read true es opener openings_left src (slice_range src i j) (map spaced_byte (slice_range src j stop)) stop n i j more (stretch_is true es src stop i plain ∙ s.value) rest in
            let stays = stretch_stays src i j (j - i) (omega (arith, on)) (omega (arith, short, long, within)) (λ k low high. sym (ap is_stretch_byte (get_or-take stop src k 0 (omega (arith, high, short, long)))) ∙ e.passes k low high) in
            let parts = range_parts src i j stop (omega (arith, on)) (omega (arith, short, long)) within in
            let whole : slice_range src i j ++ map spaced_byte (slice_range src j stop) ≡ map spaced_byte (slice_range src i stop) = ap (λ (xs : List ℕ). xs ++ map spaced_byte (slice_range src j stop)) (sym stays) ∙ sym (map-append spaced_byte (slice_range src i j) (slice_range src j stop)) ∙ sym (ap (map spaced_byte) parts) in
            read ∙ ap (λ (xs : List ℕ). Ok (xs, openings_left)) whole
      ]
]

-- the bytes in front of the first that changes a value are neither `&` nor CR
stretch_runs : (b : ℕ) → is_stretch_byte b ≡ true → is_run_byte b ≡ true
unfolding is_stretch_byte is_run_byte
stretch_runs b h = grind (arith, nat_tests)

pub whole_runs : (src : List ℕ) (i first stop : ℕ) → EndsSet is_stretch_byte src i first → AllPass is_run_byte src first stop → AllPass is_run_byte src i stop
whole_runs src i first stop e all = λ k low high. elim (cases_lt k first) [
  | inl before ↦ stretch_runs _ (e.passes k low before)
  | inr behind ↦ all k behind high
]

pub spaced_value : (o : Option (String Global)) (src text : List ℕ) (i stop : ℕ) → IsUtf8 src → i ≤ stop → IsCharBoundary src i → IsCharBoundary src stop → AllPass is_run_byte src i stop
    → text ≡ slice_range src i stop → IfSome o (λ s. string_bytes s ≡ map spaced_byte text)
    → IfSome o (λ s. (es : List Entity) (opener : ValueInclusion) (openings_left : ℕ) → value_text true es opener (stop - i) src stop i openings_left ≡ Ok (string_bytes s, openings_left))
spaced_value o src text i stop utf8 le from to all is same = grind (arith, spaced_read)
