-- Where a value ends that has a reference, or white space which is no space.
use Rattle.std.proofs.Common.{◌≡◌, ℕ, ◌+◌, ◌-◌, ◌<◌, ◌≤◌, ◌==◌, ◌||◌, Bool, true, false, not, List, Ok, length, get_or, slice_index, slice_range, drop, take, inl, inr, refl, sym, ap, ◌∙◌, arith, get_or-drop, length-drop, IsUtf8, IsCharBoundary, get_or-take, length-take-le}
use Rattle.std.specs.List.{list_any}
use Rattle.std.proofs.lemmas.Bool.{cases_lt}
use Rattle.std.proofs.lemmas.Bool.Decides.{nat_tests}
use Rattle.std.proofs.lemmas.List.Folds.{list_any_at}
use Rattle.rox_reading.specs.Values.{ValueInclusion, is_special, value_at, value_text}
use Rattle.rox_grammar.specs.Content.{is_verbatim_value}
use Rattle.rox_grammar.specs.Entities.{Entity}
use Rattle.rox_grammar.specs.Constructs.{AreChars}
use Rattle.rox_bytes.specs.ByteSets.{AllPass, EndsSet, is_stretch_byte, is_value_byte}
use Rattle.rox_scan.specs.Lookahead.{IsLookahead, ends_value, is_changed_value_byte, none_changes}
use Rattle.rox_scan.proofs.LongerLemmas.{near_looked, char_looked, looked_on, wide_open, changed_value_is_plain, changed_value_open, changed_value_leads}
use Rattle.rox_scan.proofs.NearReads.{stretch_plain}
use Rattle.rox_bytes.proofs.NearLemmas.{value_is_plain, value_cut, value_apart, none_among}
use Rattle.rox_verbatim.specs.PlainValues.{EndsVerbatim}

-- where the bytes end a character begins
spaced_cut : (src : List ℕ) (e : ℕ) → e ≤ length src → (e < length src → is_changed_value_byte (get_or src e 0) ≡ false) → IsCharBoundary src e
spaced_cut src e within stops = (within, λ more wide. changed_value_leads _ (stops more) wide)

-- a special byte among them changes them
changed_among : (src : List ℕ) (i k e : ℕ) → i ≤ k → k < e → e ≤ length src → is_special (get_or src k 0) ≡ true → list_any is_special (slice_range src i e) ≡ true
changed_among src i k e le more within here =
    let at : i + (k - i) ≡ k = omega arith in
    let read : get_or (slice_range src i e) (k - i) 0 ≡ get_or src k 0 = get_or-take (e - i) (drop i src) (k - i) 0 (omega arith) ∙ get_or-drop i src (k - i) 0 ∙ ap (λ (n : ℕ). get_or src n 0) at in
    let long = length-take-le (e - i) (drop i src) (omega (arith, length-drop i src)) in
    list_any_at is_special (slice_range src i e) (k - i) 0 (omega (arith, long)) (ap is_special read ∙ here)

-- bytes of the set from i on
pub spaced_near : (src : List ℕ) (quote i e : ℕ) → IsUtf8 src → (quote == 39 || quote == 34) ≡ true → IsCharBoundary src i → i ≤ e → e ≤ length src → AllPass is_changed_value_byte src i e
    → (e < length src → is_changed_value_byte (get_or src e 0) ≡ false) → IsLookahead (ends_value quote src) none_changes src i e true
spaced_near src quote i e utf8 q start le within all stops =
    near_looked is_changed_value_byte none_changes (ends_value quote src) src i e utf8 start le (spaced_cut src e within stops) all changed_value_is_plain (λ b h. refl) (λ n h. changed_value_open quote _ q h)

-- and a character behind them, and the bytes behind that
pub spaced_on : (src : List ℕ) (quote i j n e : ℕ) → IsUtf8 src → (quote == 39 || quote == 34) ≡ true → IsCharBoundary src i → IsLookahead (ends_value quote src) none_changes src i j true
    → j < n → IsCharBoundary src n → AreChars src j n → ((k : ℕ) → j < k → k < n → 128 ≤ get_or src k 0) → ends_value quote src j ≡ false
    → n ≤ e → e ≤ length src → AllPass is_changed_value_byte src n e → (e < length src → is_changed_value_byte (get_or src e 0) ≡ false) → IsLookahead (ends_value quote src) none_changes src i e true
spaced_on src quote i j n e utf8 q start f some cut chars wide here le within all stops =
    let ends = ends_value quote src in
    let one = char_looked none_changes ends src j n some cut chars wide (λ b h. refl) (λ k h. wide_open quote _ q h) here in
    let two = looked_on none_changes ends src i j n true true utf8 start f one in
    looked_on none_changes ends src i n e true true utf8 start two (spaced_near src quote n e utf8 q cut le within all stops)

-- bytes that stand for themselves, and behind them up to the quote others, one of which changes the value
pub spaced_looked : (src : List ℕ) (quote i j k e : ℕ) → IsUtf8 src → (quote == 39 || quote == 34) ≡ true → IsCharBoundary src i → i ≤ j → j ≤ length src → AllPass is_value_byte src i j
    → IsLookahead (ends_value quote src) none_changes src j e true → j ≤ k → k < e → is_special (get_or src k 0) ≡ true
    → IsLookahead (ends_value quote src) is_special src i e false
spaced_looked src quote i j k e utf8 q start le within front rest low high here =
    let ends = ends_value quote src in
    let first = near_looked is_value_byte none_changes ends src i j utf8 start le (value_cut src i j utf8 start le within front) front value_is_plain (λ b h. refl) (λ n h. value_apart quote _ q h) in
    let look = looked_on none_changes ends src i j e true true utf8 start first rest in
    grind (arith, changed_among)

pub value_goes_on : (b : ℕ) → is_value_byte b ≡ true → is_stretch_byte b ≡ true
unfolding is_stretch_byte is_value_byte
value_goes_on b h = grind (arith, nat_tests)

-- bytes that stand for themselves up to the quote
pub near_verbatim : (src : List ℕ) (quote i j : ℕ) → IsUtf8 src → (quote == 39 || quote == 34) ≡ true → IsCharBoundary src i → EndsSet is_value_byte src i j → (get_or src j 0 == quote) ≡ true → EndsVerbatim src i quote j
near_verbatim src quote i j utf8 q start e here = record {
  looked = near_looked is_value_byte is_special (ends_value quote src) src i j utf8 start e.onward (value_cut src i j utf8 start e.onward e.within e.passes) e.passes value_is_plain (λ b h. stretch_plain b (value_goes_on b h)) (λ n h. value_apart quote _ q h);
  here = here;
}

-- and where none of them changes it
pub plain_looked : (src : List ℕ) (quote i j k e : ℕ) → IsUtf8 src → (quote == 39 || quote == 34) ≡ true → IsCharBoundary src i → i ≤ j → j ≤ length src → AllPass is_value_byte src i j
    → IsLookahead (ends_value quote src) none_changes src j e true → AllPass is_stretch_byte src j k → e ≤ k → IsLookahead (ends_value quote src) is_special src i e true
plain_looked src quote i j k e utf8 q start le within front rest stretch high =
    let ends = ends_value quote src in
    let first = near_looked is_value_byte none_changes ends src i j utf8 start le (value_cut src i j utf8 start le within front) front value_is_plain (λ b h. refl) (λ n h. value_apart quote _ q h) in
    let look = looked_on none_changes ends src i j e true true utf8 start first rest in
    let all : AllPass is_stretch_byte src i e = λ m above below. elim (cases_lt m j) [
      | inl less ↦ value_goes_on _ (front m above less)
      | inr past ↦ stretch m past (omega arith)
    ] in
    record {
      onward = look.onward;
      cut = look.cut;
      chars = look.chars;
      apart = look.apart;
      verbatim_is = sym (ap not (none_among is_stretch_byte is_special src i e (e - i) (omega arith) look.cut.0 all stretch_plain));
    }

-- a byte that changes a value ends a stretch
pub special_stops : (b : ℕ) → is_special b ≡ true → is_stretch_byte b ≡ false
unfolding is_stretch_byte
special_stops b h = grind (arith, nat_tests)

-- the bytes that stand for themselves, looked for before the end of a value
pub record EndsBefore (src : List ℕ) (i j e : ℕ) : Type 0 where
  pub within : j ≤ e
  pub passes : AllPass is_stretch_byte src i j
  pub stops : j < e → is_stretch_byte (slice_index src j) ≡ false

pub ends_before : (src : List ℕ) (i j e : ℕ) → e ≤ length src → EndsSet is_stretch_byte (take e src) i j → EndsBefore src i j e
ends_before src i j e le f = grind (arith, length-take-le, get_or-take)

-- a value that is not as it stands
pub value_spaced : (main : Bool) (es : List Entity) (opener : ValueInclusion) (src v : List ℕ) (i j openings_left : ℕ) → is_verbatim_value (slice_range src i j) ≡ false
    → value_text main es opener (j - i) src j i openings_left ≡ Ok (v, openings_left)
    → value_at main es opener src i j openings_left ≡ Ok (record { value = v; borrowed = false }, openings_left)
unfolding value_at
value_spaced main es opener src v i j openings_left changed h = rw (changed, h) refl
