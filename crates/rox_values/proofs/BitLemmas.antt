-- The items of a value that need no entity.
use Rattle.std.proofs.Common.{◌≡◌, ◌≢◌, ℕ, ◌+◌, ◌-◌, ◌<◌, ◌≤◌, ◌==◌, ◌||◌, ◌&&◌, Bool, true, false, not, List, [], ◌∷◌, ◌++◌, length, take, drop, slice_index, slice_range, inl, inr, refl, sym, ap, ◌∙◌, arith, Ok, Err, encode_utf8, IsUtf8, IsCharBoundary}
use Rattle.std.proofs.lemmas.Bool.{cases_lt}
use Rattle.std.proofs.lemmas.Bool.Decides.{nat_tests}
use Rattle.std.proofs.lemmas.List.{get_or_past, get_or-take, length-take-le, append-nil}
use Rattle.std.proofs.lemmas.Str.{IsCharBoundary-after_ascii}
use Rattle.rox_grammar.specs.Search.{byte_from}
use Rattle.rox_grammar.specs.declared.fault.Fault.{Fault}
use Rattle.rox_grammar.specs.declared.fault.Fault.TheVariants.{InvalidAttributeValue}
use Rattle.rox_grammar.specs.Entities.{Entity}
use Rattle.rox_reading.proofs.ByteReads.{special_ascii}
use Rattle.rox_reading.specs.Lexical.{chars_up_to}
use Rattle.rox_reading.specs.Values.{ValueInclusion, character_of, is_special, bytes_of, reference_at, stretch_at, value_reference_at, value_bit_at, value_text}
use Rattle.rox_scan.proofs.NearReads.{stretch_plain, stretch_special}
use Rattle.rox_bytes.proofs.NearLemmas.{near_found}
use Rattle.rox_bytes.specs.ByteSets.{EndsSet, is_stretch_byte}
use Rattle.rox_values.specs.Values.{behind, ends_stretch, is_inner_byte}
use Rattle.rox_values.specs.PlainBits.{GivesCharacter, IsRest, IsStretch, PutsBit, PutsBits, PutsOne}
use Rattle.rox_values.proofs.InnerBytes.{inner_stops}
use Rattle.rox_values.proofs.PartLemmas.{value_done, value_more}

-- ---- one item, or none

pub put_some : {main : Bool} {src : List ℕ} {i stop : ℕ} {old new : List ℕ} {j : ℕ} → PutsBit main src i stop old new j → PutsOne main src i stop old new j
put_some b = let on = b.onward in record { put = λ some. b; refused = λ zero. absurd (omega (arith, zero, on)) }

-- what was appended
bit_put : (main : Bool) (es : List Entity) (src old new bs : List ℕ) (stop i j : ℕ) → value_bit_at main es src stop i ≡ Ok (bytes_of bs, j) → new ≡ old ++ bs
    → behind old (value_bit_at main es src stop i) ≡ Ok (bytes_of new, j)
bit_put main es src old new bs stop i j is put = rw (is, put) refl

-- ---- white space

no_reference_is : (b : ℕ) → b ≢ 38 → (b == 38) ≡ false
no_reference_is b h = grind (arith, nat_tests)

white_is : (b : ℕ) → is_special b ≡ true → b ≢ 38 → (b == 9 || (b == 10 || b == 13)) ≡ true
white_is b h other = grind (arith, nat_tests)

no_return : (b : ℕ) → b ≢ 13 → (b == 13) ≡ false
no_return b h = grind (arith, nat_tests)

feed_is : (main : Bool) (es : List Entity) (src : List ℕ) (stop i : ℕ) → slice_index src i ≡ 13 → (slice_index (take stop src) (i + 1) == 10) ≡ true
    → value_bit_at main es src stop i ≡ Ok (bytes_of [], i + 1)
unfolding value_bit_at
feed_is main es src stop i here feed = rw (here, feed) refl

return_is : (main : Bool) (es : List Entity) (src : List ℕ) (stop i : ℕ) → slice_index src i ≡ 13 → (slice_index (take stop src) (i + 1) == 10) ≡ false
    → value_bit_at main es src stop i ≡ Ok (bytes_of (32 ∷ []), i + 1)
unfolding value_bit_at
return_is main es src stop i here other = rw (here, other) refl

pub space_is : (main : Bool) (es : List Entity) (src : List ℕ) (stop i : ℕ) → is_special (slice_index src i) ≡ true → slice_index src i ≢ 38 → slice_index src i ≢ 13
    → value_bit_at main es src stop i ≡ Ok (bytes_of (32 ∷ []), i + 1)
unfolding value_bit_at
space_is main es src stop i special other no_cr = rw (no_reference_is _ other, white_is _ special other, no_return _ no_cr) refl

-- a CR right before a LF gives nothing
pub feed_put : (main : Bool) (src old : List ℕ) (stop i : ℕ) → IsUtf8 src → i < length src → slice_index src i ≡ 13 → (slice_index (take stop src) (i + 1) == 10) ≡ true → PutsOne main src i stop old old (i + 1)
feed_put main src old stop i utf8 within here feed = put_some (record {
  value = λ es. bit_put main es src old old [] stop i (i + 1) (feed_is main es src stop i here feed) (sym (append-nil old));
  onward = omega arith;
  cut = IsCharBoundary-after_ascii src i utf8 within (omega (arith, here));
})

-- and else a space
pub return_put : (main : Bool) (src old new : List ℕ) (stop i : ℕ) → IsUtf8 src → i < length src → slice_index src i ≡ 13 → (slice_index (take stop src) (i + 1) == 10) ≡ false → new ≡ old ++ 32 ∷ []
    → PutsOne main src i stop old new (i + 1)
return_put main src old new stop i utf8 within here other put = put_some (record {
  value = λ es. bit_put main es src old new (32 ∷ []) stop i (i + 1) (return_is main es src stop i here other) put;
  onward = omega arith;
  cut = IsCharBoundary-after_ascii src i utf8 within (omega (arith, here));
})

pub space_put : (main : Bool) (src old new : List ℕ) (stop i : ℕ) → IsUtf8 src → i < length src → is_special (slice_index src i) ≡ true → slice_index src i ≢ 38 → slice_index src i ≢ 13 → new ≡ old ++ 32 ∷ []
    → PutsOne main src i stop old new (i + 1)
space_put main src old new stop i utf8 within special other no_cr put = put_some (record {
  value = λ es. bit_put main es src old new (32 ∷ []) stop i (i + 1) (space_is main es src stop i special other no_cr) put;
  onward = omega arith;
  cut = IsCharBoundary-after_ascii src i utf8 within (special_ascii _ special);
})

-- ---- characters of references

reference_is : (main : Bool) (es : List Entity) (src : List ℕ) (stop i c given j : ℕ) → slice_index src i ≡ 38 → reference_at src i ≡ Ok (character_of c, j) → GivesCharacter main c given
    → value_bit_at main es src stop i ≡ Ok (bytes_of (encode_utf8 given), j)
unfolding value_bit_at value_reference_at
reference_is main es src stop i c given j amp read gives = rw (amp, read, gives i) refl

pub reference_put : (main : Bool) (src old new : List ℕ) (stop i c given j : ℕ) → slice_index src i ≡ 38 → reference_at src i ≡ Ok (character_of c, j) → GivesCharacter main c given → i < j → IsCharBoundary src j
    → new ≡ old ++ encode_utf8 given → PutsOne main src i stop old new j
reference_put main src old new stop i c given j amp read gives on cut put = put_some (record {
  value = λ es. bit_put main es src old new (encode_utf8 given) stop i j (reference_is main es src stop i c given j amp read gives) put;
  onward = on;
  cut = cut;
})

-- ---- stretches

-- the front of a text
pub from_start : (src : List ℕ) (stop : ℕ) → slice_range src 0 stop ≡ take stop src
from_start src stop = let e : stop - 0 ≡ stop = omega arith in ap (λ (n : ℕ). take n src) e

passes : ℕ → Bool
passes b = is_stretch_byte b && not (b == 60)

passes_on : (b : ℕ) → is_stretch_byte b ≡ true → (b == 60) ≡ false → passes b ≡ true
unfolding passes
passes_on b h other = rw (h, other) refl

passes_plain : (b : ℕ) → passes b ≡ true → (is_special b || b == 60) ≡ false
unfolding passes is_stretch_byte
passes_plain b h = grind (arith, nat_tests)

special_ends : (b : ℕ) → is_stretch_byte b ≡ false → (is_special b || b == 60) ≡ true
special_ends b h = rw (stretch_special b h) refl

no_reference : (b : ℕ) → is_special b ≡ false → (b == 38) ≡ false
no_reference b h = grind (arith, nat_tests)

no_white : (b : ℕ) → is_special b ≡ false → (b == 9 || (b == 10 || b == 13)) ≡ false
no_white b h = grind (arith, nat_tests)

-- a stretch of the front ends where a character begins
front_cut : (src : List ℕ) (stop j : ℕ) → IsCharBoundary src stop → j ≤ length (take stop src) → (j < length (take stop src) → slice_index (take stop src) j < 128) → IsCharBoundary src j
front_cut src stop j to within stops = grind (arith, length-take-le, get_or-take)

-- no `<` stands at the end of one
no_tag_at : (src : List ℕ) (stop i j : ℕ) → stop ≤ length src → i ≤ j → j ≤ stop → ((k : ℕ) → i ≤ k → k < stop → (slice_index src k == 60) ≡ false) → (slice_index (take stop src) j == 60) ≡ false
no_tag_at src stop i j within le le' apart = grind (arith, get_or-take, get_or_past, length-take-le)

-- it has a byte at least where the first is none that ends it
stretch_on : (src : List ℕ) (stop i j : ℕ) → stop ≤ length src → i < stop → is_special (slice_index src i) ≡ false → EndsSet is_stretch_byte (take stop src) i j → i < j
stretch_on src stop i j within before plain e = grind (arith, length-take-le, get_or-take, stretch_special)

main_stretch : (src : List ℕ) (stop i j : ℕ) → EndsSet is_stretch_byte (take stop src) i j → stretch_at true src stop i ≡ Ok (bytes_of (slice_range src i j), j)
main_stretch src stop i j e = grind (arith, near_found is_stretch_byte is_special (take stop src) i j e.onward e.within e.passes stretch_plain (λ more. stretch_special _ (e.stops more)))

-- a stretch of the whole text, cut off at the end of the front
pub cut_short : (src : List ℕ) (stop i e j : ℕ) → stop ≤ length src → j ≤ e → j ≤ stop → i ≤ j → (j < stop → j ≡ e) → EndsSet is_stretch_byte src i e → EndsSet is_stretch_byte (take stop src) i j
cut_short src stop i e j within le le' on short s = grind (arith, length-take-le, get_or-take)

-- a stretch in the main text
pub outer_stretch : (src : List ℕ) (stop i j : ℕ) → IsRest src i stop → i < stop → is_special (slice_index src i) ≡ false → EndsSet is_stretch_byte (take stop src) i j → IsStretch true src i stop j
outer_stretch src stop i j rest before plain e = record {
  value = main_stretch src stop i j e;
  onward = stretch_on src stop i j rest.stop.0 before plain e;
  cut = front_cut src stop j rest.stop e.within (λ more. special_ascii _ (stretch_special _ (e.stops more)));
}

inner_ascii : (b : ℕ) → is_inner_byte b ≡ false → b < 128
unfolding is_inner_byte
inner_ascii b h = grind (arith, nat_tests)

pub inner_cut : (src : List ℕ) (stop i j : ℕ) → IsCharBoundary src stop → EndsSet is_inner_byte (take stop src) i j → IsCharBoundary src j
inner_cut src stop i j to e = front_cut src stop j to e.within (λ more. inner_ascii _ (e.stops more))

inner_place : (src : List ℕ) (stop i j : ℕ) → EndsSet is_inner_byte (take stop src) i j → byte_from ends_stretch (take stop src) i ≡ j
inner_place src stop i j e = inner_stops (take stop src) i j e.onward e.within e.passes e.stops

-- a character that is no Char
pub inner_fails : (src : List ℕ) (stop i j : ℕ) (f : Fault) → EndsSet is_inner_byte (take stop src) i j → chars_up_to j src i ≡ Err f → stretch_at false src stop i ≡ Err f
inner_fails src stop i j f e read = rw (inner_place src stop i j e, read) refl

-- a `<`
pub inner_tag : (src : List ℕ) (stop i j : ℕ) (x : List ℕ × ℕ) → EndsSet is_inner_byte (take stop src) i j → chars_up_to j src i ≡ Ok x → (slice_index (take stop src) j == 60) ≡ true → stretch_at false src stop i ≡ Err (InvalidAttributeValue j)
inner_tag src stop i j x e read tag = rw (inner_place src stop i j e, read, tag) refl

pub inner_reads : (src : List ℕ) (stop i j n : ℕ) (v : List ℕ) → EndsSet is_inner_byte (take stop src) i j → chars_up_to j src i ≡ Ok (v, n) → v ≡ slice_range src i j → (slice_index (take stop src) j == 60) ≡ false
    → stretch_at false src stop i ≡ Ok (bytes_of (slice_range src i j), j)
inner_reads src stop i j n v e read is tag = rw (inner_place src stop i j e, read, tag, is) refl

inner_ends : (b : ℕ) → is_inner_byte b ≡ false → (b == 60) ≡ false → is_special b ≡ true
unfolding is_inner_byte
inner_ends b h tag = grind (arith, nat_tests)

pub inner_on : (src : List ℕ) (stop i j : ℕ) → stop ≤ length src → i < stop → is_special (slice_index src i) ≡ false → EndsSet is_inner_byte (take stop src) i j → (slice_index (take stop src) j == 60) ≡ false → i < j
inner_on src stop i j within before plain e tag = elim (cases_lt i j) [
  | inl more ↦ more
  | inr past ↦
      let at : j ≡ i = omega arith in
      let special : is_special (slice_index (take stop src) j) ≡ true = inner_ends _ (e.stops (omega (arith, (length-take-le stop src within)))) tag in
      let other : is_special (slice_index (take stop src) j) ≡ false = rw (at, (get_or-take stop src i 0 before)) plain in
      cc (special, other)
]

pub stretch_is : (main : Bool) (es : List Entity) (src : List ℕ) (stop i : ℕ) → is_special (slice_index src i) ≡ false → value_bit_at main es src stop i ≡ stretch_at main src stop i
unfolding value_bit_at
stretch_is main es src stop i plain = rw (no_reference (slice_index src i) plain, no_white (slice_index src i) plain) refl

pub stretch_put : (main : Bool) (src old new : List ℕ) (stop i j : ℕ) → is_special (slice_index src i) ≡ false → IsStretch main src i stop j → new ≡ old ++ slice_range src i j → PutsOne main src i stop old new j
stretch_put main src old new stop i j plain s put = put_some (record {
  value = λ es. bit_put main es src old new (slice_range src i j) stop i j (stretch_is main es src stop i plain ∙ s.value) put;
  onward = s.onward;
  cut = s.cut;
})

-- ---- several items

pub none_put : (main : Bool) (src old : List ℕ) (stop i : ℕ) → IsCharBoundary src i → PutsBits main src i stop old old i
none_put main src old stop i cut = record { reads = λ bits enough. (bits, (enough, λ es opener openings_left. refl)); onward = omega arith; cut = cut }

pub one_more : (main : Bool) (src old mid new : List ℕ) (stop i j n : ℕ) → j < stop → PutsBits main src i stop old mid j → PutsBit main src j stop mid new n → PutsBits main src i stop old new n
one_more main src old mid new stop i j n before p b =
    let low = p.onward in
    record {
      reads = λ bits enough.
          let r = p.reads bits enough in
          let left = r.0 in
          let room = r.1.0 in
          let one : (left - 1) + 1 ≡ left = omega arith in (
            left - 1,
            (omega arith, λ es opener openings_left. value_more main es opener openings_left mid new left (left - 1) src stop j n one before (b.value es) ∙ r.1.1 es opener openings_left),
          );
      onward = omega arith;
      cut = b.cut;
    }

-- ---- a value of which all items need no entity

pub special_cut : (src : List ℕ) (j : ℕ) → j < length src → is_stretch_byte (slice_index src j) ≡ false → IsCharBoundary src j
special_cut src j within stops =
    let ascii : slice_index src j < 128 = special_ascii (slice_index src j) (stretch_special _ stops) in
    (omega arith, λ inside wide. absurd (omega arith))

-- a first stretch, or nothing where the value begins with a byte that changes it, and what is behind it
pub front_put : (src front : List ℕ) (stop i j : ℕ) → IsRest src i stop → j < stop → EndsSet is_stretch_byte src i j → front ≡ slice_range src i j → PutsBits true src i stop [] front j
front_put src front stop i j rest less e is = elim (cases_lt i j) [
  | inl more ↦
      let short = cut_short src stop i j j rest.stop.0 (omega arith) (omega arith) e.onward (λ h. refl) e in
      let plain : is_special (slice_index src i) ≡ false = stretch_plain _ (e.passes i (omega arith) more) in
      let s = outer_stretch src stop i j rest (omega arith) plain short in
      let b = stretch_put true src [] front stop i j plain s is in
      one_more true src [] [] front stop i i j (omega arith) (none_put true src [] stop i rest.start) (b.put (omega arith))
  | inr past ↦
      let at : j ≡ i = omega arith in
      let none : j - i ≡ 0 = omega arith in
      rw ((is ∙ ap (λ (m : ℕ). take m (drop i src)) none), at) (none_put true src [] stop i rest.start)
]

pub whole_value : (es : List Entity) (opener : ValueInclusion) (openings_left : ℕ) (src front new : List ℕ) (stop i j n : ℕ) → PutsBits true src i stop [] front j → PutsBits true src j stop front new n → stop ≤ n
    → value_text true es opener (stop - i) src stop i openings_left ≡ Ok (new, openings_left)
whole_value es opener openings_left src front new stop i j n f p past =
    let r = f.reads (stop - i) (omega arith) in
    let q = p.reads r.0 r.1.0 in
    grind (arith, value_done)
