-- The items of character data that need no entity.
use Rattle.std.proofs.Common.{◌≡◌, ◌≢◌, ℕ, ◌+◌, ◌-◌, ◌<◌, ◌≤◌, ◌==◌, true, false, List, [], ◌∷◌, ◌++◌, length, take, slice_index, slice_range, inl, inr, refl, sym, ap, subst, ◌∙◌, arith, Ok, encode_utf8, IsUtf8, IsCharBoundary}
use Rattle.std.proofs.lemmas.Bool.{cases_lt}
use Rattle.std.proofs.lemmas.Bool.Decides.{nat_tests}
use Rattle.std.proofs.lemmas.List.{drop_more, get_or_past, get_or-take, length-take-le}
use Rattle.std.proofs.lemmas.Str.{IsCharBoundary-after_ascii}
use Rattle.rox_grammar.specs.Entities.{Entity}
use Rattle.rox_reading.specs.Values.{character_of, bytes_of, reference_at, data_bit_at, expansion_at}
use Rattle.rox_bytes.specs.ByteSets.{EndsSet, is_run_byte}
use Rattle.rox_bytes.proofs.NearLemmas.{part_ends}
use Rattle.rox_values.specs.Values.{EndsData, PutsData, PutsDatum, PutsOneDatum, behind, is_data_byte}
use Rattle.rox_values.proofs.PartLemmas.{run_more}

-- ---- one item

put_one : {src : List ℕ} {i stop : ℕ} {old new : List ℕ} {j : ℕ} → PutsOneDatum src i stop old new j → PutsDatum src i stop old new j
put_one b = let on = b.onward in record { put = λ some. b; refused = λ zero. absurd (omega (arith, zero, on)) }

datum_put : (es : List Entity) (src old new bs : List ℕ) (stop i j : ℕ) → data_bit_at true es src stop i ≡ Ok (bytes_of bs, j) → new ≡ old ++ bs → behind old (data_bit_at true es src stop i) ≡ Ok (bytes_of new, j)
datum_put es src old new bs stop i j is put = rw (is, put) refl

-- a reference to a character
reference_is : (es : List Entity) (src : List ℕ) (stop i c j : ℕ) → slice_index src i ≡ 38 → reference_at src i ≡ Ok (character_of c, j) → data_bit_at true es src stop i ≡ Ok (bytes_of (encode_utf8 c), j)
unfolding data_bit_at expansion_at
reference_is es src stop i c j amp read = rw (amp, read) refl

pub reference_put : (src old new : List ℕ) (stop i c j : ℕ) → slice_index src i ≡ 38 → reference_at src i ≡ Ok (character_of c, j) → i < j → IsCharBoundary src j → new ≡ old ++ encode_utf8 c → PutsDatum src i stop old new j
reference_put src old new stop i c j amp read on cut put = put_one (record {
  value = λ es. datum_put es src old new (encode_utf8 c) stop i j (reference_is es src stop i c j amp read) put;
  onward = on;
  cut = cut;
})

-- a line end
ten : (b : ℕ) → (b == 10) ≡ true → b ≡ 10
ten b h = grind (arith, nat_tests)

feed_is : (es : List Entity) (src : List ℕ) (stop i : ℕ) → slice_index src i ≡ 13 → (slice_index (take stop src) (i + 1) == 10) ≡ true → data_bit_at true es src stop i ≡ Ok (bytes_of (10 ∷ []), i + 2)
unfolding data_bit_at
feed_is es src stop i here feed = rw (here, feed) refl

return_is : (es : List Entity) (src : List ℕ) (stop i : ℕ) → slice_index src i ≡ 13 → (slice_index (take stop src) (i + 1) == 10) ≡ false → data_bit_at true es src stop i ≡ Ok (bytes_of (10 ∷ []), i + 1)
unfolding data_bit_at
return_is es src stop i here other = rw (here, other) refl

feed_cut : (src : List ℕ) (stop i : ℕ) → IsUtf8 src → stop ≤ length src → (slice_index (take stop src) (i + 1) == 10) ≡ true → IsCharBoundary src (i + 2)
feed_cut src stop i utf8 within feed =
    elim (cases_lt (i + 1) stop) [
      | inl more ↦
          subst (IsCharBoundary src) (omega arith) (IsCharBoundary-after_ascii src (i + 1) utf8 (omega arith) (omega (arith, (get_or-take stop src (i + 1) 0 more), (ten _ feed))))
      | inr past ↦ grind (arith, get_or_past, length-take-le)
    ]

pub feed_put : (src old new : List ℕ) (stop i : ℕ) → IsUtf8 src → stop ≤ length src → slice_index src i ≡ 13 → (slice_index (take stop src) (i + 1) == 10) ≡ true → new ≡ old ++ 10 ∷ [] → PutsDatum src i stop old new (i + 2)
feed_put src old new stop i utf8 within here feed put = put_one (record {
  value = λ es. datum_put es src old new (10 ∷ []) stop i (i + 2) (feed_is es src stop i here feed) put;
  onward = omega arith;
  cut = feed_cut src stop i utf8 within feed;
})

pub return_put : (src old new : List ℕ) (stop i : ℕ) → IsUtf8 src → i < length src → slice_index src i ≡ 13 → (slice_index (take stop src) (i + 1) == 10) ≡ false → new ≡ old ++ 10 ∷ [] → PutsDatum src i stop old new (i + 1)
return_put src old new stop i utf8 within here other put = put_one (record {
  value = λ es. datum_put es src old new (10 ∷ []) stop i (i + 1) (return_is es src stop i here other) put;
  onward = omega arith;
  cut = IsCharBoundary-after_ascii src i utf8 within (omega (arith, here));
})

-- ---- bytes that stay

data_is_run : (b : ℕ) → is_data_byte b ≡ true → is_run_byte b ≡ true
unfolding is_data_byte is_run_byte
data_is_run b h = grind (arith, nat_tests)

pub run_ends : (b : ℕ) → is_data_byte b ≡ false → b ≢ 60 → is_run_byte b ≡ false
unfolding is_data_byte is_run_byte
run_ends b h other = grind (arith, nat_tests)

run_ascii : (b : ℕ) → is_run_byte b ≡ false → b < 128
unfolding is_run_byte
run_ascii b h = grind (arith, nat_tests)

run_stays : (b : ℕ) → b ≢ 38 → b ≢ 13 → is_run_byte b ≡ true
unfolding is_run_byte
run_stays b amp cr = grind (arith, nat_tests)

no_amp : (b : ℕ) → b ≢ 38 → (b == 38) ≡ false
no_amp b h = grind (arith, nat_tests)

no_cr : (b : ℕ) → b ≢ 13 → (b == 13) ≡ false
no_cr b h = grind (arith, nat_tests)

-- the bytes that do not end the data, cut off at the end of the front
pub front_ends : (src : List ℕ) (stop i e j : ℕ) → stop ≤ length src → i ≤ j → j ≤ e → j ≤ stop → EndsSet is_data_byte src i e → (j < stop → is_run_byte (slice_index src j) ≡ false) → EndsSet is_run_byte (take stop src) i j
front_ends src stop i e j within on le le' s end =
    let long = length-take-le stop src within in
    record {
      onward = on;
      within = omega (arith, long);
      passes = λ k low high. ap is_run_byte (get_or-take stop src k 0 (omega arith)) ∙ data_is_run _ (s.passes k low (omega arith));
      stops = λ more. let less : j < stop = omega (arith, long, more) in ap is_run_byte (get_or-take stop src j 0 less) ∙ end less;
    }

pub ends_data : (src : List ℕ) (stop i j : ℕ) → IsCharBoundary src stop → i < stop → slice_index src i ≢ 38 → slice_index src i ≢ 13 → EndsSet is_run_byte (take stop src) i j → EndsData src i stop j
ends_data src stop i j to before amp cr e =
    let long = length-take-le stop src to.0 in
    let inside = e.within in
    record {
      set = e;
      onward = elim (cases_lt i j) [
        | inl more ↦ more
        | inr past ↦
            let at : j ≡ i = omega arith in
            let here : slice_index (take stop src) i ≡ slice_index src i = get_or-take stop src i 0 before in
            let stays : is_run_byte (slice_index (take stop src) j) ≡ true = rw (at, here) (run_stays (slice_index src i) amp cr) in
            cc ((e.stops (omega (arith, long))), stays)
      ];
      cut = elim (cases_lt j stop) [
        | inl more ↦
            let here : slice_index (take stop src) j ≡ slice_index src j = get_or-take stop src j 0 more in
            let ascii = run_ascii _ (e.stops (omega (arith, long))) in
            let le = to.0 in
            (omega arith, λ inner wide. absurd (omega arith))
        | inr past ↦ let e : stop ≡ j = omega (arith, long) in subst (IsCharBoundary src) e to
      ];
    }

stretch_is : (es : List Entity) (src : List ℕ) (stop i j : ℕ) → slice_index src i ≢ 38 → slice_index src i ≢ 13 → EndsSet is_run_byte (take stop src) i j → data_bit_at true es src stop i ≡ Ok (bytes_of (slice_range src i j), j)
unfolding data_bit_at
stretch_is es src stop i j amp cr e = rw (no_amp _ amp, no_cr _ cr, part_ends (take stop src) i j e.onward e.within e.passes e.stops) refl

pub stretch_put : (src old new : List ℕ) (stop i j : ℕ) → slice_index src i ≢ 38 → slice_index src i ≢ 13 → EndsData src i stop j → new ≡ old ++ slice_range src i j → PutsDatum src i stop old new j
stretch_put src old new stop i j amp cr e put = put_one (record {
  value = λ es. datum_put es src old new (slice_range src i j) stop i j (stretch_is es src stop i j amp cr e.set) put;
  onward = e.onward;
  cut = e.cut;
})

-- one byte of ASCII that a reference follows
is_amp : (b : ℕ) → (b == 38) ≡ true → b ≡ 38
is_amp b h = grind (arith, nat_tests)

run_amp : is_run_byte 38 ≡ false
unfolding is_run_byte
run_amp = refl

lone_end : (src : List ℕ) (stop i : ℕ) → IsUtf8 src → stop ≤ length src → i < stop → slice_index src i ≢ 38 → slice_index src i ≢ 13 → slice_index src i < 128 → slice_index src (i + 1) ≡ 38 → EndsData src i stop (i + 1)
lone_end src stop i utf8 within before amp cr ascii next =
    let long = length-take-le stop src within in
    record {
      set = record {
        onward = omega arith;
        within = omega (arith, long);
        passes = λ k low high. let at : k ≡ i = omega arith in ap is_run_byte (get_or-take stop src k 0 (omega arith)) ∙ rw at (run_stays (slice_index src i) amp cr);
        stops = λ more. let less : i + 1 < stop = omega (arith, long, more) in ap is_run_byte (get_or-take stop src (i + 1) 0 less) ∙ rw next run_amp;
      };
      onward = omega arith;
      cut = IsCharBoundary-after_ascii src i utf8 (omega arith) ascii;
    }

lone_slice : (src : List ℕ) (i : ℕ) → i < length src → slice_range src i (i + 1) ≡ slice_index src i ∷ []
lone_slice src i within = let one : (i + 1) - i ≡ 1 = omega arith in rw (one, drop_more src i 0 within) refl

pub lone_put : (src old new : List ℕ) (stop i : ℕ) → IsUtf8 src → stop ≤ length src → i < stop → slice_index src i ≢ 38 → slice_index src i ≢ 13 → slice_index src i < 128 → (slice_index src (i + 1) == 38) ≡ true
    → new ≡ old ++ slice_index src i ∷ [] → PutsDatum src i stop old new (i + 1)
lone_put src old new stop i utf8 within before amp cr ascii next put =
    stretch_put src old new stop i (i + 1) amp cr (lone_end src stop i utf8 within before amp cr ascii (is_amp _ next)) (put ∙ ap (λ (xs : List ℕ). old ++ xs) (sym (lone_slice src i (omega arith))))

-- ---- several items

pub more_data : (src old mid new : List ℕ) (stop i j n : ℕ) → j < stop → PutsData src i stop old mid j → PutsOneDatum src j stop mid new n → PutsData src i stop old new n
more_data src old mid new stop i j n before p b =
    let low = p.onward in
    let left = p.reads.0 in
    let room = p.reads.1.0 in
    record {
      reads = (left - 1, (omega arith, λ es. run_more true es mid new left (left - 1) src stop j n (omega arith) before (b.value es) ∙ p.reads.1.1 es));
      onward = omega arith;
      cut = b.cut;
    }
