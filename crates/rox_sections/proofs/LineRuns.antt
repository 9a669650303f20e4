-- A run that is a line end and bytes that stand for themselves.
use Rattle.std.proofs.Common.{◌≡◌, ◌<◌, ◌≤◌, ◌==◌, ◌||◌, ◌+◌, ◌-◌, zero, suc, ℕ, Bool, true, false, List, [], ◌∷◌, Ok, Err, get_or, take, drop, length, slice_range, if◌then◌else◌, refl, sym, ap, ◌∙◌, arith, inl, inr, append-nil, subst, lt-ltb, le-ltb}
use Rattle.std.specs.List.{position_or_len}
use Rattle.std.proofs.lemmas.Bool.Decides.{eqb_tells, leb_tells}
use Rattle.std.proofs.lemmas.List.{get_or-take, drop_more, length-take-le}
use Rattle.rox_grammar.specs.declared.fault.Fault.{Fault}
use Rattle.rox_grammar.specs.Search.{byte_from}
use Rattle.rox_grammar.specs.Entities.{Entity}
use Rattle.rox_grammar.specs.Written.{Text}
use Rattle.rox_reading.specs.State.{State}
use Rattle.rox_reading.specs.Lexical.{◌>>=◌}
use Rattle.rox_reading.specs.Refusals.{lifted}
use Rattle.rox_reading.specs.Values.{data_bit_at, data_part, bytes_of, at_end}
use Rattle.rox_reading.specs.Machine.{Context, with_item, data_parts, at_place}
use Rattle.rox_scan.specs.Lookahead.{IsLine}

-- the first byte behind which a search goes on
neither : (x : ℕ) (xs : List ℕ) → 0 < position_or_len (λ c. c == 38 || c == 13) (x ∷ xs) → ((x == 38) ≡ false) × ((x == 13) ≡ false)
neither x xs h =
    elim (eqb_tells x 38) [
      | inl amp ↦ let none = rw amp.0 at h in absurd (omega arith)
      | inr other ↦ elim (eqb_tells x 13) [
        | inl cr ↦ let none = rw (other.0, cr.0) at h in absurd (omega arith)
        | inr byte ↦ (other.0, byte.0)
      ]
    ]

-- the line end
first_bit : (es : List Entity) (src : List ℕ) (i j : ℕ) → IsLine src i j → data_bit_at true es src j i ≡ Ok (bytes_of (10 ∷ []), i + 1 + 1)
unfolding data_bit_at
first_bit es src i j h =
    let two : i + 2 ≡ i + 1 + 1 = omega arith in
    rw (h.cr, (get_or-take j src (i + 1) 0 h.some ∙ h.feed), two) refl

-- and what stands behind it
second_bit : (es : List Entity) (src : List ℕ) (i j : ℕ) → IsLine src i j → i + 1 + 1 < j → data_bit_at true es src j (i + 1 + 1) ≡ Ok (bytes_of (slice_range src (i + 1 + 1) j), j)
unfolding data_bit_at byte_from
second_bit es src i j h more =
    let count = length-take-le j src h.within in
    let rest = subst (λ (xs : List ℕ). i + 1 + 1 + position_or_len (λ c. c == 38 || c == 13) xs ≡ j) (drop_more (take j src) (i + 1 + 1) 0 (omega arith)) h.rest in
    let n = neither (get_or (take j src) (i + 1 + 1) 0) (drop (i + 1 + 1 + 1) (take j src)) (omega (arith, rest)) in
    let byte = get_or-take j src (i + 1 + 1) 0 more in
    rw ((rw byte at n.0), (rw byte at n.1), h.rest) refl

-- nothing stands at the end
no_part : (es : List Entity) (n : ℕ) (src : List ℕ) (j : ℕ) → data_part true es n src j j ≡ Ok ([], at_end)
unfolding data_part
no_part es zero src j = refl
no_part es (suc n) src j = rw (le-ltb j j (omega arith)) refl

one_more : (src : List ℕ) (a b : ℕ) → a < b → b ≤ length src → slice_range src a b ≡ get_or src a 0 ∷ slice_range src (a + 1) b
one_more src a b some within =
    let n : b - a ≡ suc (b - (a + 1)) = omega arith in
    rw ((drop_more src a 0 (omega arith)), n) refl

rest_part : (es : List Entity) (src : List ℕ) (i j m : ℕ) → IsLine src i j → data_part true es (suc m) src j (i + 1 + 1) ≡ Ok (slice_range src (i + 1 + 1) j, at_end)
unfolding data_part
rest_part es src i j m h =
    let some = h.some in
    elim (leb_tells (suc (i + 1 + 1)) j) [
      | inl more ↦ rw (lt-ltb (i + 1 + 1) j more.1, second_bit es src i j h more.1, no_part es m src j, append-nil) refl
      | inr none ↦
          let past = none.1 in
          let k : j - (i + 1 + 1) ≡ 0 = omega arith in
          rw (le-ltb (i + 1 + 1) j (omega arith), k) refl
    ]

line_part : (es : List Entity) (src : List ℕ) (i j : ℕ) → IsLine src i j → data_part true es (j - i) src j i ≡ Ok (10 ∷ slice_range src (i + 1 + 1) j, at_end)
unfolding data_part
line_part es src i j h =
    let some = h.some in
    let n : j - i ≡ suc (suc (j - i - 2)) = omega arith in
    rw (n, lt-ltb i j (omega arith), first_bit es src i j h, rest_part es src i j (j - i - 2) h) refl

-- its place is its end
pub counted_at : (b : Bool) (u : State) (f : Fault) (j : ℕ) → at_place j u ≡ u → (lifted (if b then Ok u else Err f) >>= λ v. Ok (at_place j v)) ≡ lifted (if b then Ok u else Err f)
counted_at true u f j same = ap (λ (v : State). Ok v) same
counted_at false u f j same = refl

at_state : (context : Context) (src : List ℕ) (s : State) (j : ℕ) → context.values.main ≡ true → IsLine src s.at j
    → data_parts context (length src) src s.at j s ≡ lifted (with_item context.limit s j (Text s.at j (slice_range src (s.at + 1) j) false))
unfolding data_parts
at_state context src s j main h =
    let some = h.some in
    let within = h.within in
    let len : length src ≡ suc (length src - 1) = omega arith in
    let part : data_part context.values.main context.values.entities (j - s.at) src j s.at ≡ Ok (10 ∷ slice_range src (s.at + 1 + 1) j, at_end) = rw main (line_part context.values.entities src s.at j h) in
    let text : slice_range src (s.at + 1) j ≡ 10 ∷ slice_range src (s.at + 1 + 1) j = one_more src (s.at + 1) j some within ∙ ap (λ b. b ∷ slice_range src (s.at + 1 + 1) j) h.feed in
    rw (len, part, text, main) (counted_at _ _ _ j refl)

pub line_run : (context : Context) (src : List ℕ) (s : State) (i j : ℕ) → i ≡ s.at → context.values.main ≡ true → IsLine src i j
    → data_parts context (length src) src i j s ≡ lifted (with_item context.limit s j (Text s.at j (slice_range src (i + 1) j) false))
line_run context src s i j e main h =
    subst (λ (n : ℕ). data_parts context (length src) src n j s ≡ lifted (with_item context.limit s j (Text s.at j (slice_range src (n + 1) j) false))) (sym e)
    (at_state context src s j main (subst (λ (n : ℕ). IsLine src n j) e h))
