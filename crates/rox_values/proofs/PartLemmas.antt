-- The bits of a run or a value, one after another.
use Rattle.std.proofs.Common.{◌≡◌, ℕ, zero, suc, ◌+◌, ◌<◌, ◌≤◌, Bool, List, [], ◌++◌, Result, Ok, Err, refl, sym, ap, ◌∙◌, arith, add-one, append_assoc, append-nil, lt-ltb, le-ltb}
use Rattle.rox_grammar.specs.declared.fault.Fault.{Fault}
use Rattle.rox_reading.specs.Lexical.{Read, ◌>>=◌}
use Rattle.rox_reading.specs.Refusals as refusal
use Rattle.rox_reading.specs.Refusals.{Refusal, lifted}
use Rattle.rox_reading.specs.Values.{Bit, bytes_of, opens, Next, at_end, opening, after_bit, data_bit_at, data_part, ValueInclusion, after_value_bit, value_bit_at, value_text}
use Rattle.rox_grammar.specs.Failures.{Fails}
use Rattle.rox_grammar.specs.declared.failure.Failure.{Failure}
use Rattle.rox_grammar.specs.declared.failure.Failure.TheVariants as failure
use Rattle.rox_grammar.specs.Entities.{Replacement, Entity}
use Rattle.rox_values.specs.Refusals.{IsRefusal, of_failure}
use Rattle.rox_values.specs.declared.parse_error.ParseError.{ParseError}
use Rattle.rox_values.specs.Values.{behind, text_behind}

-- what is appended behind one bit
appended : {A E : Type 0} (front v : List ℕ) (read : Result (List ℕ × A) E) → text_behind front (read >>= λ rest. Ok (v ++ rest.0, rest.1)) ≡ text_behind (front ++ v) read
appended front v read = grind (arith, append_assoc)

pub pair_ok : {A B E : Type 0} (x y : A) (b c : B) → ◌≡◌ {A = Result (A × B) E} (Ok (x, b)) (Ok (y, c)) → (x ≡ y) × (b ≡ c)
pair_ok {A = A} {B = B} x y b c h = let k : ◌≡◌ {A = A × B} (x, b) (y, c) = cc in (ap (λ p. p.0) k, ap (λ p. p.1) k)

pub fault_behind : {A E : Type 0} (front : List ℕ) (read : Result (List ℕ × A) E) (f : E) → text_behind front read ≡ Err f → read ≡ Err f
fault_behind front read f h = grind arith

nothing_behind : {A E : Type 0} (front : List ℕ) (x : A) → ◌≡◌ {A = Result (List ℕ × A) E} (text_behind front (Ok ([], x))) (Ok (front, x))
nothing_behind front x = ap (λ (xs : List ℕ). Ok (xs, x)) (append-nil front)

-- one bit, and what follows it
joined : (front new : List ℕ) (j : ℕ) (read : Read Bit) (next : ℕ → Result (List ℕ × Next) Fault) → behind front read ≡ Ok (bytes_of new, j)
    → text_behind front (read >>= λ x. after_bit next x.0 x.1) ≡ text_behind new (next j)
joined front new j read next h = grind (arith, appended)

value_joined : (opener : ValueInclusion) (openings_left : ℕ) (front new : List ℕ) (j : ℕ) (read : Read Bit) (next : ℕ → ℕ → Result (List ℕ × ℕ) Refusal) → behind front read ≡ Ok (bytes_of new, j)
    → text_behind front (lifted read >>= λ x. after_value_bit opener next openings_left x.0 x.1) ≡ text_behind new (next j openings_left)
value_joined opener openings_left front new j read next h = grind (arith, appended)

-- a text that is opened, and what follows it
value_opened : (front new : List ℕ) (l : ℕ) (read : Result (List ℕ × ℕ) Refusal) (next : ℕ → Result (List ℕ × ℕ) Refusal) → text_behind front read ≡ Ok (new, l)
    → text_behind front (read >>= λ x. next x.1 >>= λ rest. Ok (x.0 ++ rest.0, rest.1)) ≡ text_behind new (next l)
value_opened front new l (Ok (bs, k)) next h =
    let same = pair_ok (front ++ bs) new k l h in
    appended front bs (next k) ∙ rw (same.0, same.1) refl
value_opened front new l (Err e) next h = cc h

-- ---- a run

-- a bit of it
pub run_more : (main : Bool) (es : List Entity) (front new : List ℕ) (n m : ℕ) (src : List ℕ) (stop i j : ℕ) → m + 1 ≡ n → i < stop → behind front (data_bit_at main es src stop i) ≡ Ok (bytes_of new, j)
    → text_behind new (data_part main es m src stop j) ≡ text_behind front (data_part main es n src stop i)
unfolding data_part
run_more main es front new n m src stop i j one more h =
    rw (← one, add-one, lt-ltb i stop more) (sym (joined front new j (data_bit_at main es src stop i) (λ k. data_part main es m src stop k) h))

-- a reference to an entity
pub run_opens : (main : Bool) (es : List Entity) (front : List ℕ) (n : ℕ) (src : List ℕ) (stop i j : ℕ) (t : Replacement) → 0 < n → i < stop → data_bit_at main es src stop i ≡ Ok (opens t, j)
    → text_behind front (data_part main es n src stop i) ≡ Ok (front, opening t j)
unfolding data_part
run_opens main es front zero src stop i j t some more h = absurd (omega arith)
run_opens main es front (suc n) src stop i j t some more h = rw (lt-ltb i stop more, h) (nothing_behind front (opening t j))

pub run_fault : (main : Bool) (es : List Entity) (front : List ℕ) (n : ℕ) (src : List ℕ) (stop i : ℕ) (f : Fault) → 0 < n → i < stop → data_bit_at main es src stop i ≡ Err f
    → text_behind front (data_part main es n src stop i) ≡ Err f
unfolding data_part
run_fault main es front zero src stop i f some more h = absurd (omega arith)
run_fault main es front (suc n) src stop i f some more h = rw (lt-ltb i stop more, h) refl

pub run_done : (main : Bool) (es : List Entity) (front : List ℕ) (n : ℕ) (src : List ℕ) (stop i : ℕ) → stop ≤ i → text_behind front (data_part main es n src stop i) ≡ Ok (front, at_end)
unfolding data_part
run_done main es front zero src stop i past = nothing_behind front at_end
run_done main es front (suc n) src stop i past = rw (le-ltb i stop past) (nothing_behind front at_end)

pub run_out : (main : Bool) (es : List Entity) (front : List ℕ) (n : ℕ) (src : List ℕ) (stop i : ℕ) → n ≡ 0 → text_behind front (data_part main es n src stop i) ≡ Ok (front, at_end)
unfolding data_part
run_out main es front n src stop i none = rw none (nothing_behind front at_end)

-- a bit that fails, of what is read as a whole
pub run_fails : (main : Bool) (es : List Entity) (e : Failure) (front done : List ℕ) (whole : Result (List ℕ × Next) Fault) (n : ℕ) (src : List ℕ) (stop i : ℕ)
    → text_behind done (data_part main es n src stop i) ≡ text_behind front whole → 0 < n → i < stop → Fails e (data_bit_at main es src stop i) → Fails e whole
run_fails main es failure.Memory front done whole n src stop i same some more h = tt
run_fails main es (failure.Fault f) front done whole n src stop i same some more h = fault_behind front whole f (sym same ∙ run_fault main es done n src stop i f some more h)

-- ---- a value

-- a bit of it
pub value_more : (main : Bool) (es : List Entity) (opener : ValueInclusion) (openings_left : ℕ) (front new : List ℕ) (n m : ℕ) (src : List ℕ) (stop i j : ℕ) → m + 1 ≡ n → i < stop
    → behind front (value_bit_at main es src stop i) ≡ Ok (bytes_of new, j)
    → text_behind new (value_text main es opener m src stop j openings_left) ≡ text_behind front (value_text main es opener n src stop i openings_left)
unfolding value_text
value_more main es opener openings_left front new n m src stop i j one more h =
    rw (← one, add-one, lt-ltb i stop more) (sym (value_joined opener openings_left front new j (value_bit_at main es src stop i) (λ k l. value_text main es opener m src stop k l) h))

-- a replacement text that was opened
pub value_opens : (main : Bool) (es : List Entity) (opener : ValueInclusion) (openings_left l : ℕ) (front new : List ℕ) (n m : ℕ) (src : List ℕ) (stop i j : ℕ) (t : Replacement) → m + 1 ≡ n → i < stop
    → value_bit_at main es src stop i ≡ Ok (opens t, j) → text_behind front (opener t j openings_left) ≡ Ok (new, l)
    → text_behind new (value_text main es opener m src stop j l) ≡ text_behind front (value_text main es opener n src stop i openings_left)
unfolding value_text
value_opens main es opener openings_left l front new n m src stop i j t one more is h =
    rw (← one, add-one, lt-ltb i stop more, is) (sym (value_opened front new l (opener t j openings_left) (λ l. value_text main es opener m src stop j l) h))

pub value_fault : (main : Bool) (es : List Entity) (opener : ValueInclusion) (openings_left : ℕ) (front : List ℕ) (n : ℕ) (src : List ℕ) (stop i : ℕ) (f : Fault) → 0 < n → i < stop → value_bit_at main es src stop i ≡ Err f
    → text_behind front (value_text main es opener n src stop i openings_left) ≡ Err (refusal.here f)
unfolding value_text
value_fault main es opener openings_left front zero src stop i f some more h = absurd (omega arith)
value_fault main es opener openings_left front (suc n) src stop i f some more h = rw (lt-ltb i stop more, h) refl

pub value_done : (main : Bool) (es : List Entity) (opener : ValueInclusion) (openings_left : ℕ) (front : List ℕ) (n : ℕ) (src : List ℕ) (stop i : ℕ) → stop ≤ i → text_behind front (value_text main es opener n src stop i openings_left) ≡ Ok (front, openings_left)
unfolding value_text
value_done main es opener openings_left front zero src stop i past = nothing_behind front openings_left
value_done main es opener openings_left front (suc n) src stop i past = rw (le-ltb i stop past) (nothing_behind front openings_left)

-- a bit that fails
pub value_fails : (main : Bool) (es : List Entity) (opener : ValueInclusion) (openings_left : ℕ) (e : Failure) (front done : List ℕ) (whole : Result (List ℕ × ℕ) Refusal) (n : ℕ) (src : List ℕ) (stop i : ℕ)
    → text_behind done (value_text main es opener n src stop i openings_left) ≡ text_behind front whole → 0 < n → i < stop → Fails e (value_bit_at main es src stop i) → IsRefusal (of_failure e) whole
value_fails main es opener openings_left failure.Memory front done whole n src stop i same some more h = tt
value_fails main es opener openings_left (failure.Fault f) front done whole n src stop i same some more h =
    fault_behind front whole (refusal.here f) (sym same ∙ value_fault main es opener openings_left done n src stop i f some more h)

value_opens_err : (main : Bool) (es : List Entity) (opener : ValueInclusion) (openings_left : ℕ) (front : List ℕ) (n : ℕ) (src : List ℕ) (stop i j : ℕ) (t : Replacement) (e : Refusal) → 0 < n → i < stop
    → value_bit_at main es src stop i ≡ Ok (opens t, j) → opener t j openings_left ≡ Err e → text_behind front (value_text main es opener n src stop i openings_left) ≡ Err e
unfolding value_text
value_opens_err main es opener openings_left front zero src stop i j t e some more is h = absurd (omega arith)
value_opens_err main es opener openings_left front (suc n) src stop i j t e some more is h = rw (lt-ltb i stop more, is, h) refl

pub refuses_by : {A B : Type 0} (e : ParseError) (one : Result A Refusal) (other : Result B Refusal) → ((r : Refusal) → one ≡ Err r → other ≡ Err r) → IsRefusal e one → IsRefusal e other
refuses_by e one other f h = grind arith

pub value_opens_fails : (main : Bool) (es : List Entity) (opener : ValueInclusion) (openings_left : ℕ) (e : ParseError) (front done : List ℕ) (whole : Result (List ℕ × ℕ) Refusal) (n : ℕ) (src : List ℕ) (stop i j : ℕ) (t : Replacement)
    → text_behind done (value_text main es opener n src stop i openings_left) ≡ text_behind front whole → 0 < n → i < stop → value_bit_at main es src stop i ≡ Ok (opens t, j)
    → IsRefusal e (opener t j openings_left) → IsRefusal e whole
value_opens_fails main es opener openings_left e front done whole n src stop i j t same some more is h =
    refuses_by e (opener t j openings_left) whole (λ r err. fault_behind front whole r (sym same ∙ value_opens_err main es opener openings_left done n src stop i j t r some more is err)) h
