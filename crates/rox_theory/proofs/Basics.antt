-- How a reading that succeeded went, and the smallest steps.
use Rattle.std.proofs.Common.{◌≡◌, ◌≢◌, ℕ, ◌+◌, ◌<◌, ◌≤◌, Bool, true, false, cond, List, length, take, refl, arith, inl, inr, IsUtf8}
use Rattle.std.specs.Prelude.{Result, Ok}
use Rattle.std.proofs.lemmas.List.{get_or_past}
use Rattle.std.proofs.lemmas.Bool.{le-ltb, cases_lt}
use Rattle.rox_grammar.specs.declared.fault.Fault.{Fault}
use Rattle.rox_grammar.specs.declared.fault.Expected.{Expected}
use Rattle.rox_grammar.specs.Chars.{is_char}
use Rattle.rox_grammar.specs.Runs.{run_end}
use Rattle.rox_grammar.specs.Search.{stands, mark_from}
use Rattle.rox_grammar.specs.ExpectedTexts.{expected_text}
use Rattle.rox_grammar.specs.Names.{byte, slice}
use Rattle.rox_grammar.specs.Constructs.{AreChars}
use Rattle.rox_reading.specs.Lexical.{◌>>=◌, byte_at, string_at, chars_up_to, text_to}
use Rattle.rox_reading.specs.Refusals.{Refusal, lifted, elsewhere}
use Rattle.rox_theory.proofs.SpanLemmas.{run_end_inside}

-- What two equal answers hold is equal.
pub ok_same : {A E : Type 0} (x y : A) → ◌≡◌ {A = Result A E} (Ok x) (Ok y) → x ≡ y
ok_same x y h = cc

-- Where a sequence gives a value, its first step gave one and the rest gave the value.
pub bind_ok : {A B E P : Type 0} (r : Result A E) (f : A → Result B E) (y : B) → (r >>= f) ≡ Ok y → ((x : A) → r ≡ Ok x → f x ≡ Ok y → P) → P
bind_ok r f y h go = grind arith

-- The same of a first step that opens no entity.
pub bind_lifted : {A B P : Type 0} (r : Result A Fault) (f : A → Result B Refusal) (y : B) → (lifted r >>= f) ≡ Ok y → ((x : A) → r ≡ Ok x → f x ≡ Ok y → P) → P
bind_lifted r f y h go = grind arith

-- And of one that is all.
pub bind_lifted_only : {A P : Type 0} (r : Result A Fault) (y : A) → lifted r ≡ Ok y → (r ≡ Ok y → P) → P
bind_lifted_only r y h go = grind arith

-- What is seen from another source is what is seen from its own, where there is a value.
pub elsewhere_ok : {A : Type 0} (source : List ℕ) (r : Result A Refusal) (y : A) → elsewhere source r ≡ Ok y → r ≡ Ok y
elsewhere_ok source r y h = grind arith

-- What a choice gives comes from one of its branches.
pub chosen : {X P : Type 0} (b : Bool) (x y z : X) → cond b x y ≡ z → (b ≡ true → x ≡ z → P) → (b ≡ false → y ≡ z → P) → P
chosen b x y z h holds fails = grind arith

-- A byte but 0 is in the source.
pub within : (src : List ℕ) (i : ℕ) → byte src i ≢ 0 → i < length src
within src i h = elim (cases_lt i (length src)) as (λ s. i < length src) [ inl l ↦ l | inr l ↦ absurd (h (get_or_past src i 0 l)) ]

-- A byte that is read is there.
pub byte_sound : (b : ℕ) (src : List ℕ) (i : ℕ) (x : Unit {0} × ℕ) → byte_at b src i ≡ Ok x → (byte src i ≡ b) × (x.1 ≡ i + 1) × (i < length src)
unfolding byte_at
byte_sound b src i x h = grind arith

-- A byte that is there is read.
pub byte_complete : (b : ℕ) (src : List ℕ) (i : ℕ) → byte src i ≡ b → b ≢ 0 → byte_at b src i ≡ Ok (tt, i + 1)
unfolding byte_at
byte_complete b src i h nz = grind (arith, within)

-- A fixed text that is read is there.
pub string_sound : (w : Expected) (src : List ℕ) (i : ℕ) (x : Unit {0} × ℕ) → string_at w src i ≡ Ok x → (stands (expected_text w) src i ≡ true) × (x.1 ≡ i + length (expected_text w))
unfolding string_at
string_sound w src i x h = grind arith

-- A fixed text that is there is read.
pub string_complete : (w : Expected) (src : List ℕ) (i : ℕ) → stands (expected_text w) src i ≡ true → string_at w src i ≡ Ok (tt, i + length (expected_text w))
unfolding string_at
string_complete w src i h = rw h refl

-- What is read up to a place are Chars.
pub chars_sound : (end : ℕ) (src : List ℕ) (i : ℕ) (x : List ℕ × ℕ) → IsUtf8 src → i ≤ end → chars_up_to end src i ≡ Ok x → AreChars src i end × (x.0 ≡ slice src i end) × (x.1 ≡ end)
unfolding chars_up_to
chars_sound end src i x utf8 from h = grind (arith, run_end_inside)

-- Chars up to a place are read.
pub chars_complete : (end : ℕ) (src : List ℕ) (i : ℕ) → AreChars src i end → chars_up_to end src i ≡ Ok (slice src i end, end)
unfolding chars_up_to
chars_complete end src i h = let e = le-ltb (run_end is_char (take end src) i) end (omega arith) in rw e refl

-- A mark is looked for forwards.
pub mark_from_le : (mark src : List ℕ) (i : ℕ) → i ≤ mark_from mark src i
unfolding mark_from
mark_from_le mark src i = omega arith

-- From the text to a mark.
pub text_sound : (w : Expected) (src : List ℕ) (i : ℕ) (x : List ℕ × ℕ) → IsUtf8 src → text_to w src i ≡ Ok x
    → AreChars src i (mark_from (expected_text w) src i) × (stands (expected_text w) src (mark_from (expected_text w) src i) ≡ true)
    × (x.0 ≡ slice src i (mark_from (expected_text w) src i)) × (x.1 ≡ mark_from (expected_text w) src i + length (expected_text w))
unfolding text_to
text_sound w src i x utf8 h = grind (arith, chars_sound, mark_from_le, string_sound)

-- Chars up to a mark, and the mark, that stand there are read.
pub text_complete : (w : Expected) (src : List ℕ) (i e : ℕ) → e ≡ mark_from (expected_text w) src i → AreChars src i e → stands (expected_text w) src e ≡ true
    → text_to w src i ≡ Ok (slice src i e, e + length (expected_text w))
unfolding text_to
text_complete w src i e is chars stands = grind (arith, chars_complete, string_complete)

-- A run goes forwards.
pub run_end_le : (p : ℕ → Bool) (src : List ℕ) (i : ℕ) → i ≤ run_end p src i
unfolding run_end
run_end_le p src i = omega arith
