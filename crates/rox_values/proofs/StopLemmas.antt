-- Why the items of a value end.
use Rattle.std.proofs.Common.{◌≡◌, ℕ, Bool, true, false, List, [], Option, IfNone, Result, Ok, Err, slice_index, refl, sym, ◌∙◌, arith}
use Rattle.rox_reading.specs.Lexical.{Read, ◌>>=◌}
use Rattle.std.specs.Char.{encode_utf8}
use Rattle.rox_grammar.specs.Entities.{Entity}
use Rattle.rox_grammar.specs.declared.fault.Fault.{Fault}
use Rattle.rox_grammar.specs.declared.fault.Fault.TheVariants.{UnknownEntityReference}
use Rattle.rox_grammar.specs.declared.fault.Span.{Span}
use Rattle.rox_reading.specs.Values.{Bit, bytes_of, character_of, entity_at, is_special, reference_at, stretch_at, tested_bit, value_bit_at, value_reference_at}
use Rattle.rox_values.specs.PlainBits.{GivesNoBytes, HasNoCharacter, StopsAtOne}
use Rattle.rox_values.proofs.BitLemmas.{stretch_is}

-- ---- an item that gives no bytes

no_bytes : (main : Bool) (src : List ℕ) (i stop j : ℕ) (f : Fault) (given : List ℕ) → value_bit_at main [] src stop i ≡ Err f → value_bit_at main [] src stop i ≡ Ok (bytes_of given, j) → ⊥
no_bytes main src i stop j f given fails reads = cc (fails, reads)

reference_fails : (main : Bool) (es : List Entity) (src : List ℕ) (stop i : ℕ) (f : Fault) → slice_index src i ≡ 38 → reference_at src i ≡ Err f → value_bit_at main es src stop i ≡ Err f
unfolding value_bit_at value_reference_at
reference_fails main es src stop i f amp read = rw (amp, read) refl

pub fault_stops : (main : Bool) (src : List ℕ) (i stop : ℕ) (f : Fault) → slice_index src i ≡ 38 → reference_at src i ≡ Err f → GivesNoBytes main src i stop
fault_stops main src i stop f amp read = λ given j reads. no_bytes main src i stop j f given (reference_fails main [] src stop i f amp read) (reads [])

entity_fails : (main : Bool) (src : List ℕ) (stop i n : ℕ) (span : Span) → slice_index src i ≡ 38 → reference_at src i ≡ Ok (entity_at span, n) → value_bit_at main [] src stop i ≡ Err (UnknownEntityReference span i)
unfolding value_bit_at value_reference_at
entity_fails true src stop i n span amp read = rw (amp, read) refl
entity_fails false src stop i n span amp read = rw (amp, read) refl

pub entity_stops : (main : Bool) (src : List ℕ) (i stop n : ℕ) (span : Span) → slice_index src i ≡ 38 → reference_at src i ≡ Ok (entity_at span, n) → GivesNoBytes main src i stop
entity_stops main src i stop n span amp read = λ given j reads. no_bytes main src i stop j (UnknownEntityReference span i) given (entity_fails main src stop i n span amp read) (reads [])

-- a reference to a character
abbrev with_end : ℕ → Result Bit Fault → Read Bit
with_end n bit = bit >>= λ b. Ok (b, n)

only_bit : (bit : Result Bit Fault) (n j : ℕ) (given : List ℕ) → with_end n bit ≡ Ok (bytes_of given, j) → bit ≡ Ok (bytes_of given)
only_bit bit n j given h = grind arith

character_read : (main : Bool) (src : List ℕ) (stop i n c : ℕ) → slice_index src i ≡ 38 → reference_at src i ≡ Ok (character_of c, n)
    → value_bit_at main [] src stop i ≡ with_end n (tested_bit main i (character_of c) (Ok (bytes_of (encode_utf8 c))))
unfolding value_bit_at value_reference_at
character_read main src stop i n c amp read = rw (amp, read) refl

pub character_stops : (main : Bool) (src : List ℕ) (i stop n c : ℕ) → slice_index src i ≡ 38 → reference_at src i ≡ Ok (character_of c, n) → HasNoCharacter main c → GivesNoBytes main src i stop
character_stops main src i stop n c amp read none = λ given j reads.
    none i given (only_bit (tested_bit main i (character_of c) (Ok (bytes_of (encode_utf8 c)))) n j given (sym (character_read main src stop i n c amp read) ∙ reads []))

-- a `<` in a replacement text
tag_is_none : (c : ℕ) → c ≡ 60 → HasNoCharacter false c
tag_is_none c is = λ i given reads. let h = rw is at reads in cc h

pub inner_none : (main : Bool) (c : ℕ) (o : Option ℕ) → main ≡ false → IfNone o (c ≡ 60) → IfNone o (HasNoCharacter main c)
inner_none main c o is none = grind (arith, tag_is_none)

-- a stretch with a fault
pub stretch_stops : (src : List ℕ) (i stop : ℕ) (f : Fault) → is_special (slice_index src i) ≡ false → stretch_at false src stop i ≡ Err f → GivesNoBytes false src i stop
stretch_stops src i stop f plain fails = λ given j reads. no_bytes false src i stop j f given (stretch_is false [] src stop i plain ∙ fails) (reads [])

-- ---- one item

pub item_stops : (main : Bool) (src : List ℕ) (i stop len cap : ℕ) → GivesNoBytes main src i stop → StopsAtOne main src i stop len cap len cap 0
item_stops main src i stop len cap none = record { room = omega arith; same = λ zero. refl; why = λ zero more. none }
