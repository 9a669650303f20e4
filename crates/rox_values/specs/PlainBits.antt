-- The items of a value that refer to no declared entity, compared with what is read.
use Rattle.std.specs.Prelude.{◌≡◌, ◌<◌, ◌≤◌, ◌+◌, ◌-◌, ◌==◌, ◌||◌, if◌then◌else◌, ℕ, Bool, false, List, Result, Ok, Err, IfOk, slice_index, slice_range, encode_utf8, IsCharBoundary}
use Rattle.rox_grammar.specs.declared.fault.Fault.{Fault}
use Rattle.rox_grammar.specs.Entities.{Entity}
use Rattle.rox_reading.specs.Lexical.{Read}
use Rattle.rox_reading.specs.Values.{Bit, ValueInclusion, bytes_of, character_of, opens, is_special, stretch_at, tested_bit, value_bit_at, value_text}
use Rattle.rox_bytes.specs.ByteSets.{EndsSet, is_stretch_byte}
use Rattle.rox_values.specs.Values.{behind, text_behind}
use Rattle.rox_grammar.specs.Failures.{Fails}
use Rattle.rox_grammar.specs.declared.failure.Failure.{Failure}
use Rattle.rox_scan.specs.Views.{replacement_view}
use Rattle.rox_scan.specs.declared.cursor.Cursor.{Cursor}
use Rattle.rox_values.specs.DeclaredEntities.{AreDeclared}
use Rattle.rox_values.specs.declared.entities.Entities.{Entities}

-- The rest of a value is from `i` up to `j`, if `i` is before `j`.
pub record IsRest (src : List ℕ) (i j : ℕ) : Type 0 where
  pub start : IsCharBoundary src i
  pub stop : IsCharBoundary src j

-- An item of a value is at `i`.
pub record BeginsBit (src : List ℕ) (i j : ℕ) : Type 0 where
  pub rest : IsRest src i j
  pub before : i < j

-- A byte of a value that does not change it is at `i`.
pub record BeginsStretch (src : List ℕ) (i j : ℕ) : Type 0 where
  pub begins : BeginsBit src i j
  pub plain : is_special (slice_index src i) ≡ false

-- A `&` is at `i`.
pub record BeginsReference (src : List ℕ) (i : ℕ) : Type 0 where
  pub start : IsCharBoundary src i
  pub here : slice_index src i ≡ 38

-- A reference to `character` gives `given` in a value, of the main text if `main` is true.
abbrev pub GivesCharacter : (main : Bool) → ℕ → ℕ → Type 0
GivesCharacter main character given = (i : ℕ)
    → tested_bit main i (character_of character) (Ok (bytes_of (encode_utf8 character))) ≡ Ok (bytes_of (encode_utf8 given))

-- The item at `i`, before the end `stop` of a value, was appended up to `j`.
pub record PutsBit (main : Bool) (src : List ℕ) (i stop : ℕ) (old new : List ℕ) (j : ℕ) : Type 0 where
  pub value : (es : List Entity) → behind old (value_bit_at main es src stop i) ≡ Ok (bytes_of new, j)
  pub onward : i < j
  pub cut : IsCharBoundary src j

-- The item at `i` was appended up to `j`, or nothing was if `j` is 0.
pub record PutsOne (main : Bool) (src : List ℕ) (i stop : ℕ) (old new : List ℕ) (j : ℕ) : Type 0 where
  pub put : 0 < j → PutsBit main src i stop old new j
  pub refused : j ≡ 0 → new ≡ old

-- A reference to `character` gives no bytes in a value: it is a fault.
abbrev pub HasNoCharacter : (main : Bool) → ℕ → Type 0
HasNoCharacter main character = (i : ℕ) (given : List ℕ)
    → tested_bit main i (character_of character) (Ok (bytes_of (encode_utf8 character))) ≡ Ok (bytes_of given) → ⊥

-- There are no bytes that the item at `i` gives whatever is declared: it names an entity, or is a fault.
abbrev pub GivesNoBytes : (main : Bool) → List ℕ → ℕ → ℕ → Type 0
GivesNoBytes main src i stop = (given : List ℕ) (j : ℕ) → ((es : List Entity) → value_bit_at main es src stop i ≡ Ok (bytes_of given, j)) → ⊥

-- A buffer of `len` bytes has room for `cap`. If `j` is 0, nothing was appended for the item at `i`. With room for what is left up
-- to `stop`, and for four bytes more, that is so only if the item gives no bytes.
pub record StopsAtOne (main : Bool) (src : List ℕ) (i stop len cap new_len new_cap j : ℕ) : Type 0 where
  pub room : cap ≤ new_cap
  pub same : j ≡ 0 → new_len ≡ len
  pub why : j ≡ 0 → len + (stop - i) + 4 ≤ cap → GivesNoBytes main src i stop

-- A value is read up to an item at `j` that gives no bytes, or to its end, if the room of the buffer was enough from the start.
abbrev pub StopsWithRoom : (main : Bool) → List ℕ → (stop cap len j : ℕ) → Type 0
StopsWithRoom main src stop cap len j = j < stop → len + (stop - j) + 4 ≤ cap → GivesNoBytes main src j stop

-- The bytes from `i` up to `j` are a stretch of a value.
pub record IsStretch (main : Bool) (src : List ℕ) (i stop j : ℕ) : Type 0 where
  pub value : stretch_at main src stop i ≡ Ok (bytes_of (slice_range src i j), j)
  pub onward : i < j
  pub cut : IsCharBoundary src j

-- The result is the end of a stretch of a value, or its fault.
abbrev pub GivesStretch : List ℕ → ℕ → Result ℕ Fault → Read Bit → Type 0
GivesStretch src i (Ok j) read = read ≡ Ok (bytes_of (slice_range src i j), j)
GivesStretch src i (Err f) read = read ≡ Err f

-- What a value gives from `i` up to `j` was appended. Then the rest from `j` on gives what the value from `i` on gave, whatever is
-- declared and may be opened. Each number of items is enough that is not less than that of the bytes.
pub record PutsBits (main : Bool) (src : List ℕ) (i stop : ℕ) (old new : List ℕ) (j : ℕ) : Type 0 where
  pub reads : (bits : ℕ) → stop - i ≤ bits
      → (left : ℕ) × ((stop - j ≤ left) × ((es : List Entity) (opener : ValueInclusion) (openings_left : ℕ)
      → text_behind new (value_text main es opener left src stop j openings_left) ≡ text_behind old (value_text main es opener bits src stop i openings_left)))
  pub onward : i ≤ j
  pub cut : IsCharBoundary src j

-- The first byte from `i` up to `j` that changes a value is at `first`.
pub record HasChange (src : List ℕ) (i first j : ℕ) : Type 0 where
  pub start : IsCharBoundary src i
  pub stop : IsCharBoundary src j
  pub front : EndsSet is_stretch_byte src i first
  pub before : first < j

-- A TAB or a LF gives a space in a value. Other bytes that are neither `&` nor CR give themselves.
abbrev pub spaced_byte : ℕ → ℕ
spaced_byte b = if b == 9 || b == 10 then 32 else b

-- A replacement text that a reference names, and the offset after the reference. A failure is the fault of what is read.
abbrev pub NamesThere : Result (Cursor × ℕ) Failure → Read Bit → Type 0
NamesThere (Ok x) read = read ≡ Ok (opens (replacement_view x.0), x.1)
NamesThere (Err e) read = Fails e read

-- As in `NamesThere`, with the declared entities. The offset is after `i`, and a character starts there.
pub record NamesText (entities : Entities) (src : List ℕ) (i : ℕ) (result : Result (Cursor × ℕ) Failure) (read : List Entity → Read Bit) : Type 0 where
  pub value : (es : List Entity) → AreDeclared es entities → NamesThere result (read es)
  pub onward : IfOk result (λ x. i < x.1)
  pub cut : IfOk result (λ x. IsCharBoundary src x.1)
