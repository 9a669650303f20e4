-- How the texts and references in the code relate to what is read.
use Rattle.std.specs.Prelude.{◌≡◌, ◌≢◌, ◌<◌, ◌≤◌, ◌-◌, ℕ, Bool, true, false, not, ◌==◌, ◌||◌, List, [], ◌++◌, Option, Some, None, Result, Ok, Err, IfOk, drop, slice_index, slice_range, take, if◌then◌else◌, IsCharBoundary}
use Rattle.std.specs.Borrow.{Bor}
use Rattle.std.specs.List.{list_any}
use Rattle.rox_grammar.specs.declared.fault.Fault.{Fault}
use Rattle.rox_grammar.specs.Content.{literals, line_ends}
use Rattle.rox_grammar.specs.References.{is_digit, is_hex_digit}
use Rattle.rox_reading.specs.Lexical.{Read, ◌>>=◌}
use Rattle.rox_reading.specs.Refusals.{Refusal}
use Rattle.rox_reading.specs.Tags.{Values}
use Rattle.rox_reading.specs.Values as reading
use Rattle.rox_bytes.specs.ByteSets.{EndsSet, is_run_byte}
use Rattle.rox_grammar.specs.Failures.{Fails}
use Rattle.rox_scan.specs.declared.cursor.Cursor.{Cursor}
use Rattle.rox_grammar.specs.declared.failure.Failure.{Failure}
use Rattle.rox_scan.specs.Views.{replacement_view}
use Rattle.rox_scan.specs.CursorSteps.{Steps}
use Rattle.rox_grammar.specs.Entities.{Entity}
use Rattle.rox_values.specs.DeclaredEntities.{AreDeclared}
use Rattle.rox_values.specs.declared.entities.Entities.{Entities}
use Rattle.rox_values.specs.Refusals.{IsRefusal}
use Rattle.rox_values.specs.declared.parse_error.ParseError.{ParseError}
use Rattle.rox_values.specs.declared.reference.Reference.{Reference}
use Rattle.rox_values.specs.declared.reference.Reference.TheVariants as reference
use Rattle.rox_values.specs.declared.text_value.TextValue.{TextValue}
use Rattle.rox_values.specs.declared.text_value.TextValue.TheVariants as piece

-- The base of a number's digits, and which bytes they are.
abbrev pub base_of : Bool → ℕ
base_of hexadecimal = if hexadecimal then 16 else 10

abbrev pub is_digit_of : Bool → ℕ → Bool
is_digit_of true b = is_hex_digit b
is_digit_of false b = is_digit b

abbrev pub reference_view : Reference → reading.Reference
reference_view (reference.Character c) = reading.character_of c
reference_view (reference.Entity span name) = reading.entity_at span

-- The name of a reference is the text at its span.
abbrev pub HasItsName : List ℕ → Reference → Type 0
HasItsName src (reference.Character c) = Unit {0}
HasItsName src (reference.Entity span name) = name.now ≡ slice_range src span.start span.end

-- A reference is read. The cursor is after its first byte then.
pub record ReadsReference (old new : Cursor) (result : Result Reference Fault) (wanted : List ℕ → ℕ → Read reading.Reference) : Type 0 where
  pub read : Steps reference_view old new result wanted
  pub onward : IfOk result (λ _. old.pos < new.pos)
  pub name : IfOk result (HasItsName old.text.now)

-- A `&` is at `i`, and a `;` at `j` behind it.
pub record IsBeforeSemicolon (src : List ℕ) (i j : ℕ) : Type 0 where
  pub here : slice_index src i ≡ 38
  pub behind : slice_index src j ≡ 59
  pub onward : i < j

-- The reference at `i`, up to `j`, has one of the predefined names, that of the character `c`.
pub record NamesCharacter (src : List ℕ) (i c j : ℕ) : Type 0 where
  pub value : reading.name_reference_at src i ≡ Ok (reading.character_of c, j)
  pub onward : i < j
  pub cut : IsCharBoundary src j

-- A text, with what the buffer holds if it had to be changed.
abbrev pub piece_view : TextValue → List ℕ → reading.ReadText
piece_view (piece.Plain s) buffer = record { value = s.now; borrowed = true }
piece_view piece.Changed buffer = record { value = buffer; borrowed = false }

-- If the text is a slice of a source, its bytes are `bytes`.
abbrev pub IsItsSlice : Option (Bor (List ℕ)) → List ℕ → Type 0
IsItsSlice None bytes = Unit {0}
IsItsSlice (Some slice) bytes = slice.now ≡ bytes

-- What an item gives, after the bytes `front`.
abbrev pub bit_behind : List ℕ → reading.Bit → reading.Bit
bit_behind front (reading.bytes_of bs) = reading.bytes_of (front ++ bs)
bit_behind front (reading.opens t) = reading.opens t

abbrev pub behind : List ℕ → Read reading.Bit → Read reading.Bit
behind front read = read >>= λ x. Ok (bit_behind front x.0, x.1)

-- What is read of a text, after the bytes `front`, with what is read after it.
abbrev pub text_behind : {A E : Type 0} → List ℕ → Result (List ℕ × A) E → Result (List ℕ × A) E
text_behind front read = read >>= λ x. Ok (front ++ x.0, x.1)

-- What an item gives was appended to a buffer that held `old` and holds `new`, and the cursor is after it. If it is a replacement
-- text, nothing is appended.
abbrev pub AppendsBit : List ℕ → List ℕ → Cursor → Result (Option Cursor) Failure → Read reading.Bit → Type 0
AppendsBit old new after (Ok None) read = behind old read ≡ Ok (reading.bytes_of new, after.pos)
AppendsBit old new after (Ok (Some text)) read = (read ≡ Ok (reading.opens (replacement_view text), after.pos)) × (new ≡ old)
AppendsBit old new after (Err e) read = Fails e read

-- Reading from `at` stops at `stop`, between two characters.
pub record StopsAt (text : List ℕ) (at stop : ℕ) : Type 0 where
  pub before : at < stop
  pub cut : IsCharBoundary text stop

-- What is read from the cursor on was appended, as `AppendsBit` says, with the declared entities, and the source stays.
pub record AppendsBitFrom (entities : Entities) (old new : List ℕ) (before after : Cursor) (result : Result (Option Cursor) Failure) (read : List Entity → List ℕ → ℕ → Read reading.Bit) : Type 0 where
  pub value : (es : List Entity) → AreDeclared es entities → AppendsBit old new after result (read es before.text.now before.pos)
  pub source : after.text ≡ before.text

-- The byte `b` does not change character data and does not end it.
unfoldable pub is_data_byte : ℕ → Bool
is_data_byte b = not ((b == 38 || b == 13) || b == 60)

-- An item of character data of the main text, at `i` and before `stop`, was appended up to `j`.
pub record PutsOneDatum (src : List ℕ) (i stop : ℕ) (old new : List ℕ) (j : ℕ) : Type 0 where
  pub value : (es : List Entity) → behind old (reading.data_bit_at true es src stop i) ≡ Ok (reading.bytes_of new, j)
  pub onward : i < j
  pub cut : IsCharBoundary src j

-- The item at `i` was appended up to `j`, or nothing was if `j` is 0.
pub record PutsDatum (src : List ℕ) (i stop : ℕ) (old new : List ℕ) (j : ℕ) : Type 0 where
  pub put : 0 < j → PutsOneDatum src i stop old new j
  pub refused : j ≡ 0 → new ≡ old

-- The bytes of character data from `i` on that do not change it end at `j`, before `stop` or there.
pub record EndsData (src : List ℕ) (i stop j : ℕ) : Type 0 where
  pub set : EndsSet is_run_byte (take stop src) i j
  pub onward : i < j
  pub cut : IsCharBoundary src j

-- What character data of the main text gives from `i` up to `j` was appended. So what is appended and the rest from `j` on give
-- what the data from `i` on gave. `left` is how many items that rest may have.
pub record PutsData (src : List ℕ) (i stop : ℕ) (old new : List ℕ) (j : ℕ) : Type 0 where
  pub reads : (left : ℕ) × ((stop - j ≤ left) × ((es : List Entity)
      → text_behind new (reading.data_part true es left src stop j) ≡ text_behind old (reading.data_part true es (stop - i) src stop i)))
  pub onward : i ≤ j
  pub cut : IsCharBoundary src j

-- Both offsets are between two characters, or at an end of the text.
pub record HasOffsets (src : List ℕ) (i stop : ℕ) : Type 0 where
  pub start : IsCharBoundary src i
  pub until : IsCharBoundary src stop

-- The character data of the main text from `i` up to `j` gives these bytes, whatever is declared, and at least one.
pub record GivesData (src : List ℕ) (i j : ℕ) (bytes : List ℕ) : Type 0 where
  pub value : (es : List Entity) → reading.data_part true es (j - i) src j i ≡ Ok (bytes, reading.at_end)
  pub some : bytes ≢ []

-- Character data may be from `i` up to `stop`.
pub record HasData (src : List ℕ) (i stop : ℕ) : Type 0 where
  pub start : IsCharBoundary src i
  pub stop_cut : IsCharBoundary src stop
  pub before : i < stop

-- A byte of character data that does not change it is at `i`.
pub record HasStretch (src : List ℕ) (i stop : ℕ) : Type 0 where
  pub range : HasData src i stop
  pub no_reference : slice_index src i ≢ 38
  pub no_line_end : slice_index src i ≢ 13

-- The byte `b` ends a slice of a value in a replacement text.
abbrev pub ends_stretch : ℕ → Bool
ends_stretch b = reading.is_special b || b == 60

-- The byte `b` does not end a slice of a value in a replacement text.
unfoldable pub is_inner_byte : ℕ → Bool
is_inner_byte b = not (ends_stretch b)

-- A replacement text is found, or the fault.
abbrev pub FindsEntity : Result Cursor Fault → Result reading.Bit Fault → Type 0
FindsEntity (Ok text) read = read ≡ Ok (reading.opens (replacement_view text))
FindsEntity (Err f) read = read ≡ Err f

-- What ends a part of character data: a replacement text, whose reference ends at `i`, or the end.
abbrev pub next_view : Option Cursor → ℕ → reading.Next
next_view None i = reading.at_end
next_view (Some text) i = reading.opening (replacement_view text) i

-- A part of character data was appended.
abbrev pub AppendsPart : List ℕ → List ℕ → Cursor → Result (Option Cursor) Failure → Result (List ℕ × reading.Next) Fault → Type 0
AppendsPart old new after (Ok next) read = text_behind old read ≡ Ok (new, next_view next after.pos)
AppendsPart old new after (Err e) read = Fails e read

-- What is read from the cursor on was appended, as `AppendsPart` says, with the declared entities, and the source stays.
pub record AppendsPartFrom (entities : Entities) (old new : List ℕ) (before after : Cursor) (result : Result (Option Cursor) Failure) (read : List Entity → List ℕ → ℕ → Result (List ℕ × reading.Next) Fault) : Type 0 where
  pub value : (es : List Entity) → AreDeclared es entities → AppendsPart old new after result (read es before.text.now before.pos)
  pub source : after.text ≡ before.text

-- A value, or a part of one, was appended. The number is how many replacement texts may be opened after it.
abbrev pub AppendsValue : List ℕ → List ℕ → Result ℕ ParseError → Result (List ℕ × ℕ) Refusal → Type 0
AppendsValue old new (Ok openings_left) read = text_behind old read ≡ Ok (new, openings_left)
AppendsValue old new (Err e) read = IsRefusal e read

-- What the value from `i` up to `stop` gives was appended. It neither uses nor changes how many replacement texts may be opened.
abbrev pub PutsRest : Values → List ℕ → (i stop : ℕ) → (old new : List ℕ) → Type 0
PutsRest values src i stop old new = (bits : ℕ) → stop - i ≤ bits → (openings_left : ℕ)
    → text_behind old (reading.value_text values.main values.entities values.opener bits src stop i openings_left) ≡ Ok (new, openings_left)

-- A value was read.
abbrev pub GivesValue : {A : Type 0} → (A → reading.ReadText) → Result (A × ℕ) ParseError → Result (reading.ReadText × ℕ) Refusal → Type 0
GivesValue view (Ok x) read = read ≡ Ok (view x.0, x.1)
GivesValue view (Err e) read = IsRefusal e read

-- XML 2.7, 2.11: the text of a CDATA section is a slice of the source if it has no CR.
abbrev pub section_text : List ℕ → reading.ReadText
section_text raw = record { value = line_ends (literals raw); borrowed = not (list_any (λ b. b == 13) raw) }

-- The text of a CDATA section from `i` on, if no CR is right before `i`.
abbrev pub section_rest : List ℕ → ℕ → List ℕ
section_rest raw i = line_ends (literals (drop i raw))

-- An item of a CDATA section is appended. The appended bytes and the rest from `next` on give the text that the old bytes and the
-- rest from `at` on gave.
pub record AppendsSectionPart (raw : List ℕ) (at next : ℕ) (old new : List ℕ) : Type 0 where
  pub value : new ++ section_rest raw next ≡ old ++ section_rest raw at
  pub moves : at < next
  pub cut : IsCharBoundary raw next
