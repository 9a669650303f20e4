-- The parts of a document type declaration, without where they are in memory, and how a resolver's answer starts.
use Prim.Native.Char.{code}
use Rattle.std.specs.Prelude.{◌≡◌, ℕ, ◌+◌, ◌==◌, ◌||◌, Bool, true, List, Option, Some, Result, Ok, Err, length, take, slice_index, nat_lt, nat_le, if◌then◌else◌}
use Rattle.rox_grammar.specs.declared.fault.Fault.{Fault}
use Rattle.rox_grammar.specs.declared.fault.Fault.TheVariants as fault
use Rattle.rox_grammar.specs.declared.fault.Due.TheVariants as due
use Rattle.rox_grammar.specs.declared.fault.Word.{Word}
use Rattle.rox_grammar.specs.declared.fault.Word.TheVariants as word
use Rattle.rox_grammar.specs.Search.{byte_from, stands}
use Rattle.rox_grammar.specs.Names.{spaces_end}
use Rattle.rox_grammar.specs.FixedTexts.{at, word_text}
use Rattle.rox_grammar.specs.Entities.{Replacement}
use Rattle.rox_grammar.specs.Doctype.{Request}
use Rattle.rox_reading.specs.Lexical.{Read, ◌>>=◌, chars_up_to}
use Rattle.rox_reading.specs.Markup.{xml_decl_at}
use Rattle.rox_reading.specs.Refusals.{Refusal, there}
use Rattle.rox_reading.specs.Doctype as reading
use Rattle.rox_scan.specs.Views.{replacement_view}
use Rattle.rox_scan.specs.declared.cursor.Cursor.{Cursor}
use Rattle.rox_markup.specs.Views.{text_view}
use Rattle.rox_markup.specs.declared.doctype.ExternalId.{ExternalId}
use Rattle.rox_markup.specs.declared.doctype.Definition.{Definition}
use Rattle.rox_markup.specs.declared.doctype.Definition.TheVariants as definition
use Rattle.rox_markup.specs.declared.doctype.EntityHead.{EntityHead}
use Rattle.rox_bytes.specs.ByteSets.{IsOfLetters}

abbrev pub request_view : ExternalId → Request
request_view e = record { public_id = text_view e.public_id; uri = e.uri.now }

abbrev pub definition_view : Definition → reading.Definition
definition_view (definition.Inner text) = reading.inner (replacement_view text)
definition_view (definition.Outer id) = reading.outer (request_view id)

abbrev pub head_view : EntityHead → reading.EntityHead
head_view h = record { parameter = h.parameter; name = h.name.now }

-- Reads a definition in quotes.
abbrev pub inner_at : List ℕ → ℕ → Read reading.Definition
inner_at src i = reading.quoted_at src i >>= λ x. Ok (reading.inner (record { source = take (i + 1 + length x.0) src; start = i + 1 }), x.1)

-- Reads a definition by an external identifier.
abbrev pub outer_at : (parameter : Bool) → List ℕ → ℕ → Read reading.Definition
outer_at parameter src i = reading.external_id_at src i >>= λ x. reading.notation_at parameter src x.1 >>= λ y. Ok (reading.outer x.0, y.1)

-- A declaration that is skipped is at `i`.
abbrev pub is_skipped_declaration : List ℕ → ℕ → Bool
is_skipped_declaration src i = at word.ElementStart src i || (at word.AttlistStart src i || at word.NotationStart src i)

-- Reads a declaration up to its `>`, in the document type declaration that starts at `start`.
abbrev pub skipped_declaration_at : (start : ℕ) → List ℕ → ℕ → Read (Unit {0})
skipped_declaration_at start src i =
    let e = byte_from (λ c. c == 62) src i in
    if nat_lt e (length src) then Ok (tt, e + 1) else Err (fault.UnknownToken start)

-- Reads the end of a document type declaration, from the `]` of its subset.
abbrev pub subset_end_at : List ℕ → ℕ → Read (Unit {0})
subset_end_at src i =
    let e = spaces_end src (i + 1) in
    if nat_le (length src) e then Err fault.UnexpectedEndOfStream
    else if slice_index src e == 62 then Ok (tt, e + 1)
    else Err (fault.InvalidChar2 due.End (slice_index src e) e)

-- Reads a value of an XML declaration up to the quote `quote` or a `<`.
abbrev pub up_to_quote : ℕ → List ℕ → ℕ → Read (List ℕ)
up_to_quote quote src i = chars_up_to (byte_from (λ c. c == quote || c == code "<") src i) src i

-- The word `w`, which is of letters, is at the cursor.
pub record StandsAsName (w : Word) (c : Cursor) : Type 0 where
  pub here : stands (word_text w) c.text.now c.pos ≡ true
  pub letters : IsOfLetters w

-- Reads a declaration at the start of a text, if it is there.
abbrev pub xml_decl_if : List ℕ → ℕ → Read (Unit {0})
xml_decl_if src i = if at word.XmlDeclStart src i then xml_decl_at src i else Ok (tt, i)

-- The replacement text of `answer`, or its first fault, is what is read of it.
abbrev pub IsReplacement : (answer : List ℕ) → Result Cursor Fault → Result (Option Replacement) Refusal → Type 0
IsReplacement answer (Ok text) read = read ≡ Ok (Some (replacement_view text))
IsReplacement answer (Err f) read = read ≡ Err (there answer f)
