-- Comments, processing instructions, CDATA sections, end tags, attributes and the declaration.
use Prim.Native.Char.{code}
use Rattle.std.specs.Prelude.{ℕ, ◌+◌, ◌-◌, ◌==◌, ◌||◌, List, Option, Ok, Err, length, slice_index, nat_le, if◌then◌else◌}
use Rattle.rox_grammar.specs.declared.fault.Due.TheVariants.{Space}
use Rattle.rox_grammar.specs.declared.fault.Fault.TheVariants.{InvalidChar2, InvalidString, UnexpectedEndOfStream, UnexpectedDeclaration, InvalidComment}
use Rattle.rox_grammar.specs.declared.fault.Word.{Word}
use Rattle.rox_grammar.specs.declared.fault.Word.TheVariants as word
use Rattle.rox_grammar.specs.declared.fault.Expected.TheVariants as expected
use Rattle.rox_grammar.specs.Chars.{is_space}
use Rattle.rox_grammar.specs.FixedTexts.{word_text, double_dash}
use Rattle.rox_grammar.specs.Search.{stands, byte_from, has_mark}
use Rattle.rox_grammar.specs.Written.{Name}
use Rattle.rox_grammar.specs.Tree.{none_if_empty}
use Rattle.rox_grammar.specs.Names.{spaces_end}
use Rattle.rox_reading.specs.Lexical.{Read, ◌>>=◌, byte_at, quote_at, name_at, qname_at, string_at, chars_up_to, text_to}

-- Reads a comment from `<!--` on.
unfoldable pub comment_at : List ℕ → ℕ → Read (List ℕ)
comment_at src i = do
  text ← text_to expected.CommentEnd src (i + 4)
  if has_mark double_dash text.0 || slice_index text.0 (length text.0 - 1) == code "-" then Err (InvalidComment i) else Ok (text.0, text.1)

pub record Instruction : Type 0 where
  pub target : List ℕ
  pub value : Option (List ℕ)

-- Reads a processing instruction from `<?` on.
unfoldable pub instruction_at : List ℕ → ℕ → Read Instruction
instruction_at src i =
    if stands (word_text word.XmlDeclStart) src i then Err (UnexpectedDeclaration i)
    else name_at src (i + 2) >>= λ target. text_to expected.PIEnd src (spaces_end src target.1) >>= λ value. Ok (record { target = target.0; value = none_if_empty value.0 }, value.1)

-- Reads a CDATA section from `<![CDATA[` on.
unfoldable pub cdata_at : List ℕ → ℕ → Read (List ℕ)
cdata_at src i = text_to expected.CDataEnd src (i + 9)

pub record EndTag : Type 0 where
  pub name : Name
  pub name_end : ℕ

-- Reads an end tag from `</` on.
unfoldable pub end_tag_at : List ℕ → ℕ → Read EndTag
end_tag_at src i = do
  name ← qname_at src (i + 2)
  end ← byte_at (code ">") src (spaces_end src name.1)
  Ok (record { name = name.0; name_end = name.1 }, end.1)

-- Reads a name, Eq, and a value in quotes.
unfoldable pub pair_at : List ℕ → ℕ → Read (Unit {0})
pair_at src i = do
  name ← qname_at src i
  equals ← byte_at (code "=") src (spaces_end src name.1)
  quote ← quote_at src (spaces_end src equals.1)
  value ← chars_up_to (byte_from (λ c. c == quote.0 || c == code "<") src quote.1) src quote.1
  byte_at quote.0 src value.1

-- Reads white space. Before `?>` and at the end of the source it may be empty.
unfoldable pub gap_at : List ℕ → ℕ → Read (Unit {0})
gap_at src i =
    if nat_le (length src) i then Ok (tt, i)
    else if is_space (slice_index src i) then Ok (tt, spaces_end src i)
    else if stands (word_text word.PIEnd) src i then Ok (tt, i)
    else Err (InvalidChar2 Space (slice_index src i) i)

-- Reads a pair and the white space after it, if the word is at `i`.
unfoldable pub pair_if : Word → List ℕ → ℕ → Read (Unit {0})
pair_if w src i =
    if stands (word_text w) src i then (pair_at src i >>= λ x. gap_at src x.1) else Ok (tt, i)

-- Reads an XML declaration from `<?xml` on.
unfoldable pub xml_decl_at : List ℕ → ℕ → Read (Unit {0})
xml_decl_at src i =
    if stands (word_text word.Version) src (spaces_end src (i + 5)) then
    (pair_if word.Version src (spaces_end src (i + 5)) >>= λ version. pair_if word.Encoding src version.1 >>= λ encoding.
    (if stands (word_text word.Standalone) src encoding.1 then pair_at src encoding.1 else Ok (tt, encoding.1)) >>= λ standalone.
    string_at expected.PIEnd src (spaces_end src standalone.1))
    else Err (InvalidString expected.Version (spaces_end src (i + 5)))

-- An attribute whose value is not read yet. Its last quote is at `value_end`.
pub record RawAttribute : Type 0 where
  pub start : ℕ
  pub name : Name
  pub name_end : ℕ
  pub value_start : ℕ
  pub value_end : ℕ

-- Reads Chars up to the quote or a `<`. One of the two must follow.
unfoldable pub raw_value_at : ℕ → List ℕ → ℕ → Read (List ℕ)
raw_value_at quote src i =
    let end = byte_from (λ c. c == quote || c == code "<") src i in
    if nat_le (length src) end then Err UnexpectedEndOfStream else chars_up_to end src i

-- Reads a name, `=`, and a value in quotes.
unfoldable pub attribute_at : List ℕ → ℕ → Read RawAttribute
attribute_at src i = do
  name ← qname_at src i
  equals ← byte_at (code "=") src (spaces_end src name.1)
  quote ← quote_at src (spaces_end src equals.1)
  value ← raw_value_at quote.0 src quote.1
  done ← byte_at quote.0 src value.1
  Ok (record { start = i; name = name.0; name_end = name.1; value_start = quote.1; value_end = value.1 }, done.1)

-- The next item of a start tag.
pub data TagItem : Type 0 where
  more : RawAttribute → TagItem
  opened : TagItem
  closed : TagItem

-- Reads white space, and then an attribute or the end of the tag.
unfoldable pub tag_item_at : List ℕ → ℕ → Read TagItem
tag_item_at src i =
    let j = spaces_end src i in
    if nat_le (length src) j then Err UnexpectedEndOfStream
    else if slice_index src j == code "/" then (byte_at (code ">") src (j + 1) >>= λ x. Ok (closed, x.1))
    else if slice_index src j == code ">" then Ok (opened, j + 1)
    else if j == i then Err (InvalidChar2 Space (slice_index src j) j)
    else (attribute_at src j >>= λ x. Ok (more x.0, x.1))
