-- The error that a fault of a source becomes.
use Rattle.std.specs.Prelude.{◌≡◌, ◌⊎◌, ℕ, List, codes, string_bytes, String, slice_range}
use Rattle.std.specs.Borrow.{Bor}
use Rattle.std.specs.declared.alloc.Global.{Global}
use Rattle.rox_grammar.specs.declared.fault.Span.{Span}
use Rattle.rox_grammar.specs.declared.fault.Due.{Due}
use Rattle.rox_grammar.specs.declared.fault.Due.TheVariants as due
use Rattle.rox_grammar.specs.declared.fault.Fault.{Fault}
use Rattle.rox_grammar.specs.declared.fault.Fault.TheVariants as fault
use Rattle.rox_grammar.specs.ExpectedTexts.{expected_text}
use Rattle.rox_grammar.specs.Positions.{row_of, col_of}
use Rattle.rox_grammar.specs.Spans.{IsTextSpan}
use Rattle.rox_error.specs.declared.position.TextPos.{TextPos}
use Rattle.rox_error.specs.declared.error.Error.{Error}
use Rattle.rox_error.specs.declared.error.Error.TheVariants as error

-- The row and the column of the offset `i` of a source.
abbrev pub position_at : List ℕ → ℕ → TextPos
position_at src i = record { row = row_of src i; col = col_of src i }

-- The words for what is required.
abbrev pub due_text : Due → List ℕ
due_text due.Space = codes "a whitespace"
due_text due.Quote = codes "a quote"
due_text due.SubsetOrEnd = codes "'[' or '>'"
due_text due.End = codes "'>'"
due_text due.EntityDefinition = codes "a quote, SYSTEM or PUBLIC"

-- If the span is a slice of text, the name is that slice.
abbrev pub Names : List ℕ → Span → String Global → Type 0
Names src span name = IsTextSpan src span → string_bytes name ≡ slice_range src span.start span.end

-- The error is `kind` of the name, or `OutOfMemory` because there is no memory for the name.
abbrev pub IsErrorWithName : List ℕ → Span → (String Global → Error) → Error → Type 0
IsErrorWithName src span kind e = ((n : String Global) × Names src span n × (e ≡ kind n)) ⊎ (e ≡ error.OutOfMemory)

-- Like `IsErrorWithName`, but with two names.
abbrev pub IsErrorWithNames : List ℕ → Span → Span → (String Global → String Global → Error) → Error → Type 0
IsErrorWithNames src one other kind e = ((n : String Global) × (m : String Global) × Names src one n × Names src other m × (e ≡ kind n m)) ⊎ (e ≡ error.OutOfMemory)

-- The error that a fault of the source becomes: its kind, its position, and what it names. It may be `OutOfMemory` instead only
-- if the fault names a text of the source.
abbrev pub IsErrorOf : List ℕ → Fault → Error → Type 0
IsErrorOf src (fault.InvalidXmlPrefixUri at) e = e ≡ error.InvalidXmlPrefixUri (position_at src at)
IsErrorOf src (fault.UnexpectedXmlUri at) e = e ≡ error.UnexpectedXmlUri (position_at src at)
IsErrorOf src (fault.UnexpectedXmlnsUri at) e = e ≡ error.UnexpectedXmlnsUri (position_at src at)
IsErrorOf src (fault.InvalidElementNamePrefix at) e = e ≡ error.InvalidElementNamePrefix (position_at src at)
IsErrorOf src (fault.DuplicatedNamespace name at) e = IsErrorWithName src name (λ n. error.DuplicatedNamespace n (position_at src at)) e
IsErrorOf src (fault.UnknownNamespace name at) e = IsErrorWithName src name (λ n. error.UnknownNamespace n (position_at src at)) e
IsErrorOf src (fault.UnexpectedCloseTag expected actual at) e = IsErrorWithNames src expected actual (λ n m. error.UnexpectedCloseTag n m (position_at src at)) e
IsErrorOf src (fault.UnexpectedEntityCloseTag at) e = e ≡ error.UnexpectedEntityCloseTag (position_at src at)
IsErrorOf src (fault.UnknownEntityReference name at) e = IsErrorWithName src name (λ n. error.UnknownEntityReference n (position_at src at)) e
IsErrorOf src (fault.MalformedEntityReference at) e = e ≡ error.MalformedEntityReference (position_at src at)
IsErrorOf src (fault.EntityReferenceLoop at) e = e ≡ error.EntityReferenceLoop (position_at src at)
IsErrorOf src (fault.InvalidAttributeValue at) e = e ≡ error.InvalidAttributeValue (position_at src at)
IsErrorOf src (fault.DuplicatedAttribute name at) e = IsErrorWithName src name (λ n. error.DuplicatedAttribute n (position_at src at)) e
IsErrorOf src fault.NoRootNode e = e ≡ error.NoRootNode
IsErrorOf src fault.UnclosedRootNode e = e ≡ error.UnclosedRootNode
IsErrorOf src (fault.UnexpectedDeclaration at) e = e ≡ error.UnexpectedDeclaration (position_at src at)
IsErrorOf src fault.DtdDetected e = e ≡ error.DtdDetected
IsErrorOf src fault.NodesLimitReached e = e ≡ error.NodesLimitReached
IsErrorOf src fault.AttributesLimitReached e = e ≡ error.AttributesLimitReached
IsErrorOf src fault.NamespacesLimitReached e = e ≡ error.NamespacesLimitReached
IsErrorOf src (fault.InvalidName at) e = e ≡ error.InvalidName (position_at src at)
IsErrorOf src (fault.NonXmlChar c at) e = e ≡ error.NonXmlChar c (position_at src at)
IsErrorOf src (fault.InvalidChar expected actual at) e = e ≡ error.InvalidChar expected actual (position_at src at)
IsErrorOf src (fault.InvalidChar2 kind actual at) e = (words : Bor (List ℕ)) × (words.now ≡ due_text kind) × (e ≡ error.InvalidChar2 words actual (position_at src at))
IsErrorOf src (fault.InvalidString text at) e = (words : Bor (List ℕ)) × (words.now ≡ expected_text text) × (e ≡ error.InvalidString words (position_at src at))
IsErrorOf src (fault.InvalidExternalID at) e = e ≡ error.InvalidExternalID (position_at src at)
IsErrorOf src (fault.InvalidComment at) e = e ≡ error.InvalidComment (position_at src at)
IsErrorOf src (fault.InvalidCharacterData at) e = e ≡ error.InvalidCharacterData (position_at src at)
IsErrorOf src (fault.UnknownToken at) e = e ≡ error.UnknownToken (position_at src at)
IsErrorOf src fault.UnexpectedEndOfStream e = e ≡ error.UnexpectedEndOfStream
