-- What is required at an offset within a construct, and the fault if it is missing.
use Prim.Native.Char.{code}
use Rattle.std.specs.Prelude.{◌≡◌, ◌≢◌, ◌⊎◌, ℕ, ◌+◌, ◌<◌, ◌≤◌, ◌==◌, ◌||◌, Bool, true, false, List, length, take, codes}
use Rattle.rox_grammar.specs.declared.fault.Expected.{Expected}
use Rattle.rox_grammar.specs.declared.fault.Expected.TheVariants as expected
use Rattle.rox_grammar.specs.declared.fault.Due.{Due}
use Rattle.rox_grammar.specs.declared.fault.Due.TheVariants as due
use Rattle.rox_grammar.specs.declared.fault.Fault.{Fault}
use Rattle.rox_grammar.specs.declared.fault.Fault.TheVariants as fault
use Rattle.rox_grammar.specs.Chars.{is_space, is_char}
use Rattle.rox_grammar.specs.ExpectedTexts.{expected_text}
use Rattle.rox_grammar.specs.Runs.{run_end, StandsAt}
use Rattle.rox_grammar.specs.Search.{stands, mark_from, byte_from}
use Rattle.rox_grammar.specs.Written.{Name}
use Rattle.rox_grammar.specs.Names.{byte, spaces_end, IsName, IsQName}
use Rattle.rox_grammar.specs.Doctype.{Request, IsQuoted, IsSpace, IsExternalID, IsKind, BeginsEntity, BeginsDoctype}
use Rattle.rox_grammar.specs.Constructs.{text_at, AreChars, IsEq, IsQuote, PairAt, DeclarationTo}

-- What may be required in a construct.
pub data DueItem : Type 0 where
  a_name : DueItem
  a_qname : DueItem
  a_byte : ℕ → DueItem
  a_text : Expected → DueItem
  -- A byte of this kind is required.
  one_of : Due → DueItem
  -- Chars are required up to this offset.
  chars_to : ℕ → DueItem

-- The bytes of each kind. `SubsetOrEnd` is required after the head of a document type declaration, and `End` after its subset.
-- `EntityDefinition` starts a literal or an external identifier.
abbrev pub is_of : Due → ℕ → Bool
is_of due.Space b = is_space b
is_of due.Quote b = b == code "'" || b == code "\""
is_of due.SubsetOrEnd b = b == code "[" || b == code ">"
is_of due.End b = b == code ">"
is_of due.EntityDefinition b = (b == code "'" || b == code "\"") || (b == code "S" || b == code "P")

-- The item is required at `p` and is missing there, which is this fault.
pub data IsMissing (src : List ℕ) (p : ℕ) : DueItem → Fault → Type 0 where
  no_name : ((j : ℕ) → IsName src p j → ⊥) → IsMissing src p a_name (fault.InvalidName p)
  no_qname : ((name : Name) (j : ℕ) → IsQName src p name j → ⊥) → IsMissing src p a_qname (fault.InvalidName p)
  other_byte : (b : ℕ) → p < length src → byte src p ≢ b → IsMissing src p (a_byte b) (fault.InvalidChar b (byte src p) p)
  other_text : (text : Expected) → stands (expected_text text) src p ≡ false → IsMissing src p (a_text text) (fault.InvalidString text p)
  none_of : (kind : Due) → p < length src → is_of kind (byte src p) ≡ false → IsMissing src p (one_of kind) (fault.InvalidChar2 kind (byte src p) p)
  -- XML 2.2 [2]: the longest run of Chars ends at `q`, before `e`, with the character `c` after it.
  no_char : (e q c : ℕ) → q ≡ run_end is_char (take e src) p → q < e → StandsAt c src q → is_char c ≡ false → IsMissing src p (chars_to e) (fault.NonXmlChar c q)
  -- The byte `S` or `P` starts neither `SYSTEM` nor `PUBLIC`.
  no_external_id : (byte src p ≡ code "S") ⊎ (byte src p ≡ code "P") → text_at "SYSTEM" src p ≡ false → text_at "PUBLIC" src p ≡ false → IsMissing src p (one_of due.EntityDefinition) (fault.InvalidExternalID p)
  -- The source ends where a byte is required.
  no_byte : (b : ℕ) → length src ≤ p → IsMissing src p (a_byte b) fault.UnexpectedEndOfStream
  none_left : (kind : Due) → length src ≤ p → IsMissing src p (one_of kind) fault.UnexpectedEndOfStream

-- One of the items that are required within a construct is missing, which is this fault.
abbrev pub Misses : List ℕ → (DueIn : ℕ → DueItem → Type 0) → Fault → Type 0
Misses src DueIn f = (p : ℕ) × (t : DueItem) × DueIn p t × IsMissing src p t f

-- XML 2.5 [15], 2.6 [16], 2.7 [18]: what is required in the text of a comment, processing instruction or CDATA section. The text
-- starts at `s`, and `end` is the mark after it.
pub data DueInText (end : Expected) (src : List ℕ) (s : ℕ) : (p : ℕ) → DueItem → Type 0 where
  its_chars : DueInText end src s s (chars_to (mark_from (expected_text end) src s))
  its_end : AreChars src s (mark_from (expected_text end) src s) → DueInText end src s (mark_from (expected_text end) src s) (a_text end)

-- XML 2.6 [16]: what is required in the processing instruction that starts at `i`.
pub data DueInPI (src : List ℕ) (i : ℕ) : (p : ℕ) → DueItem → Type 0 where
  its_target : DueInPI src i (i + 2) a_name
  its_value : (n p : ℕ) (t : DueItem) → IsName src (i + 2) n → DueInText expected.PIEnd src (spaces_end src n) p t → DueInPI src i p t

-- XML 3.1 [42]: what is required in the end tag that starts at `i`.
pub data DueInEnd (src : List ℕ) (i : ℕ) : (p : ℕ) → DueItem → Type 0 where
  its_name : text_at "</" src i ≡ true → DueInEnd src i (i + 2) a_qname
  its_end : (name : Name) (n : ℕ) → text_at "</" src i ≡ true → IsQName src (i + 2) name n → DueInEnd src i (spaces_end src n) (a_byte (code ">"))

-- The end of a value whose first quote is at `v`: the next quote of its kind, or the next `<`.
abbrev pub value_end : List ℕ → ℕ → ℕ
value_end src v = byte_from (λ c. c == byte src v || c == code "<") src (v + 1)

-- XML 3.1 [41], 2.8 [24]: what is required in a name, Eq and a literal, from `i` on.
pub data DueInPair (src : List ℕ) (i : ℕ) : (p : ℕ) → DueItem → Type 0 where
  its_name : DueInPair src i i a_qname
  equals : (name : Name) (n : ℕ) → IsQName src i name n → DueInPair src i (spaces_end src n) (a_byte (code "="))
  opening : (name : Name) (n v : ℕ) → IsQName src i name n → IsEq src n v → DueInPair src i v (one_of due.Quote)
  its_value : (name : Name) (n v : ℕ) → IsQName src i name n → IsEq src n v → IsQuote src v → DueInPair src i (v + 1) (chars_to (value_end src v))
  -- If neither a quote nor a `<` ends the value, both rows may hold: an attribute is then refused for its end, and a pair of a
  -- declaration for its first character that is not a Char.
  closing : (name : Name) (n v : ℕ) → IsQName src i name n → IsEq src n v → IsQuote src v
      → (length src ≤ value_end src v) ⊎ AreChars src (v + 1) (value_end src v) → DueInPair src i (value_end src v) (a_byte (byte src v))

-- XML 2.8 [23]: what is required in the declaration that starts at `i`. White space is required after a pair of `version` or
-- `encoding`, unless `?>` or the end of the source follows.
pub data DueInXmlDecl (src : List ℕ) (i : ℕ) : (p : ℕ) → DueItem → Type 0 where
  its_version : DueInXmlDecl src i (spaces_end src (i + 5)) (a_text expected.Version)
  in_pair : (text : List ℕ) (j p : ℕ) (t : DueItem) → DeclarationTo src i text j → stands text src j ≡ true → DueInPair src j p t → DueInXmlDecl src i p t
  behind_pair : (text : List ℕ) (j : ℕ) (pair : PairAt src j) → DeclarationTo src i text j → stands text src j ≡ true → text ≢ codes "standalone"
      → pair.end < length src → text_at "?>" src pair.end ≡ false → DueInXmlDecl src i pair.end (one_of due.Space)
  behind_standalone : (j : ℕ) (pair : PairAt src j) → DeclarationTo src i (codes "standalone") j → text_at "standalone" src j ≡ true
      → DueInXmlDecl src i (spaces_end src pair.end) (a_text expected.PIEnd)
  its_end : (j : ℕ) → DeclarationTo src i (codes "standalone") j → text_at "standalone" src j ≡ false → DueInXmlDecl src i j (a_text expected.PIEnd)

-- XML 2.3 [9], [11], [12]: what is required in white space and a literal of any characters but the quote, from `i` on.
pub data DueInLiteral (src : List ℕ) (i : ℕ) : (p : ℕ) → DueItem → Type 0 where
  space_before : DueInLiteral src i i (one_of due.Space)
  its_quote : (s : ℕ) → IsSpace src i s → DueInLiteral src i s (one_of due.Quote)
  its_end : (s : ℕ) → IsSpace src i s → IsQuote src s → DueInLiteral src i (byte_from (λ c. c == byte src s) src (s + 1)) (a_byte (byte src s))

-- XML 4.2.2 [75]: what is required in the external identifier that starts at `i`, in its first literal or its second.
pub data DueInExternalID (src : List ℕ) (i : ℕ) : (p : ℕ) → DueItem → Type 0 where
  first : (p : ℕ) (t : DueItem) → (text_at "SYSTEM" src i ≡ true) ⊎ (text_at "PUBLIC" src i ≡ true) → DueInLiteral src (i + 6) p t → DueInExternalID src i p t
  second : (s e j p : ℕ) (t : DueItem) → text_at "PUBLIC" src i ≡ true → IsSpace src (i + 6) s → IsQuoted src s e j → DueInLiteral src j p t → DueInExternalID src i p t

-- XML 4.2 [70]: what is required in the entity declaration that starts at `i`, up to the end of its definition.
pub data DueInEntity (src : List ℕ) (i : ℕ) : (p : ℕ) → DueItem → Type 0 where
  space_before : DueInEntity src i (i + 8) (one_of due.Space)
  space_of_kind : (k : ℕ) → IsSpace src (i + 8) k → byte src k ≡ code "%" → DueInEntity src i (k + 1) (one_of due.Space)
  its_name : (k n : ℕ) (parameter : Bool) → IsSpace src (i + 8) k → IsKind src k parameter n → DueInEntity src i n a_name
  space_behind : (k n m : ℕ) (parameter : Bool) → IsSpace src (i + 8) k → IsKind src k parameter n → IsName src n m → DueInEntity src i m (one_of due.Space)
  its_definition : (parameter : Bool) (n m d : ℕ) → BeginsEntity src i parameter n m d → DueInEntity src i d (one_of due.EntityDefinition)
  its_literal : (parameter : Bool) (n m d : ℕ) → BeginsEntity src i parameter n m d → IsQuote src d
      → DueInEntity src i (byte_from (λ c. c == byte src d) src (d + 1)) (a_byte (byte src d))
  its_external_id : (parameter : Bool) (n m d p : ℕ) (t : DueItem) → BeginsEntity src i parameter n m d → DueInExternalID src d p t → DueInEntity src i p t
  space_of_notation : (n m d e : ℕ) (request : Request) → BeginsEntity src i false n m d → IsExternalID src d request e → text_at "NDATA" src (spaces_end src e) ≡ true
      → DueInEntity src i (spaces_end src e + 5) (one_of due.Space)
  -- At the end of the source the name is not required.
  its_notation : (n m d e s : ℕ) (request : Request) → BeginsEntity src i false n m d → IsExternalID src d request e → text_at "NDATA" src (spaces_end src e) ≡ true
      → IsSpace src (spaces_end src e + 5) s → s < length src → DueInEntity src i s a_name

-- XML 2.8 [28]: what is required in the document type declaration that starts at `i`, up to its subset.
pub data DueInDoctype (src : List ℕ) (i : ℕ) : (p : ℕ) → DueItem → Type 0 where
  space_before : DueInDoctype src i (i + 9) (one_of due.Space)
  -- At the end of the source the name is not required.
  its_name : (n : ℕ) → IsSpace src (i + 9) n → n < length src → DueInDoctype src i n a_name
  its_external_id : (n m p : ℕ) (t : DueItem) → IsSpace src (i + 9) n → IsName src n m → DueInExternalID src (spaces_end src m) p t → DueInDoctype src i p t
  its_end : (s : ℕ) → BeginsDoctype src i s → DueInDoctype src i s (one_of due.SubsetOrEnd)
