-- The texts that a position and an error print.
use Rattle.std.specs.Prelude.{ℕ, List, [], ◌++◌, Option, Some, None, codes, if◌then◌else◌, ◌==◌, decimal, string_bytes, encode_utf8}
use Rattle.std.specs.Fmt.{◌++?◌, debug_char}
use Rattle.rox_error.specs.ErrorPositions.{kept_position}
use Rattle.rox_error.specs.declared.position.TextPos.{TextPos}
use Rattle.rox_error.specs.declared.error.Error.{Error}
use Rattle.rox_error.specs.declared.error.Error.TheVariants as error

-- The row, a colon and the column.
abbrev pub position_text : TextPos → List ℕ
position_text p = decimal p.row ++ (codes ":" ++ decimal p.col)

-- The position in a message, or nothing if there is none.
abbrev pub place_text : Option TextPos → List ℕ
place_text None = []
place_text (Some p) = codes " at " ++ position_text p

-- A character in quotes, as its debug form has it. XML 2.2 [2]: of the characters past ASCII only U+FFFE and U+FFFF are not
-- Chars, so their forms are given here.
abbrev pub quoted : ℕ → Option (List ℕ)
quoted c = if c == 65534 then Some (codes "'\\u{fffe}'") else if c == 65535 then Some (codes "'\\u{ffff}'") else debug_char c

-- The message of an error before its position. It is `Some` for each error that parsing returns. For `NonXmlChar` it is `Some`
-- for each character that is not a Char.
unfoldable pub message_start : Error → Option (List ℕ)
message_start (error.InvalidXmlPrefixUri p) = Some (codes "'xml' namespace prefix mapped to wrong URI")
message_start (error.UnexpectedXmlUri p) = Some (codes "the 'xml' namespace URI is used for not 'xml' prefix")
message_start (error.UnexpectedXmlnsUri p) = Some (codes "the 'xmlns' URI is used")
message_start (error.InvalidElementNamePrefix p) = Some (codes "the 'xmlns' prefix is used")
message_start (error.DuplicatedNamespace n p) = Some (codes "namespace '" ++ (string_bytes n ++ codes "'"))
message_start (error.UnknownNamespace n p) = Some (codes "an unknown namespace prefix '" ++ (string_bytes n ++ codes "'"))
message_start (error.UnexpectedCloseTag e a p) = Some (codes "expected '" ++ (string_bytes e ++ (codes "' tag, not '" ++ (string_bytes a ++ codes "'"))))
message_start (error.UnexpectedEntityCloseTag p) = Some (codes "unexpected close tag")
message_start (error.UnknownEntityReference n p) = Some (codes "unknown entity reference '" ++ (string_bytes n ++ codes "'"))
message_start (error.MalformedEntityReference p) = Some (codes "malformed entity reference")
message_start (error.EntityReferenceLoop p) = Some (codes "a possible entity reference loop is detected")
message_start (error.InvalidAttributeValue p) = Some (codes "unescaped '<' found")
message_start (error.DuplicatedAttribute n p) = Some (codes "attribute '" ++ (string_bytes n ++ codes "'"))
message_start error.NoRootNode = Some (codes "the document does not have a root node")
message_start error.UnclosedRootNode = Some (codes "the root node was opened but never closed")
message_start (error.UnexpectedDeclaration p) = Some (codes "unexpected XML declaration")
message_start error.DtdDetected = Some (codes "XML with DTD detected")
message_start error.NodesLimitReached = Some (codes "nodes limit reached")
message_start error.AttributesLimitReached = Some (codes "more than 2^32 attributes were parsed")
message_start error.NamespacesLimitReached = Some (codes "more than 2^16 unique namespaces were parsed")
message_start (error.InvalidName p) = Some (codes "invalid name token")
message_start (error.NonXmlChar c p) = Some (codes "a non-XML character ") ++? quoted c ++? Some (codes " found")
message_start (error.InvalidChar e a p) = Some (codes "expected '" ++ (encode_utf8 e ++ (codes "' not '" ++ (encode_utf8 a ++ codes "'"))))
message_start (error.InvalidChar2 e a p) = Some (codes "expected " ++ (e.now ++ (codes " not '" ++ (encode_utf8 a ++ codes "'"))))
message_start (error.InvalidString s p) = Some (codes "expected '" ++ (s.now ++ codes "'"))
message_start (error.InvalidExternalID p) = Some (codes "invalid ExternalID")
message_start (error.EntityResolver p m) = Some (codes "entity resolver failed")
message_start (error.InvalidComment p) = Some (codes "comment")
message_start (error.InvalidCharacterData p) = Some (codes "']]>'")
message_start (error.UnknownToken p) = Some (codes "unknown token")
message_start error.UnexpectedEndOfStream = Some (codes "unexpected end of stream")
message_start error.OutOfMemory = Some (codes "out of memory")

-- The message of an error after its position.
unfoldable pub message_end : Error → List ℕ
message_end (error.UnexpectedXmlnsUri p) = codes ", but it must not be declared"
message_end (error.InvalidElementNamePrefix p) = codes ", but it must not be"
message_end (error.DuplicatedNamespace n p) = codes " is already defined"
message_end (error.DuplicatedAttribute n p) = codes " is already defined"
message_end (error.EntityResolver p m) = codes ": " ++ string_bytes m
message_end (error.InvalidComment p) = codes " contains '--'"
message_end (error.InvalidCharacterData p) = codes " is not allowed inside a character data"
message_end other = []

-- The message of an error, without its position.
abbrev pub message : Error → Option (List ℕ)
message e = message_start e ++? Some (message_end e)

-- The message of an error, with its position if it has one.
abbrev pub message_with_position : Error → Option (List ℕ)
message_with_position e = message_start e ++? (Some (place_text (kept_position e)) ++? Some (message_end e))
