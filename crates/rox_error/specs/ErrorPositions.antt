-- The position of an error.
use Rattle.std.specs.Prelude.{Option, Some, None}
use Rattle.rox_error.specs.declared.position.TextPos.{TextPos}
use Rattle.rox_error.specs.declared.error.Error.{Error}
use Rattle.rox_error.specs.declared.error.Error.TheVariants as error

-- The position that an error has, or `None` if it has none.
abbrev pub kept_position : Error → Option TextPos
kept_position (error.InvalidXmlPrefixUri p) = Some p
kept_position (error.UnexpectedXmlUri p) = Some p
kept_position (error.UnexpectedXmlnsUri p) = Some p
kept_position (error.InvalidElementNamePrefix p) = Some p
kept_position (error.DuplicatedNamespace n p) = Some p
kept_position (error.UnknownNamespace n p) = Some p
kept_position (error.UnexpectedCloseTag e a p) = Some p
kept_position (error.UnexpectedEntityCloseTag p) = Some p
kept_position (error.UnknownEntityReference n p) = Some p
kept_position (error.MalformedEntityReference p) = Some p
kept_position (error.EntityReferenceLoop p) = Some p
kept_position (error.InvalidAttributeValue p) = Some p
kept_position (error.DuplicatedAttribute n p) = Some p
kept_position (error.UnexpectedDeclaration p) = Some p
kept_position (error.InvalidName p) = Some p
kept_position (error.NonXmlChar c p) = Some p
kept_position (error.InvalidChar e a p) = Some p
kept_position (error.InvalidChar2 e a p) = Some p
kept_position (error.InvalidString s p) = Some p
kept_position (error.InvalidExternalID p) = Some p
kept_position (error.EntityResolver p m) = Some p
kept_position (error.InvalidComment p) = Some p
kept_position (error.InvalidCharacterData p) = Some p
kept_position (error.UnknownToken p) = Some p
kept_position other = None

-- The position, or 1:1 if there is none.
abbrev pub position_or_first : Option TextPos → TextPos
position_or_first None = record { row = 1; col = 1 }
position_or_first (Some p) = p

-- The position of an error, or 1:1 if it has none.
abbrev pub position_of : Error → TextPos
position_of e = position_or_first (kept_position e)
