-- The fixed texts that reading searches for.
use Rattle.std.specs.Prelude.{ℕ, Bool, List, codes}
use Rattle.rox_grammar.specs.declared.fault.Word.{Word}
use Rattle.rox_grammar.specs.declared.fault.Word.TheVariants as word
use Rattle.rox_grammar.specs.Search.{stands}

abbrev pub word_text : Word → List ℕ
word_text word.CommentStart = codes "<!--"
word_text word.CommentEnd = codes "-->"
word_text word.PIStart = codes "<?"
word_text word.PIEnd = codes "?>"
word_text word.XmlDeclStart = codes "<?xml "
word_text word.CDataStart = codes "<![CDATA["
word_text word.CDataEnd = codes "]]>"
word_text word.EndTagStart = codes "</"
word_text word.MarkupStart = codes "<!"
word_text word.DoctypeStart = codes "<!DOCTYPE"
word_text word.Version = codes "version"
word_text word.Encoding = codes "encoding"
word_text word.Standalone = codes "standalone"
word_text word.System = codes "SYSTEM"
word_text word.Public = codes "PUBLIC"
word_text word.EntityStart = codes "<!ENTITY"
word_text word.ElementStart = codes "<!ELEMENT"
word_text word.AttlistStart = codes "<!ATTLIST"
word_text word.NotationStart = codes "<!NOTATION"
word_text word.NData = codes "NDATA"
word_text word.Xml = codes "xml"
word_text word.Xmlns = codes "xmlns"

-- Whether the fixed text is at `i`.
abbrev pub at : Word → List ℕ → ℕ → Bool
at w src i = stands (word_text w) src i

-- Two dashes, which a comment's text may not contain (XML 2.5).
abbrev pub double_dash : List ℕ
double_dash = codes "--"
