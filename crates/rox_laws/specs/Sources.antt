-- The sources in which faults are: the text, a replacement text that a literal of the text declares, and a resolver's answer.
use Rattle.std.specs.Prelude.{◌≡◌, ◌⊎◌, ℕ, List, Some, Contains, take, drop}
use Rattle.rox_grammar.specs.TextStart.{after_bom, MayHaveXmlDecl}
use Rattle.rox_grammar.specs.Doctype.{Request, Asked, IsQuoted}

-- XML 4.2 [73]: the source is the text up to the last quote of a literal in it. So its offsets are those of the text.
pub record IsLiteralIn (text source : List ℕ) : Type 0 where
  pub start : ℕ
  pub end : ℕ
  pub next : ℕ
  pub quoted : IsQuoted text start end next
  pub cut_off : source ≡ take end text

-- XML 4.3.1: the source is a text that the resolver answered, or what follows the byte order mark and the declaration in it.
pub record IsAnswerIn (asked : List Asked) (source : List ℕ) : Type 0 where
  pub request : Request
  pub answer : List ℕ
  pub given : Contains asked (record { request = request; answer = Some answer })
  pub part : (source ≡ answer) ⊎ ((d : ℕ) × MayHaveXmlDecl answer (after_bom answer) d × (source ≡ drop d answer))
