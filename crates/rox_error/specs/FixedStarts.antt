-- The messages whose text before the position is the same for all errors of a kind.
use Rattle.std.specs.Prelude.{◌≡◌, ⊤, ℕ, List, Some}
use Rattle.rox_error.specs.Messages.{message_start}
use Rattle.rox_error.specs.declared.error.Error.{Error}
use Rattle.rox_error.specs.declared.error.Error.TheVariants as error

-- The text is the start of the error's message, up to the position. It may be any text for the nine kinds whose message has a
-- name, a character or a text there: other functions write those messages.
abbrev pub IsFixedStart : Error → List ℕ → Type 0
IsFixedStart (error.DuplicatedNamespace n p) text = ⊤
IsFixedStart (error.UnknownNamespace n p) text = ⊤
IsFixedStart (error.UnexpectedCloseTag e a p) text = ⊤
IsFixedStart (error.UnknownEntityReference n p) text = ⊤
IsFixedStart (error.DuplicatedAttribute n p) text = ⊤
IsFixedStart (error.NonXmlChar c p) text = ⊤
IsFixedStart (error.InvalidChar e a p) text = ⊤
IsFixedStart (error.InvalidChar2 e a p) text = ⊤
IsFixedStart (error.InvalidString s p) text = ⊤
IsFixedStart other text = message_start other ≡ Some text
