-- The names in a fault, which are spans of the source.
use Rattle.std.specs.Prelude.{◌≤◌, ℕ, List, IsCharBoundary}
use Rattle.rox_grammar.specs.declared.fault.Span.{Span}
use Rattle.rox_grammar.specs.declared.fault.Fault.{Fault}
use Rattle.rox_grammar.specs.declared.fault.Fault.TheVariants as fault

-- The span starts and ends between two characters of the source.
abbrev pub IsTextSpan : List ℕ → Span → Type 0
IsTextSpan src span = (span.start ≤ span.end) × IsCharBoundary src span.start × IsCharBoundary src span.end

-- Each name in the fault is a text of the source.
abbrev pub NamesText : List ℕ → Fault → Type 0
NamesText src (fault.DuplicatedNamespace name at) = IsTextSpan src name
NamesText src (fault.UnknownNamespace name at) = IsTextSpan src name
NamesText src (fault.UnexpectedCloseTag expected actual at) = IsTextSpan src expected × IsTextSpan src actual
NamesText src (fault.UnknownEntityReference name at) = IsTextSpan src name
NamesText src (fault.DuplicatedAttribute name at) = IsTextSpan src name
NamesText src f = Unit {0}
