-- Names as they are written: how they are compared, and where their parts are.
use Rattle.std.specs.Prelude.{ℕ, ◌+◌, ◌-◌, Bool, ◌&&◌, bytes_eq, length}
use Rattle.rox_grammar.specs.declared.fault.Span.{Span}
use Rattle.rox_grammar.specs.Written.{Name}

-- XML 3 (Element Type Match): both names are equal as they are written.
abbrev pub same_qname : Name → Name → Bool
same_qname m n = bytes_eq m.prefix n.prefix && bytes_eq m.local n.local

-- The span of the local part of a name that ends at `end`.
abbrev pub local_span : Name → ℕ → Span
local_span n end = record { start = end - length n.local; end = end }

-- The span of the prefix of a name that starts at `start`.
abbrev pub prefix_span : Name → ℕ → Span
prefix_span n start = record { start = start; end = start + length n.prefix }
