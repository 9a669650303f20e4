-- Qualified names (Namespaces in XML 1.0, 4).
use Rattle.std.specs.Prelude.{ℕ, ◌==◌, Bool, List}
use Rattle.std.specs.List.{before_first, after_first}

abbrev pub is_colon : ℕ → Bool
is_colon byte = byte == 58

-- The bytes of a name before its first colon. `qname_local` are those after it.
abbrev pub qname_prefix : List ℕ → List ℕ
qname_prefix name = before_first is_colon name

abbrev pub qname_local : List ℕ → List ℕ
qname_local name = after_first is_colon name
