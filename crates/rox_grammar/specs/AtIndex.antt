-- What is at an index: of a table of namespaces, and of the lists of scopes.
use Rattle.std.specs.Prelude.{ℕ, ◌<◌, List, [], ◌∷◌, Option, Some, None}
use Rattle.rox_grammar.specs.Written.{NamespaceDecl}

-- The namespace at the index `i` of a table.
abbrev pub namespace_at : List NamespaceDecl → ℕ → NamespaceDecl
namespace_at [] i = record { prefix = None; uri = [] }
namespace_at (d ∷ ds) Prim.Native.Nat.zero = d
namespace_at (d ∷ ds) (Prim.Native.Nat.suc i) = namespace_at ds i

-- The namespaces that the scope at the index `i` lists.
abbrev pub scope_at : List (List NamespaceDecl) → ℕ → List NamespaceDecl
scope_at [] i = []
scope_at (l ∷ ls) Prim.Native.Nat.zero = l
scope_at (l ∷ ls) (Prim.Native.Nat.suc i) = scope_at ls i

-- The index, if there is one, is in a table of `n`.
abbrev pub OptionWithin : ℕ → Option ℕ → Type 0
OptionWithin n None = Unit {0}
OptionWithin n (Some i) = i < n
