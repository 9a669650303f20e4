-- The rows of scopes, and what each lists.
use Rattle.std.specs.Prelude.{◌≡◌, ℕ, ◌+◌, ◌-◌, ◌<◌, ◌≤◌, List, [], ◌∷◌, ◌++◌, length, map, reverse, get_or, slice_range}
use Rattle.std.specs.List.{AllByRecursion}
use Rattle.rox_grammar.specs.Written.{NamespaceDecl}
use Rattle.rox_scopes.specs.declared.stored_scope.Scope.{Scope}
use Rattle.rox_scopes.specs.declared.stored_scope.Scope.TheVariants as scope
use Rattle.rox_grammar.specs.AtIndex.{namespace_at}

-- The places that the scope at the index `i` lists.
abbrev pub listed_at : List (List ℕ) → ℕ → List ℕ
listed_at [] i = []
listed_at (l ∷ ls) Prim.Native.Nat.zero = l
listed_at (l ∷ ls) (Prim.Native.Nat.suc i) = listed_at ls i

-- The places that a row lists. `done` is what the earlier rows list.
abbrev pub made : List ℕ → List (List ℕ) → Scope → List ℕ
made listed done (scope.Few s) = slice_range listed s.from s.until
made listed done (scope.Back s) = reverse (slice_range listed s.from s.until)
made listed done (scope.Concat b) = listed_at done b.first ++ listed_at done b.rest

abbrev pub places_on : List ℕ → List (List ℕ) → List Scope → List (List ℕ)
places_on listed done [] = done
places_on listed done (s ∷ ss) = places_on listed (done ++ made listed done s ∷ []) ss

-- The places that each scope lists, as entries of `listed`.
abbrev pub places_of : List ℕ → List Scope → List (List ℕ)
places_of listed scopes = places_on listed [] scopes

-- The declarations that each scope lists.
abbrev pub lists_of : List NamespaceDecl → List ℕ → List Scope → List (List NamespaceDecl)
lists_of namespaces listed scopes = map (map (namespace_at namespaces)) (places_of listed scopes)

-- How many places a row lists.
abbrev pub count_of : Scope → ℕ
count_of (scope.Few s) = s.until - s.from
count_of (scope.Back s) = s.until - s.from
count_of (scope.Concat b) = b.count

abbrev pub count_at : List Scope → ℕ → ℕ
count_at [] i = 0
count_at (s ∷ ss) Prim.Native.Nat.zero = count_of s
count_at (s ∷ ss) (Prim.Native.Nat.suc i) = count_at ss i

-- The row at the index `i` is valid: the ends of a stretch are in order, and other rows join earlier ones.
abbrev pub IsRow : List Scope → ℕ → Scope → Type 0
IsRow scopes i (scope.Few s) = s.from ≤ s.until
IsRow scopes i (scope.Back s) = s.from ≤ s.until
IsRow scopes i (scope.Concat b) = (b.first < i) × (b.rest < i) × (b.count ≡ count_at scopes b.first + count_at scopes b.rest)

pub record AreRows (scopes : List Scope) : Type 0 where
  pub each : (i : ℕ) (s : Scope) → i < length scopes → s ≡ get_or scopes i s → IsRow scopes i s

-- A stretch ends within `listed` places.
abbrev pub EndsWithin : ℕ → Scope → Type 0
EndsWithin listed (scope.Few s) = s.until ≤ listed
EndsWithin listed (scope.Back s) = s.until ≤ listed
EndsWithin listed (scope.Concat b) = Unit {0}

-- The scopes are valid and list some of `listed` places.
pub record AreScopes (listed : ℕ) (scopes : List Scope) : Type 0 where
  pub rows : AreRows scopes
  pub within : AllByRecursion (EndsWithin listed) scopes
