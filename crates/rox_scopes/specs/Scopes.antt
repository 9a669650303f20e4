-- Declarations, and how the code stores them.
use Rattle.std.specs.Prelude.{◌≡◌, ℕ, ◌<◌, ◌&&◌, ◌||◌, not, Bool, true, false, List, [], ◌∷◌, map, filter, Option, option_map}
use Rattle.std.specs.Borrow.{Bor}
use Rattle.std.specs.List.{AllByRecursion}
use Rattle.rox_grammar.specs.Written.{NamespaceDecl}
use Rattle.rox_grammar.specs.Tree.{same_prefix, is_declared, is_xml}
use Rattle.rox_grammar.specs.AtIndex.{namespace_at}
use Rattle.rox_scopes.specs.ScopeRows.{listed_at, places_of}
use Rattle.rox_scopes.specs.declared.stored_scope.Scope.{Scope}
use Rattle.rox_scopes.specs.declared.stored_scope.Scope.TheVariants as scope

-- A prefix, or `None` for the default, without its address.
abbrev pub prefix_view : Option (Bor (List ℕ)) → Option (List ℕ)
prefix_view o = option_map (λ p. p.now) o

abbrev pub pair : Option (List ℕ) → List ℕ → NamespaceDecl
pair prefix uri = record { prefix = prefix; uri = uri }

-- The declarations at these places of a table.
abbrev pub entries : List NamespaceDecl → List ℕ → List NamespaceDecl
entries namespaces places = map (namespace_at namespaces) places

-- The places that the scope at the index `i` lists.
abbrev pub places_in : List ℕ → List Scope → ℕ → List ℕ
places_in listed scopes i = listed_at (places_of listed scopes) i

-- Whether a scope is a stretch of few; `is_few_at` is whether the scope at the index `i` is.
abbrev pub is_few : Scope → Bool
is_few (scope.Few s) = true
is_few (scope.Back s) = false
is_few (scope.Concat b) = false

abbrev pub is_few_at : List Scope → ℕ → Bool
is_few_at [] i = false
is_few_at (s ∷ ss) Prim.Native.Nat.zero = is_few s
is_few_at (s ∷ ss) (Prim.Native.Nat.suc i) = is_few_at ss i

-- Each place is in a table of `n` pairs.
abbrev pub ArePlaces : ℕ → List ℕ → Type 0
ArePlaces n places = AllByRecursion (λ i. i < n) places

-- NS 6.1: the declarations of the parent that are not overridden here. `own` are those declared here, and `xml` says whether
-- `xml` is declared here.
abbrev pub others : List NamespaceDecl → Bool → List NamespaceDecl → List NamespaceDecl
others own xml above = filter (λ d. not (is_declared d.prefix own || (xml && is_xml d.prefix))) above

-- Each prefix is declared once.
abbrev pub PrefixesOnce : List NamespaceDecl → Type 0
PrefixesOnce [] = Unit {0}
PrefixesOnce (d ∷ ds) = (is_declared d.prefix ds ≡ false) × PrefixesOnce ds

-- The declarations of other prefixes than `p`.
abbrev pub unlisted : Option (List ℕ) → List NamespaceDecl → List NamespaceDecl
unlisted p ds = filter (λ d. not (same_prefix d.prefix p)) ds
