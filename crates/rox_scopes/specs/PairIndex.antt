-- The places of pairs in a table, and in a map of them.
use Rattle.std.specs.Prelude.{◌≡◌, ◌<◌, ◌≤◌, ℕ, suc, ◌+◌, List, [], ◌∷◌, ◌++◌, drop, length, map, Option, Some, None, Result, Err, IfOk, IfSome, IfNone, true, false, if◌then◌else◌}
use Rattle.std.specs.Option.{option_map, option_cmp}
use Rattle.std.specs.declared.cmp.Ordering.{Ordering}
use Rattle.std.specs.Ordering.{ordering_then, nat_cmp}
use Rattle.std.specs.Cmp.{IsTotalOrder, then_total, on_total, nat_cmp_total}
use Rattle.std.specs.Cmp.Lexicographic.{slice_cmp, lists_total, options_total}
use Rattle.std.specs.Map.{lookup}
use Rattle.rox_grammar.specs.declared.failure.Failure.{Failure}
use Rattle.rox_grammar.specs.declared.failure.Failure.TheVariants as failure
use Rattle.rox_grammar.specs.declared.fault.Fault.{Fault}
use Rattle.rox_grammar.specs.declared.fault.Fault.TheVariants as fault
use Rattle.rox_grammar.specs.Written.{NamespaceDecl}
use Rattle.rox_grammar.specs.Document.{most_pairs, same_pair}
use Rattle.rox_grammar.specs.Counts.{has_pair, with_new}
use Rattle.rox_grammar.specs.AtIndex.{namespace_at}
use Rattle.rox_scopes.specs.NamespaceViews.{namespace_view}
use Rattle.rox_scopes.specs.declared.namespace_table.Key.{Key}
use Rattle.rox_scopes.specs.declared.namespace.Namespace.{Namespace}

-- The order of pairs: by prefix, where the default comes first, and then by URI.
abbrev pub pair_cmp : NamespaceDecl → NamespaceDecl → Ordering
pair_cmp d e = ordering_then (option_cmp (slice_cmp nat_cmp) d.prefix e.prefix) (slice_cmp nat_cmp d.uri e.uri)

pub pair_total : IsTotalOrder pair_cmp
pair_total = then_total (on_total (λ d. d.prefix) (options_total (lists_total nat_cmp_total))) (on_total (λ d. d.uri) (lists_total nat_cmp_total))

-- The order of keys.
abbrev pub key_cmp : Key → Key → Ordering
key_cmp x y = pair_cmp (namespace_view x.namespace) (namespace_view y.namespace)

pub key_total : IsTotalOrder key_cmp
key_total = on_total (λ k. namespace_view k.namespace) pair_total

-- The place of a pair in a table: the index of the first that is equal to it.
abbrev pub place_of : List NamespaceDecl → NamespaceDecl → Option ℕ
place_of [] d = None
place_of (n ∷ namespaces) d = if same_pair n d then Some 0 else option_map suc (place_of namespaces d)

-- How many pairs of a table are compared one by one.
abbrev pub few_pairs : ℕ
few_pairs = 16

-- A pair is appended to a table, at the place `at`.
pub record AddsPair (pair : NamespaceDecl) (at : ℕ) (old new : List Namespace) : Type 0 where
  pub items : map namespace_view new ≡ map namespace_view old ++ pair ∷ []
  pub place : at ≡ length old

-- A pair has the place `at` in a table, to which it was appended if it was new.
pub record PlacesPair (pair : NamespaceDecl) (at : ℕ) (old new : List Namespace) : Type 0 where
  pub there : (at < length new) × (namespace_at (map namespace_view new) at ≡ pair)
  pub table : map namespace_view new ≡ with_new (map namespace_view old) (pair ∷ [])
  pub few : length new ≤ most_pairs

-- The place of a pair that is after the first `few_pairs`.
abbrev pub place_behind : List NamespaceDecl → NamespaceDecl → Option ℕ
place_behind namespaces d = option_map (λ i. few_pairs + i) (place_of (drop few_pairs namespaces) d)

-- The place that the entries of a map give a pair.
abbrev pub place_among : List (Key × ℕ) → NamespaceDecl → Option ℕ
place_among es d = lookup (λ k. same_pair d (namespace_view k.namespace)) es

-- A pair is found at a place of the table, or the table does not have it.
pub record FindsPair (table : List Namespace) (d : NamespaceDecl) (found : Option ℕ) : Type 0 where
  pub there : IfSome found (λ i. (i < length table) × (namespace_at (map namespace_view table) i ≡ d) × (has_pair (map namespace_view table) d ≡ true))
  pub absent : IfNone found (has_pair (map namespace_view table) d ≡ false)

-- There is room for a pair, and the table does not have it.
pub record IsNewPair (table : List Namespace) (d : NamespaceDecl) : Type 0 where
  pub few : length table < most_pairs
  pub absent : has_pair (map namespace_view table) d ≡ false

-- A pair has its place, or is new to a table with the most pairs allowed, unless memory ran out.
pub record PlacesOrRefuses (d : NamespaceDecl) (old new : List Namespace) (result : Result ℕ Failure) : Type 0 where
  pub placed : IfOk result (λ i. PlacesPair d i old new)
  pub fault : (f : Fault) → result ≡ Err (failure.Fault f) → (f ≡ fault.NamespacesLimitReached) × (most_pairs < length (with_new (map namespace_view old) (d ∷ [])))
