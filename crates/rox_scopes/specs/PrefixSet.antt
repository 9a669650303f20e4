-- The prefixes that a tag declares, as a set, if it has many declarations.
use Rattle.std.specs.Prelude.{◌≡◌, ℕ, ◌<◌, ◌≤◌, Bool, List, Option, drop, length, map}
use Rattle.std.specs.List.{list_any}
use Rattle.std.specs.Borrow.{Bor}
use Rattle.rox_grammar.specs.Written.{NamespaceDecl}
use Rattle.rox_grammar.specs.Tree.{same_prefix, is_declared}
use Rattle.rox_scopes.specs.Scopes.{prefix_view, entries, ArePlaces}
use Rattle.rox_scopes.specs.NamespaceViews.{namespace_view}
use Rattle.rox_scopes.specs.declared.namespace.Namespace.{Namespace}
use Rattle.rox_scopes.specs.declared.stored_scope.Stretch.{Stretch}

abbrev pub has_prefix : Option (List ℕ) → List (Option (Bor (List ℕ))) → Bool
has_prefix prefix keys = list_any (λ k. same_prefix (prefix_view k) prefix) keys

-- The keys are the prefixes at these places, if there are more than 16 places.
unfoldable pub IsPrefixSet : List NamespaceDecl → List ℕ → List (Option (Bor (List ℕ))) → Type 0
IsPrefixSet namespaces places keys = 16 < length places → (prefix : Option (List ℕ)) → has_prefix prefix keys ≡ is_declared prefix (entries namespaces places)

-- Each place is in the table, and the keys are the prefixes there if there are more than 16.
pub record HasPrefixes (table : List Namespace) (own : List ℕ) (keys : List (Option (Bor (List ℕ)))) : Type 0 where
  pub places : ArePlaces (length table) own
  pub prefix_set : IsPrefixSet (map namespace_view table) own keys

-- A tag whose parent lists few: the stretch `above`. After that, from `from` on, is what the tag declares. The keys are its
-- prefixes if there are more than 16.
pub record IsBelowFew (table : List Namespace) (listed : List ℕ) (keys : List (Option (Bor (List ℕ)))) (above : Stretch) (from : ℕ) : Type 0 where
  pub places : ArePlaces (length table) listed
  pub own : from ≤ length listed
  pub prefix_set : IsPrefixSet (map namespace_view table) (drop from listed) keys
  pub ordered : above.from ≤ above.until
  pub behind : above.until ≤ from
