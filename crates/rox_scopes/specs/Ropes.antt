-- What rows of scopes list that are made from other rows.
use Rattle.std.specs.Prelude.{◌≡◌, ℕ, ◌-◌, ◌<◌, ◌≤◌, false, List, [], ◌∷◌, ◌++◌, Option, IfSome, IfNone, length, slice_index}
use Rattle.std.specs.Borrow.{Bor}
use Rattle.std.specs.List.{AllByRecursion}
use Rattle.rox_grammar.specs.Written.{NamespaceDecl}
use Rattle.rox_scopes.specs.ScopeRows.{AreRows, AreScopes, EndsWithin}
use Rattle.rox_scopes.specs.Scopes.{entries, is_few_at, places_in, ArePlaces}
use Rattle.rox_scopes.specs.declared.stored_scope.Scope.{Scope}
use Rattle.rox_scopes.specs.declared.stored_scope.Stretch.{Stretch}

-- A row of a table in which each row joins earlier ones.
pub record IsRow (table : List Scope) (scope : ℕ) : Type 0 where
  pub within : scope < length table
  pub rows : AreRows table

-- A row of a table in which each row joins earlier ones, or lists some of these places.
pub record IsScope (listed : List ℕ) (table : List Scope) (scope : ℕ) : Type 0 where
  pub scopes : AreScopes (length listed) table
  pub within : scope < length table

-- The result is what the row lists. It is `None` only if the row is not a stretch of few.
pub record GivesFew (listed : List ℕ) (table : List Scope) (scope : ℕ) (result : Option (Bor (List ℕ))) : Type 0 where
  pub few : IfSome result (λ places. places.now ≡ places_in listed table scope)
  pub many : IfNone result (is_few_at table scope ≡ false)

-- A row that lists some of these places, each below `namespaces`.
pub record IsScopeOf (namespaces : ℕ) (listed : List ℕ) (table : List Scope) (scope : ℕ) : Type 0 where
  pub places : ArePlaces namespaces listed
  pub scopes : AreScopes (length listed) table
  pub within : scope < length table

-- The row lists a place at the index `i`.
pub record IsAmongScope (listed : List ℕ) (table : List Scope) (row i : ℕ) : Type 0 where
  pub scope : IsScope listed table row
  pub index : i < length (places_in listed table row)

-- A stretch that may be listed beside these rows: its ends are in order and within what they list.
pub record IsStretch (table : List Scope) (stretch : Stretch) : Type 0 where
  pub rows : AreRows table
  pub ordered : stretch.from ≤ stretch.until
  pub ends : (n : ℕ) → AllByRecursion (EndsWithin n) table → stretch.until ≤ n

-- The stretch has a place at the index `i`.
pub record IsAmongStretch (table : List Scope) (s : Stretch) (i : ℕ) : Type 0 where
  pub stretch : IsStretch table s
  pub index : i < s.until - s.from

-- A row is appended at the index `at`.
pub record AddsRow (row : Scope) (at : ℕ) (old new : List Scope) : Type 0 where
  pub items : new ≡ old ++ row ∷ []
  pub value : at ≡ length old

-- Rows are appended, and the row `scope` lists `list listed`, whatever `listed` is.
pub record IsRope (old new : List Scope) (scope : ℕ) (list : List ℕ → List ℕ) : Type 0 where
  pub more : List Scope
  pub grown : new ≡ old ++ more
  pub rows : AreRows new
  pub ends : (n : ℕ) → AllByRecursion (EndsWithin n) old → AllByRecursion (EndsWithin n) new
  pub within : scope < length new
  pub lists : (listed : List ℕ) → AreScopes (length listed) old → places_in listed new scope ≡ list listed

-- Two rows that can be joined, in a valid table.
pub record AreJoinable (scopes : List Scope) (i j : ℕ) : Type 0 where
  pub first : i < length scopes
  pub rest : j < length scopes
  pub rows : AreRows scopes

-- Rows are appended, and the row `scope` lists what `first` does and then what `rest` does.
abbrev pub Joins : (old new : List Scope) (scope first rest : ℕ) → Type 0
Joins old new scope first rest = IsRope old new scope (λ listed. places_in listed old first ++ places_in listed old rest)

-- Places and rows may be appended, and the row `scope` lists the declarations `ds`.
pub record IsListed (namespaces : List NamespaceDecl) (listed : List ℕ) (scopes : List Scope) (after : List ℕ) (rows : List Scope) (scope : ℕ) (ds : List NamespaceDecl) : Type 0 where
  pub more : List ℕ
  pub grown : after ≡ listed ++ more
  pub places : ArePlaces (length namespaces) listed → ArePlaces (length namespaces) after
  pub more_rows : List Scope
  pub rows_grown : rows ≡ scopes ++ more_rows
  pub scopes_are : AreScopes (length after) rows
  pub within : scope < length rows
  pub lists : entries namespaces (places_in after rows scope) ≡ ds

-- The index `position` into `listed` has the place that the row lists at the index `i`.
pub record IsPositionOf (listed : List ℕ) (table : List Scope) (row i position : ℕ) : Type 0 where
  pub within : position < length listed
  pub value : slice_index listed position ≡ slice_index (places_in listed table row) i
