-- Attributes that are read at one look, put into their table.
use Rattle.std.proofs.Common.{◌≡◌, ℕ, ◌+◌, ◌<◌, false, List, [], ◌∷◌, length, map, refl, arith, bytes_eq}
use Rattle.rox_scopes.specs.declared.namespace.Namespace.{Namespace}
use Rattle.rox_grammar.specs.AtIndex.{scope_at}
use Rattle.rox_scopes.specs.Scopes.{ArePlaces, PrefixesOnce, entries, places_in}
use Rattle.rox_names.specs.TagScopes.{lists_in}
use Rattle.rox_rows.specs.CompactPlaces.{compact_places}
use Rattle.rox_names.specs.declared.tables.ElementTables.{ElementTables}
use Rattle.rox_scopes.specs.declared.stored_scope.Scope.{Scope}
use Rattle.rox_scopes.proofs.Ropes.{scope_places, all_places}
use Rattle.rox_scopes.specs.NamespaceViews.{namespace_view}

-- where one stands that is written as most are
pub compact_are : (start before local value n s e : ℕ) → n ≡ start + before + local → s ≡ n + 2 → e ≡ s + value + 1
    → compact_places start before local value ≡ record { start = start; name_end = n; value_start = s; end = e }
compact_are start before local value n s e name from end = rw (end, from, name) refl

-- ---- the scope of the tag is that of its parent, which lists few

pub few_within : (t : ElementTables) (ns : List Namespace) (scopes : List Scope) (listed ps : List ℕ) (scope : ℕ) → ns ≡ t.namespaces.items.items → scopes ≡ t.scopes.items → listed ≡ t.listed.items
    → ArePlaces (length t.namespaces.items.items) t.listed.items → ps ≡ places_in listed scopes scope → ArePlaces (length ns) ps
few_within t ns scopes listed ps scope n s l all few = rw (few, s, l, n) (all_places (length t.namespaces.items.items) t.listed.items t.scopes.items scope all)

-- each prefix is among them once
pub few_once : (t : ElementTables) (ns : List Namespace) (scopes : List Scope) (listed ps : List ℕ) (scope : ℕ) → ns ≡ t.namespaces.items.items → scopes ≡ t.scopes.items → listed ≡ t.listed.items
    → PrefixesOnce (scope_at (lists_in t) scope) → ps ≡ places_in listed scopes scope → PrefixesOnce (entries (map namespace_view ns) ps)
few_once t ns scopes listed ps scope n s l once few = grind (arith, scope_places)

-- the places that were found are those of the scope
pub few_is : (t : ElementTables) (scopes : List Scope) (listed ps : List ℕ) (scope : ℕ) → scopes ≡ t.scopes.items → listed ≡ t.listed.items → ps ≡ places_in listed scopes scope
    → ps ≡ places_in t.listed.items t.scopes.items scope
few_is t scopes listed ps scope s l few = rw (s, l) at few

pub some_filled : (xs : List ℕ) → 0 < length xs → bytes_eq xs [] ≡ false
some_filled [] h = absurd (omega (arith, h))
some_filled (x ∷ xs) h = refl
