-- What is looked up for a scope: among its places, where they are few, and else by the places of prefixes.
use Rattle.std.proofs.Common.{◌≡◌, ℕ, true, false, List, length, map, Bor, Option, Some, None, sym, ap, subst, ◌∙◌, IfSome, IfNone}
use Rattle.std.proofs.lemmas.List.{length-map}
use Rattle.rox_grammar.specs.Written.{NamespaceDecl}
use Rattle.rox_scopes.specs.declared.namespace.Namespace.{Namespace}
use Rattle.rox_names.specs.declared.tables.ElementTables.{ElementTables}
use Rattle.rox_scopes.specs.declared.stored_scope.Scope.{Scope}
use Rattle.rox_grammar.specs.AtIndex.{scope_at, OptionWithin}
use Rattle.rox_scopes.specs.NamespaceViews.{namespace_view}
use Rattle.rox_scopes.specs.Scopes.{entries, places_in, is_few_at, ArePlaces}
use Rattle.rox_scopes.specs.Bindings.{bound_place, IsBound, FindsBinding, LooksWithin, places_view}
use Rattle.rox_names.specs.TagScopes.{HasBindingsOf, lists_in}
use Rattle.rox_scopes.proofs.Ropes.{scope_places, all_places}
use Rattle.rox_scopes.proofs.Presenting.{finds_bound, finds_few}

-- nothing is to be known of few
pub present_few : (t : ElementTables) (scope : ℕ) → is_few_at t.scopes.items scope ≡ true → HasBindingsOf t scope
unfolding HasBindingsOf
present_few t scope few = λ many. cc (few, many)

pub present_by : (t : ElementTables) (scope : ℕ) → IsBound (map namespace_view t.namespaces.items.items) (bound_place t.present) (scope_at (lists_in t) scope) → HasBindingsOf t scope
unfolding HasBindingsOf
present_by t scope h = λ many. h

-- what is looked up is in the table
pub looks_in : (t : ElementTables) (few : Option (Bor (List ℕ))) (scope : ℕ) → ArePlaces (length t.namespaces.items.items) t.listed.items
    → IfSome few (λ p. p.now ≡ places_in t.listed.items t.scopes.items scope) → IfNone few (is_few_at t.scopes.items scope ≡ false) → HasBindingsOf t scope
    → LooksWithin (length t.namespaces.items.items) (places_view few) t.present
unfolding HasBindingsOf
looks_in t None scope all few many h = λ p. subst (λ n. OptionWithin n (bound_place t.present p)) (length-map t.namespaces.items.items namespace_view) ((h many).within p)
looks_in t (Some ps) scope all few many h = subst (ArePlaces (length t.namespaces.items.items)) (sym few) (all_places (length t.namespaces.items.items) t.listed.items t.scopes.items scope all)

-- and is what the scope lists
pub finds_in : (t : ElementTables) (few : Option (Bor (List ℕ))) (scope : ℕ)
    → IfSome few (λ p. p.now ≡ places_in t.listed.items t.scopes.items scope) → IfNone few (is_few_at t.scopes.items scope ≡ false) → HasBindingsOf t scope
    → FindsBinding (map namespace_view t.namespaces.items.items) (places_view few) t.present (scope_at (lists_in t) scope)
unfolding HasBindingsOf
finds_in t None scope few many h = finds_bound (map namespace_view t.namespaces.items.items) t.present (scope_at (lists_in t) scope) (h many)
finds_in t (Some ps) scope few many h =
    let namespaces = map namespace_view t.namespaces.items.items in
    finds_few namespaces ps.now t.present (scope_at (lists_in t) scope) (scope_places namespaces t.listed.items t.scopes.items scope ∙ ap (entries namespaces) (sym few))

-- ---- as the slices of the tables say it

pub looks_for : (t : ElementTables) (scopes : List Scope) (listed : List ℕ) (few : Option (Bor (List ℕ))) (scope : ℕ) → scopes ≡ t.scopes.items → listed ≡ t.listed.items
    → ArePlaces (length t.namespaces.items.items) t.listed.items → IfSome few (λ p. p.now ≡ places_in listed scopes scope) → IfNone few (is_few_at scopes scope ≡ false) → HasBindingsOf t scope
    → LooksWithin (length t.namespaces.items.items) (places_view few) t.present
looks_for t scopes listed few scope s l all =
    subst (λ xs. IfSome few (λ p. p.now ≡ places_in listed xs scope) → IfNone few (is_few_at xs scope ≡ false) → HasBindingsOf t scope → LooksWithin (length t.namespaces.items.items) (places_view few) t.present) (sym s)
    (subst (λ xs. IfSome few (λ p. p.now ≡ places_in xs t.scopes.items scope) → IfNone few (is_few_at t.scopes.items scope ≡ false) → HasBindingsOf t scope → LooksWithin (length t.namespaces.items.items) (places_view few) t.present) (sym l)
    (looks_in t few scope all))

pub found_for : (t : ElementTables) (scopes : List Scope) (listed : List ℕ) (few : Option (Bor (List ℕ))) (scope : ℕ) → scopes ≡ t.scopes.items → listed ≡ t.listed.items
    → IfSome few (λ p. p.now ≡ places_in listed scopes scope) → IfNone few (is_few_at scopes scope ≡ false) → HasBindingsOf t scope
    → FindsBinding (map namespace_view t.namespaces.items.items) (places_view few) t.present (scope_at (lists_in t) scope)
found_for t scopes listed few scope s l =
    subst (λ xs. IfSome few (λ p. p.now ≡ places_in listed xs scope) → IfNone few (is_few_at xs scope ≡ false) → HasBindingsOf t scope → FindsBinding (map namespace_view t.namespaces.items.items) (places_view few) t.present (scope_at (lists_in t) scope)) (sym s)
    (subst (λ xs. IfSome few (λ p. p.now ≡ places_in xs t.scopes.items scope) → IfNone few (is_few_at t.scopes.items scope ≡ false) → HasBindingsOf t scope → FindsBinding (map namespace_view t.namespaces.items.items) (places_view few) t.present (scope_at (lists_in t) scope)) (sym l)
    (finds_in t few scope))

pub seen_by : (t : ElementTables) (namespaces : List Namespace) (few : Option (List ℕ)) (ds : List NamespaceDecl) → namespaces ≡ t.namespaces.items.items
    → FindsBinding (map namespace_view t.namespaces.items.items) few t.present ds → FindsBinding (map namespace_view namespaces) few t.present ds
seen_by t namespaces few ds n h = subst (λ ns. FindsBinding (map namespace_view ns) few t.present ds) (sym n) h
