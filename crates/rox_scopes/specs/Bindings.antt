-- The bindings of prefixes, and of the default, in the innermost of some scopes, and how those of the scopes around are restored.
use Rattle.std.specs.Prelude.{◌≡◌, ◌==◌, ◌&&◌, ℕ, ◌≤◌, ◌<◌, Bool, true, false, List, [], ◌∷◌, ◌++◌, Option, Some, None, Result, OnOk, ◌-◌, ◌⊎◌, take, length, map, drop, slice_index, if◌then◌else◌, option_map}
use Rattle.std.specs.Borrow.{Bor}
use Rattle.std.specs.BTreeMap.{BTreeMap, get_by}
use Rattle.std.specs.Cmp.Lexicographic.{slice_cmp}
use Rattle.std.specs.Ordering.{nat_cmp}
use Rattle.rox_grammar.specs.Written.{NamespaceDecl}
use Rattle.rox_grammar.specs.Tree.{same_prefix, is_declared, uri_of}
use Rattle.rox_grammar.specs.AtIndex.{namespace_at, scope_at, OptionWithin}
use Rattle.rox_scopes.specs.NamespaceViews.{namespace_view}
use Rattle.rox_scopes.specs.Scopes.{prefix_view, entries, others, ArePlaces, PrefixesOnce}
use Rattle.rox_scopes.specs.declared.namespace.Namespace.{Namespace}
use Rattle.rox_scopes.specs.declared.bindings.Binding.{Binding}
use Rattle.rox_scopes.specs.declared.bindings.PrefixBindings.{PrefixBindings}
use Rattle.rox_scopes.specs.declared.bindings.ShadowedBinding.{ShadowedBinding}
use Rattle.rox_scopes.specs.declared.bindings.ScopeFrame.{ScopeFrame}

abbrev pub option_joined : Option (Option Binding) → Option Binding
option_joined None = None
option_joined (Some place) = place

-- The binding of a prefix, or of the default for `None`.
abbrev pub found_at : Option Binding → BTreeMap (Bor (List ℕ)) (Option Binding) → Option (List ℕ) → Option Binding
found_at default prefixes None = default
found_at default prefixes (Some prefix) = option_joined (get_by (λ k. slice_cmp nat_cmp prefix k.now) prefixes)

abbrev pub place_in : PrefixBindings → Option (List ℕ) → Option Binding
place_in x prefix = found_at x.default x.prefixes prefix

-- The index of the namespace of a binding, if there is one.
abbrev pub bound_namespace : Option Binding → Option ℕ
bound_namespace place = option_map (λ p. p.namespace) place

abbrev pub bound_place : PrefixBindings → Option (List ℕ) → Option ℕ
bound_place x prefix = bound_namespace (place_in x prefix)

-- The indices before these bindings were replaced. The first binding in the list was replaced first.
abbrev pub restored : List ShadowedBinding → (Option (List ℕ) → Option ℕ) → Option (List ℕ) → Option ℕ
restored [] places prefix = places prefix
restored (r ∷ rs) places prefix = if same_prefix (prefix_view r.prefix) prefix then bound_namespace r.before else restored rs places prefix

-- The indices are those of the listed namespaces: each prefix has the URI that `listed` gives it.
pub record IsBound (namespaces : List NamespaceDecl) (places : Option (List ℕ) → Option ℕ) (listed : List NamespaceDecl) : Type 0 where
  pub within : (prefix : Option (List ℕ)) → OptionWithin (length namespaces) (places prefix)
  pub uris : (prefix : Option (List ℕ)) → option_map (λ i. (namespace_at namespaces i).uri) (places prefix) ≡ uri_of listed prefix

-- Each of these scopes, the outermost first, has its bindings once those replaced after it are restored.
abbrev pub Stacked : List NamespaceDecl → List (List NamespaceDecl) → List ShadowedBinding → (Option (List ℕ) → Option ℕ) → (least : ℕ) → List ScopeFrame → Type 0
Stacked namespaces lists replaced places least [] = Unit {0}
Stacked namespaces lists replaced places least (l ∷ ls) =
    (least ≤ l.count) × (l.count ≤ length replaced) × (l.scope < length lists) × IsBound namespaces (restored (drop l.count replaced) places) (scope_at lists l.scope)
    × Stacked namespaces lists replaced places l.count ls

pub record AreBindingsOf (namespaces : List NamespaceDecl) (lists : List (List NamespaceDecl)) (x : PrefixBindings) : Type 0 where
  pub stacked : Stacked namespaces lists x.replaced.items (bound_place x) 0 x.layers.items

-- The new bindings belong to all scopes that the old ones belonged to.
abbrev pub KeepsBindings : (old new : PrefixBindings) → Type 0
KeepsBindings old new = (namespaces : List NamespaceDecl) (lists : List (List NamespaceDecl)) → AreBindingsOf namespaces lists old → AreBindingsOf namespaces lists new

-- A prefix, or the default, has this binding now, unless memory ran out.
pub record SetsPlace {E : Type 0} (prefix : Option (List ℕ)) (place : Option Binding) (old new : PrefixBindings) (result : Result (Unit {0}) E) : Type 0 where
  pub present : OnOk result ((p : Option (List ℕ)) → place_in new p ≡ (if same_prefix prefix p then place else place_in old p))
  pub replaced : new.replaced ≡ old.replaced
  pub layers : new.layers ≡ old.layers

-- A prefix, or the default, has this binding now, which can be undone.
pub record PutsPlace (prefix : Option (List ℕ)) (place : Option Binding) (old new : PrefixBindings) : Type 0 where
  pub present : (p : Option (List ℕ)) → place_in new p ≡ (if same_prefix prefix p then place else place_in old p)
  pub keeps : KeepsBindings old new

-- The innermost scope is left. The bindings belong to the scopes that remain.
pub record LeavesScope (old new : PrefixBindings) : Type 0 where
  pub layers : new.layers.items ≡ take (length old.layers.items - 1) old.layers.items
  pub back : (ls : List ScopeFrame) (l : ScopeFrame) → new.layers.items ≡ ls ++ l ∷ [] → l.count ≤ length old.replaced.items → length new.replaced.items ≡ l.count
  pub keeps : KeepsBindings old new

-- The prefix of the namespace listed at `position` has its place.
pub record BindsListed (namespaces : List NamespaceDecl) (listed : List ℕ) (position : ℕ) (old new : PrefixBindings) : Type 0 where
  pub bound : (ds : List NamespaceDecl) → IsBound namespaces (bound_place old) ds → IsBound namespaces (bound_place new) (namespace_at namespaces (slice_index listed position) ∷ ds)
  pub keeps : KeepsBindings old new

-- Whether the innermost of these scopes is `scope`, with `count` bindings replaced up to it.
abbrev pub is_innermost : List ScopeFrame → (count scope : ℕ) → Bool
is_innermost [] count scope = false
is_innermost (l ∷ []) count scope = l.count == count && l.scope == scope
is_innermost (l ∷ m ∷ ls) count scope = is_innermost (m ∷ ls) count scope

-- The result is whether `scope` is the innermost scope. If it is, the bindings are those of what it lists.
pub record TellsInnermost (scope : ℕ) (x : PrefixBindings) (result : Bool) : Type 0 where
  pub value : result ≡ is_innermost x.layers.items (length x.replaced.items) scope
  pub bound : result ≡ true → (namespaces : List NamespaceDecl) (lists : List (List NamespaceDecl)) → AreBindingsOf namespaces lists x → IsBound namespaces (bound_place x) (scope_at lists scope)

-- The scopes inside `scope` are left, or all scopes, unless memory ran out. Nothing changes if it was the innermost.
pub record LeavesInner {E : Type 0} (scope : ℕ) (old new : PrefixBindings) (result : Result (Unit {0}) E) : Type 0 where
  pub innermost : OnOk result ((new.layers.items ≡ []) ⊎ (is_innermost new.layers.items (length new.replaced.items) scope ≡ true))
  pub same : is_innermost old.layers.items (length old.replaced.items) scope ≡ true → new ≡ old
  pub keeps : OnOk result (KeepsBindings old new)

-- The bindings are those of what `scope` lists, unless memory ran out. Nothing changes if it was the innermost.
pub record MakesInnermost {E : Type 0} (namespaces : List NamespaceDecl) (lists : List (List NamespaceDecl)) (scope : ℕ) (old new : PrefixBindings) (result : Result (Unit {0}) E) : Type 0 where
  pub value : OnOk result (AreBindingsOf namespaces lists old → AreBindingsOf namespaces lists new × IsBound namespaces (bound_place new) (scope_at lists scope))
  pub same : is_innermost old.layers.items (length old.replaced.items) scope ≡ true → new ≡ old

-- The scope lists the declarations `own`, and then what `above` lists except what the element declares.
pub record IsEntered (own : List NamespaceDecl) (xml : Bool) (above : List NamespaceDecl) (lists : List (List NamespaceDecl)) (scope : ℕ) : Type 0 where
  pub within : scope < length lists
  pub made : scope_at lists scope ≡ own ++ others own xml above

-- The places that are listed if they are few, without their addresses.
abbrev pub places_view : Option (Bor (List ℕ)) → Option (List ℕ)
places_view few = option_map (λ p. p.now) few

-- An index that is found is in a table of `n` pairs, whether among the few places or in the bindings.
abbrev pub LooksWithin : ℕ → Option (List ℕ) → PrefixBindings → Type 0
LooksWithin n (Some places) x = ArePlaces n places
LooksWithin n None x = (prefix : Option (List ℕ)) → OptionWithin n (bound_place x prefix)

-- The URI that is found for a prefix, or for the default.
abbrev pub looked_up : List NamespaceDecl → Option (List ℕ) → PrefixBindings → Option (List ℕ) → Option (List ℕ)
looked_up namespaces (Some places) x prefix = uri_of (entries namespaces places) prefix
looked_up namespaces None x prefix = option_map (λ i. (namespace_at namespaces i).uri) (bound_place x prefix)

-- The result of a search among the places for a prefix, or the default: the place of the namespace that is listed for it, or
-- `None`.
abbrev pub FindsPlace : List Namespace → List ℕ → Option (List ℕ) → Option ℕ → Type 0
FindsPlace table places prefix (Some i) = (i < length table) × (uri_of (entries (map namespace_view table) places) prefix ≡ Some (namespace_at (map namespace_view table) i).uri)
FindsPlace table places prefix None = uri_of (entries (map namespace_view table) places) prefix ≡ None

-- The result of a search among the places for a prefix, or the default: the index of a place whose namespace has it, or `None`.
abbrev pub FindsIndex : List Namespace → List ℕ → Option (List ℕ) → Option ℕ → Type 0
FindsIndex table places prefix (Some i) = (i < length places) × (same_prefix (namespace_at (map namespace_view table) (slice_index places i)).prefix prefix ≡ true)
FindsIndex table places prefix None = is_declared prefix (entries (map namespace_view table) places) ≡ false

-- The place `found` has the URI that `looked_up` gives for a prefix, or the default.
pub record LooksUp (table : List Namespace) (few : Option (List ℕ)) (x : PrefixBindings) (prefix : Option (List ℕ)) (found : Option ℕ) : Type 0 where
  pub within : OptionWithin (length table) found
  pub value : option_map (λ i. (namespace_at (map namespace_view table) i).uri) found ≡ looked_up (map namespace_view table) few x prefix

-- Every prefix is found with the URI that `listed` gives it.
pub record FindsBinding (namespaces : List NamespaceDecl) (few : Option (List ℕ)) (x : PrefixBindings) (listed : List NamespaceDecl) : Type 0 where
  pub uris : (prefix : Option (List ℕ)) → looked_up namespaces few x prefix ≡ uri_of listed prefix

-- Each of these places is in the table, and each prefix is listed once there.
pub record AreOnce (table : List Namespace) (places : List ℕ) : Type 0 where
  pub within : ArePlaces (length table) places
  pub once : PrefixesOnce (entries (map namespace_view table) places)
