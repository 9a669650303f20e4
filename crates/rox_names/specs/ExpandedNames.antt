-- The expanded names of the attributes of a tag, as a set of keys: a local name, and a URI or none.
use Rattle.std.specs.Prelude.{◌≡◌, ℕ, ◌&&◌, ◌||◌, false, Bool, List, Option, bytes_eq, ◌++◌, ◌∷◌, [], Result, Ok, Err}
use Rattle.std.specs.List.{list_any}
use Rattle.std.specs.Borrow.{Bor}
use Rattle.rox_grammar.specs.Written.{NamespaceDecl, Attribute}
use Rattle.rox_grammar.specs.Tree.{same_prefix}
use Rattle.rox_scopes.specs.Scopes.{prefix_view}
use Rattle.rox_reading.specs.Tags.{names_tested}
use Rattle.rox_grammar.specs.declared.failure.Failure.{Failure}
use Rattle.rox_grammar.specs.Failures.{Fails}
use Rattle.rox_rows.specs.Rows.{attribute_uri}
use Rattle.rox_rows.specs.declared.row.AttributeNamespace.{AttributeNamespace}
use Rattle.rox_rows.specs.declared.row.AttributeData.{AttributeData}

abbrev pub Key : Type 0
Key = Bor (List ℕ) × Option (Bor (List ℕ))

-- Whether a key has this local name and URI.
abbrev pub is_key : List ℕ → Option (List ℕ) → Key → Bool
is_key local uri k = same_prefix (prefix_view k.1) uri && bytes_eq k.0.now local

abbrev pub has_key : List ℕ → Option (List ℕ) → List Key → Bool
has_key local uri keys = list_any (is_key local uri) keys

-- The keys are the expanded names of these attributes.
unfoldable pub HasExpandedNames : List NamespaceDecl → List Key → List AttributeData → Type 0
HasExpandedNames namespaces keys done = (local : List ℕ) (uri : Option (List ℕ)) → has_key local uri keys ≡ list_any (λ a. same_prefix (attribute_uri namespaces a.namespace) uri && bytes_eq a.local.now local) done

-- What the test of one name says about the test of all, unless memory ran out. If it passes, the rest is tested with `a` among
-- the names before. Otherwise its failure is that of the whole test.
abbrev pub TestedOr : List NamespaceDecl → List Attribute → Attribute → List Attribute → Result AttributeNamespace Failure → Type 0
TestedOr scope before a rest (Ok s) = names_tested scope before (a ∷ rest) ≡ names_tested scope (before ++ a ∷ []) rest
TestedOr scope before a rest (Err e) = Fails e (names_tested scope before (a ∷ rest))

-- The result is whether the name is among the keys. If it is not, it is added.
pub record PutsKey (name : Key) (old new : List Key) (again : Bool) : Type 0 where
  pub value : again ≡ has_key name.0.now (prefix_view name.1) old
  pub more : again ≡ false → (l : List ℕ) (u : Option (List ℕ)) → has_key l u new ≡ (has_key l u old || is_key l u name)
