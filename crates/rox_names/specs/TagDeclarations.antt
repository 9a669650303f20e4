-- The stored form of a start tag's declarations, compared with what is read of them.
use Rattle.std.specs.Prelude.{◌≡◌, ℕ, ◌≤◌, Bool, false, List, ◌++◌, Option, drop, length, map, Result, Ok, Err, OnOk}
use Rattle.std.specs.Borrow.{Bor}
use Rattle.std.specs.List.{list_any}
use Rattle.rox_grammar.specs.declared.failure.Failure.{Failure}
use Rattle.rox_grammar.specs.declared.fault.Fault.{Fault}
use Rattle.rox_grammar.specs.Document.{most_pairs}
use Rattle.rox_grammar.specs.Counts.{with_new}
use Rattle.rox_grammar.specs.Failures.{Fails, name_view}
use Rattle.rox_grammar.specs.Tree.{is_xml, listable_of}
use Rattle.rox_grammar.specs.Written.{Attribute, NamespaceDecl}
use Rattle.rox_reading.specs.Tags.{TagSoFar, declared}
use Rattle.rox_scopes.specs.Scopes.{entries, ArePlaces, PrefixesOnce}
use Rattle.rox_scopes.specs.PrefixSet.{IsPrefixSet}
use Rattle.rox_scopes.specs.ScopeRows.{AreScopes, lists_of}
use Rattle.rox_scopes.specs.NamespaceViews.{namespace_view}
use Rattle.rox_scopes.specs.declared.namespace.Namespace.{Namespace}
use Rattle.rox_scopes.specs.Bindings.{AreBindingsOf}
use Rattle.rox_scopes.specs.declared.bindings.PrefixBindings.{PrefixBindings}
use Rattle.rox_scopes.specs.declared.stored_scope.Scope.{Scope}
use Rattle.rox_storage.specs.Storage.{storage_bytes, is_borrowed}
use Rattle.rox_names.specs.declared.unresolved_attribute.UnresolvedAttribute.{UnresolvedAttribute}

-- Whether `xml` is among the declared prefixes.
abbrev pub declares_xml : List NamespaceDecl → Bool
declares_xml own = list_any (λ d. is_xml d.prefix) own

-- An attribute of the tag that is being read, as written.
abbrev pub unresolved_view : UnresolvedAttribute → Attribute
unresolved_view t = record {
  start = t.start;
  name_end = t.name_end;
  value_start = t.value_start;
  end = t.end;
  name = name_view t.name;
  value = storage_bytes t.value;
  borrowed = is_borrowed t.value;
}

-- What a tag declares is listed from `from` on, each prefix once. The keys are its prefixes if there are more than 16.
pub record HasOwn (table : List Namespace) (listed : List ℕ) (keys : List (Option (Bor (List ℕ)))) (from : ℕ) : Type 0 where
  pub places : ArePlaces (length table) listed
  pub own : from ≤ length listed
  pub few : length table ≤ most_pairs
  pub prefix_set : IsPrefixSet (map namespace_view table) (drop from listed) keys
  pub once : PrefixesOnce (entries (map namespace_view table) (drop from listed))

-- The table of pairs, the listed places and the flag for `xml` are those of the declarations `own`. When the tag began, the table
-- was `known` and the places `before`.
pub record Declares (known : List NamespaceDecl) (before : List ℕ) (namespaces : List NamespaceDecl) (listed : List ℕ) (xml : Bool) (own : List NamespaceDecl) : Type 0 where
  pub names_are : namespaces ≡ with_new known (listable_of own)
  pub few : length namespaces ≤ most_pairs
  pub xml_is : xml ≡ declares_xml own
  pub mine : List ℕ
  pub listed_are : listed ≡ before ++ mine
  pub places : ArePlaces (length namespaces) mine
  pub same : entries namespaces mine ≡ listable_of own

-- The declarations of the tag after one more is read, or its fault.
abbrev pub Declared : (known : List NamespaceDecl) (before : List ℕ) (namespaces : List NamespaceDecl) (listed : List ℕ) → Result Bool Failure → TagSoFar → Result TagSoFar Fault → Type 0
Declared known before namespaces listed (Ok xml) h read = (own : List NamespaceDecl) × (read ≡ Ok (record { own = own; attributes = h.attributes })) × Declares known before namespaces listed xml own
Declared known before namespaces listed (Err e) h read = Fails e read

-- A declaration is read. What the tag declares is listed, other scopes list what they did, and bindings stay valid.
pub record DeclaresOne (old : List Namespace) (listed : List ℕ) (new : List Namespace) (after : List ℕ) (keys : List (Option (Bor (List ℕ)))) (from : ℕ) (xml : Bool) (taken : UnresolvedAttribute) (result : Result Bool Failure) : Type 0 where
  pub own : OnOk result (HasOwn new after keys from)
  pub lists : OnOk result ((scopes : List Scope) → AreScopes from scopes → lists_of (map namespace_view new) after scopes ≡ lists_of (map namespace_view old) listed scopes)
  pub grown : OnOk result ((lists : List (List NamespaceDecl)) (x : PrefixBindings) → AreBindingsOf (map namespace_view old) lists x → AreBindingsOf (map namespace_view new) lists x)
  pub value : (known : List NamespaceDecl) (before : List ℕ) (h : TagSoFar)
      → from ≡ length before → Declares known before (map namespace_view old) listed xml h.own
      → Declared known before (map namespace_view new) after result h (declared known (unresolved_view taken) h)

-- A declaration other than that of `xml` is read as in `DeclaresOne`. The declarations of its tag are all that is listed.
abbrev pub DeclaresNew : (old : List Namespace) (listed : List ℕ) (new : List Namespace) (after : List ℕ) → UnresolvedAttribute → Type 0
DeclaresNew old listed new after taken = (keys : List (Option (Bor (List ℕ)))) → HasOwn old listed keys 0 → DeclaresOne old listed new after keys 0 false taken (Ok false)
