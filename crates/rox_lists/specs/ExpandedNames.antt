-- Expanded names (Namespaces in XML 1.0, 2.1).
use Rattle.std.specs.Prelude.{ℕ, Bool, ◌&&◌, List, [], ◌∷◌, Option, Some, None, IsTrue, IsSomeAnd, bytes_eq, slice_get, if◌then◌else◌, codes}
use Rattle.std.specs.Option.{option_map, option_eq}
use Rattle.rox_grammar.specs.Written.{NamespaceDecl}
use Rattle.rox_grammar.specs.Tree.{Attribute, xml_uri, same_prefix}
use Rattle.rox_lists.specs.declared.names.ExpandedName.{ExpandedName}

-- The namespace, if there is one, and the local name.
abbrev pub expanded : ExpandedName → Option (List ℕ) × List ℕ
expanded n = (option_map (λ u. u.now) n.uri, n.local.now)

-- Whether the local names are equal, and both have no namespace or equal URIs.
abbrev pub same_expanded_name : Option (List ℕ) × List ℕ → Option (List ℕ) × List ℕ → Bool
same_expanded_name a b = bytes_eq a.1 b.1 && option_eq bytes_eq a.0 b.0

-- The first attribute with this expanded name.
abbrev pub named : Option (List ℕ) × List ℕ → List Attribute → Option Attribute
named name [] = None
named name (a ∷ others) = if same_expanded_name (a.namespace, a.local) name then Some a else named name others

-- The attribute at the index `place` has this expanded name.
abbrev pub IsNamedAt : Option (List ℕ) × List ℕ → List Attribute → ℕ → Type 0
IsNamedAt name attributes place = IsSomeAnd (slice_get attributes place) (λ a. IsTrue (same_expanded_name (a.namespace, a.local) name))

-- The first attribute with this local name.
abbrev pub named_locally : List ℕ → List Attribute → Option Attribute
named_locally local [] = None
named_locally local (a ∷ others) = if bytes_eq a.local local then Some a else named_locally local others

-- The first namespace with this prefix, or the default for `None`.
abbrev pub first_with_prefix : Option (List ℕ) → List NamespaceDecl → Option NamespaceDecl
first_with_prefix prefix [] = None
first_with_prefix prefix (d ∷ others) = if same_prefix d.prefix prefix then Some d else first_with_prefix prefix others

-- The prefix of the first namespace with this URI. It is `None` if that is the default, or if there is none.
abbrev pub first_prefix : List ℕ → List NamespaceDecl → Option (List ℕ)
first_prefix uri [] = None
first_prefix uri (d ∷ others) = if bytes_eq d.uri uri then d.prefix else first_prefix uri others

-- The prefix of the first namespace with this URI. The URI of `xml` always gives `xml` (Namespaces in XML 1.0, 3).
abbrev pub prefix_of : List ℕ → List NamespaceDecl → Option (List ℕ)
prefix_of uri listed = if bytes_eq uri xml_uri then Some (codes "xml") else first_prefix uri listed
