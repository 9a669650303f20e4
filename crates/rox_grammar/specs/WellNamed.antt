-- Names in their namespaces (Namespaces in XML 1.0).
use Rattle.std.specs.Prelude.{◌≡◌, ◌&&◌, ◌||◌, not, Bool, true, false, List, [], Some, bytes_eq, if◌then◌else◌, codes}
use Rattle.std.specs.List.{list_all, IsDistinct}
use Rattle.rox_grammar.specs.Forest.{Forest, Nil, Cons}
use Rattle.rox_grammar.specs.Written.{Name, Attribute, NamespaceDecl, Tag, Item, Element}
use Rattle.rox_grammar.specs.Tree.{xml_uri, xmlns_uri, same_prefix, is_xml, is_declared, scope_in, attribute_namespace}

-- NS 3: the prefix `xml` may be bound only to its URI, no other prefix to that URI, and no prefix to that of `xmlns`. Departures:
-- NS 3 also forbids to declare the prefix `xmlns`, and requires a URI reference or the empty text as the value. NS 5 (No Prefix
-- Undeclaring) forbids the empty text for a prefix.
abbrev pub may_declare : NamespaceDecl → Bool
may_declare d = not (bytes_eq d.uri xmlns_uri) && (if is_xml d.prefix then bytes_eq d.uri xml_uri else not (bytes_eq d.uri xml_uri))

-- Each declaration is allowed, and no two declare one prefix, as XML 3.1 (Unique Att Spec) requires.
abbrev pub AreDeclarable : List NamespaceDecl → Type 0
AreDeclarable ds = (list_all may_declare ds ≡ true) × IsDistinct (λ d e. same_prefix d.prefix e.prefix) ds

-- NS 5: the prefix of an attribute is empty, `xml` or listed.
abbrev pub is_known : List NamespaceDecl → Name → Bool
is_known scope n = bytes_eq n.prefix [] || (bytes_eq n.prefix (codes "xml") || is_declared (Some n.prefix) scope)

-- NS 6.3: equal expanded names. Departure: no namespace and the empty URI differ, where NS 6.2 takes them for one.
abbrev pub same_expanded : List NamespaceDecl → Name → Name → Bool
same_expanded scope m n = same_prefix (attribute_namespace scope m) (attribute_namespace scope n) && bytes_eq m.local n.local

-- Each prefix is known, and no two attributes have one expanded name.
abbrev pub AreDistinct : List NamespaceDecl → List Attribute → Type 0
AreDistinct scope as' = (list_all (λ a. is_known scope a.name) as' ≡ true) × IsDistinct (λ a b. same_expanded scope a.name b.name) as'

-- NS 5: the prefix of an element is empty or listed. Departure: so the prefix `xml` is refused, which NS 3 declares everywhere.
abbrev pub may_name : List NamespaceDecl → Name → Bool
may_name scope n = bytes_eq n.prefix [] || is_declared (Some n.prefix) scope

-- The names of a tag whose element lists `scope` are valid. NS 3: an element must not have the prefix `xmlns`.
abbrev pub IsWellNamed : List NamespaceDecl → Tag → Type 0
IsWellNamed scope t = (bytes_eq t.name.prefix (codes "xmlns") ≡ false) × AreDeclarable t.declarations × AreDistinct scope t.attributes × (may_name scope t.name ≡ true)

-- If the item is an element, its names are valid. `scope` is what it lists.
abbrev pub ItemWellNamed : List NamespaceDecl → Item → Type 0
ItemWellNamed scope (Element start end t) = IsWellNamed scope t
ItemWellNamed scope other = Unit {0}

-- The names of a row of siblings whose parent lists `above` are valid.
abbrev pub AreWellNamed : List NamespaceDecl → Forest Item → Type 0
AreWellNamed above Nil = Unit {0}
AreWellNamed above (Cons item children rest) = ItemWellNamed (scope_in above item) item × AreWellNamed (scope_in above item) children × AreWellNamed above rest
