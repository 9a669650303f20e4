-- The tree of a document as its readers see it: each name with its namespace (XML Information Set 2). Departure: the root node
-- also has the comments and processing instructions of the document type declaration as children, which 2.1 leaves out.
use Rattle.std.specs.Prelude.{ℕ, Bool, not, List, [], ◌∷◌, ◌++◌, Option, Some, None, bytes_eq, filter, map, if◌then◌else◌, codes}
use Rattle.std.specs.List.{list_any}
use Rattle.std.specs.Option.{option_eq}
use Rattle.rox_grammar.specs.Forest.{Forest, Nil, Cons}
use Rattle.rox_grammar.specs.Written as written
use Rattle.rox_grammar.specs.Written.{Name, NamespaceDecl, Item}

-- An attribute as its readers see it. Its offsets are those of the attribute as written.
pub record Attribute : Type 0 where
  pub start : ℕ
  pub name_end : ℕ
  pub value_start : ℕ
  pub end : ℕ
  -- The namespace is `None` if the name has no prefix.
  pub namespace : Option (List ℕ)
  pub local : List ℕ
  pub value : List ℕ
  pub borrowed : Bool

-- A node as its readers see it, with its range. `borrowed` says whether the value of a text is a slice of the source.
pub data Node : Type 0 where
  Root : (end : ℕ) → Node
  -- An element: its range, its namespace and local name, the namespaces that it lists, and its attributes.
  Element : (start end : ℕ) → (namespace : Option (List ℕ)) → (local : List ℕ) → (listed : List NamespaceDecl) → (attributes : List Attribute) → Node
  Text : (start end : ℕ) → (value : List ℕ) → (borrowed : Bool) → Node
  Comment : (start end : ℕ) → (text : List ℕ) → Node
  PI : (start end : ℕ) → (target : List ℕ) → (value : Option (List ℕ)) → Node

-- NS 3: the URIs of `xml` and of `xmlns`.
abbrev pub xml_uri : List ℕ
xml_uri = codes "http://www.w3.org/XML/1998/namespace"

abbrev pub xmlns_uri : List ℕ
xmlns_uri = codes "http://www.w3.org/2000/xmlns/"

-- Whether both are one prefix, or both are the default.
abbrev pub same_prefix : Option (List ℕ) → Option (List ℕ) → Bool
same_prefix p q = option_eq bytes_eq p q

-- Whether the prefix, or the default, is declared in `ds`.
abbrev pub is_declared : Option (List ℕ) → List NamespaceDecl → Bool
is_declared prefix ds = list_any (λ d. same_prefix d.prefix prefix) ds

-- Whether the prefix is `xml`.
abbrev pub is_xml : Option (List ℕ) → Bool
is_xml prefix = same_prefix prefix (Some (codes "xml"))

-- The declarations that are listed: all except those of `xml`, which by NS 3 is in scope everywhere, as `xmlns` is.
abbrev pub listable_of : List NamespaceDecl → List NamespaceDecl
listable_of ds = filter (λ d. not (is_xml d.prefix)) ds

-- NS 6: the namespaces that an element lists: those that it declares, except `xml`, and then those that its parent lists and it
-- does not declare.
abbrev pub listed : List NamespaceDecl → List NamespaceDecl → List NamespaceDecl
listed above own = listable_of own ++ filter (λ d. not (is_declared d.prefix own)) above

-- The URI that is listed for a prefix, or for the default.
abbrev pub uri_of : List NamespaceDecl → Option (List ℕ) → Option (List ℕ)
uri_of [] prefix = None
uri_of (d ∷ ds) prefix = if same_prefix d.prefix prefix then Some d.uri else uri_of ds prefix

-- The text, or `None` if it is empty.
abbrev pub none_if_empty : List ℕ → Option (List ℕ)
none_if_empty [] = None
none_if_empty (b ∷ bs) = Some (b ∷ bs)

-- NS 6.2: the namespace of an element's name. Without prefix it is the default. Departure: if the default is the empty text, the
-- namespace is the empty text, where NS 6.2 has none.
abbrev pub element_namespace : List NamespaceDecl → Name → Option (List ℕ)
element_namespace scope name = uri_of scope (none_if_empty name.prefix)

-- NS 6.2, 3: the namespace of an attribute's name. Without a prefix there is none, and `xml` has its own.
abbrev pub attribute_namespace : List NamespaceDecl → Name → Option (List ℕ)
attribute_namespace scope name =
    if bytes_eq name.prefix [] then None else if bytes_eq name.prefix (codes "xml") then Some xml_uri else uri_of scope (Some name.prefix)

-- An attribute as its readers see it, if its element lists `scope`.
abbrev pub attribute_in : List NamespaceDecl → written.Attribute → Attribute
attribute_in scope a =
    record { start = a.start; name_end = a.name_end; value_start = a.value_start; end = a.end; namespace = attribute_namespace scope a.name; local = a.name.local; value = a.value; borrowed = a.borrowed }

-- The namespaces that an item lists, if its parent lists `above`. An item that is not an element has those of its parent.
abbrev pub scope_in : List NamespaceDecl → Item → List NamespaceDecl
scope_in above (written.Element start end tag) = listed above tag.declarations
scope_in above other = above

-- An item as its readers see it. `scope` is what it lists, or what its parent lists if it is not an element.
abbrev pub node_in : List NamespaceDecl → Item → Node
node_in scope (written.Element start end tag) = Element start end (element_namespace scope tag.name) tag.name.local scope (map (attribute_in scope) tag.attributes)
node_in scope (written.Text start end value borrowed) = Text start end value borrowed
node_in scope (written.Comment start end text) = Comment start end text
node_in scope (written.PI start end target value) = PI start end target value

-- The siblings as their readers see them, if their parent lists `above`.
abbrev pub resolved : List NamespaceDecl → Forest Item → Forest Node
resolved above Nil = Nil
resolved above (Cons item children rest) = Cons (node_in (scope_in above item) item) (resolved (scope_in above item) children) (resolved above rest)

-- The tree of a text of `end` bytes: the top nodes under a root node.
abbrev pub document_tree : ℕ → Forest Item → Forest Node
document_tree end tops = Cons (Root end) (resolved [] tops) Nil
