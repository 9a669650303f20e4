-- Where a prefix is declared in a text as written, and which declaration is the nearest (Namespaces in XML 1.0, 6.1).
use Rattle.std.specs.Prelude.{◌≡◌, ℕ, false, List, [], ◌∷◌, ◌++◌, Option, Some, IsTrue, All, Contains, get_or, codes}
use Rattle.rox_grammar.specs.Forest.{Forest, Nil, Cons}
use Rattle.rox_grammar.specs.Written.{NamespaceDecl, Item, Element}
use Rattle.rox_grammar.specs.Tree.{Node, is_declared, uri_of}
use Rattle.roxmltree.specs.Places.{place}
use Rattle.roxmltree.specs.NodeParts.{node_at, is_element_node, listed_of}

-- The declarations in the start tag of an item.
abbrev pub declared_at : Item → List NamespaceDecl
declared_at (Element start end tag) = tag.declarations
declared_at other = []

-- The declarations of each item, at any depth, in document order.
abbrev pub declared_in : Forest Item → List (List NamespaceDecl)
declared_in Nil = []
declared_in (Cons item children rest) = declared_at item ∷ (declared_in children ++ declared_in rest)

-- The declarations of the node of this id, in a document of these top items. The root node, whose id is 0, has none.
abbrev pub declared_by : Forest Item → ℕ → List NamespaceDecl
declared_by tops id = get_or ([] ∷ declared_in tops) id []

-- The ids of the node and of its ancestors, nearest first.
abbrev pub upwards : Forest Node → ℕ → List ℕ
upwards tree id = id ∷ (place tree id).above

-- None of these nodes declares the prefix, or the default.
abbrev pub NoneDeclares : Forest Item → Option (List ℕ) → List ℕ → Type 0
NoneDeclares tops prefix ids = All (λ id. is_declared prefix (declared_by tops id) ≡ false) ids

-- Of the node of this id and its ancestors, the nearest that declares the prefix, or the default, declares this URI for it.
pub record IsNearest (tops : Forest Item) (tree : Forest Node) (id : ℕ) (prefix : Option (List ℕ)) (uri : List ℕ) : Type 0 where
  pub nearer : List ℕ
  pub declarer : ℕ
  pub farther : List ℕ
  pub way : upwards tree id ≡ nearer ++ declarer ∷ farther
  pub none_nearer : NoneDeclares tops prefix nearer
  pub declares : Contains (declared_by tops declarer) (record { prefix = prefix; uri = uri })

-- The node of this id is an element.
abbrev pub IsElementAt : Forest Node → ℕ → Type 0
IsElementAt tree id = IsTrue (is_element_node (node_at tree id))

-- The prefix `xml`.
abbrev pub xml : Option (List ℕ)
xml = Some (codes "xml")

-- The URI that the node of this id lists for a prefix, or for the default.
abbrev pub listed_uri : Forest Node → ℕ → Option (List ℕ) → Option (List ℕ)
listed_uri tree id prefix = uri_of (listed_of (node_at tree id)) prefix
