-- Documents, and their limits. How a rule is read:
-- - It relates offsets of the source `src`: what is from `i` up to `j` (or up to `p`), with further offsets between them.
-- - Its premises are read from left to right, and its last term is what they give.
-- - `items`, `before`, `one` and `after` are nodes as written. `openings_left`, or b, c and d, counts openings (Content).
-- - `asked` are the requests for external entities with their answers, and `es` the declared entities, each in order (Doctype).
use Rattle.std.specs.Prelude.{◌≡◌, ℕ, ◌+◌, ◌-◌, ◌^◌, ◌≤◌, Option, Bool, true, false, ◌&&◌, List, [], ◌∷◌, ◌++◌, length, if◌then◌else◌, bytes_eq, IfSome, IsUtf8}
use Rattle.std.specs.List.{list_any}
use Rattle.rox_grammar.specs.Chars.{is_space}
use Rattle.rox_grammar.specs.Forest.{Forest, Nil, Cons, join, size}
use Rattle.rox_grammar.specs.Written.{NamespaceDecl, Item, Element, leaf}
use Rattle.rox_grammar.specs.Tree.{Node, same_prefix, listable_of, document_tree}
use Rattle.rox_grammar.specs.Names.{byte}
use Rattle.rox_grammar.specs.Content.{Inclusion, IsMisc, IsElement}
use Rattle.rox_grammar.specs.TextStart.{after_bom, MayHaveXmlDecl}
use Rattle.rox_grammar.specs.Entities.{Entity, most_within, included_in_main}
use Rattle.rox_grammar.specs.Doctype.{Request, Asked, AsksAt, SubsetTo, IsDoctype}
use Rattle.rox_grammar.specs.WellNamed.{AreWellNamed}

-- XML 2.8 [27] Misc, any number of them, from `i` up to `j`: comments, processing instructions and white space.
pub data Misc (src : List ℕ) : (i j : ℕ) → Forest Item → Type 0 where
  no_misc : (i : ℕ) → Misc src i i Nil
  space : (i j : ℕ) (items : Forest Item) → is_space (byte src i) ≡ true → Misc src (i + 1) j items → Misc src i j items
  an_item : (i j k : ℕ) (item : Item) (items : Forest Item) → IsMisc src i j item → Misc src j k items → Misc src i k (join (leaf item) items)

-- XML 2.8 [22] prolog, read up to `p`, before any document type declaration: its comments and processing instructions.
abbrev pub PrologTo : (src : List ℕ) (p : ℕ) → Forest Item → Type 0
PrologTo src p items = (i : ℕ) × MayHaveXmlDecl src (after_bom src) i × Misc src i p items

-- XML 2.8 [22] prolog, read up to `p`: whether a document type declaration is before `p`, the nodes, the requests for entities,
-- and the entities.
pub data Prolog (src : List ℕ) (p : ℕ) : (dtd : Bool) → Forest Item → List Asked → List Entity → Type 0 where
  with_doctype : (i j : ℕ) (before items after : Forest Item) (asked : List Asked) (es : List Entity) → PrologTo src i before → IsDoctype src i j items asked es
      → Misc src j p after → Prolog src p true (join before (join items after)) asked es
  without_doctype : (before : Forest Item) → PrologTo src p before → Prolog src p false before [] []

-- XML 2.1 [1] document ::= prolog element Misc*, read up to `p` after its element: its nodes. `PrologAt i before` says that its
-- prolog is read up to `i` and has the nodes `before`.
pub data DocumentTo (Includes : Inclusion) (src : List ℕ) (PrologAt : ℕ → Forest Item → Type 0) (p : ℕ) : Forest Item → Type 0 where
  element_and_misc : (i j openings_left : ℕ) (before one after : Forest Item) → PrologAt i before → IsElement true Includes src i j most_within openings_left one
      → Misc src j p after → AreWellNamed [] (join (join before one) after) → DocumentTo Includes src PrologAt p (join (join before one) after)

-- XML 2.1 [1], 2.8 [22] document: whether it has a document type declaration, the requests for its entities, and its top nodes.
pub record ParseOf (src : List ℕ) (dtd : Bool) (asked : List Asked) (tree : Forest Item) : Type 0 where
  pub entities : List Entity
  pub whole : DocumentTo (included_in_main entities) src (λ p items. Prolog src p dtd items asked entities) (length src) tree

-- The number of attributes of an item.
abbrev pub own_attributes : Item → ℕ
own_attributes (Element start end tag) = length tag.attributes
own_attributes other = 0

-- The number of attributes of all items, at any depth.
abbrev pub attributes_in : Forest Item → ℕ
attributes_in Nil = 0
attributes_in (Cons item children rest) = own_attributes item + attributes_in children + attributes_in rest

-- The declarations of an item that it lists.
abbrev pub own_pairs : Item → List NamespaceDecl
own_pairs (Element start end tag) = listable_of tag.declarations
own_pairs other = []

-- The declarations that the items list, at any depth, in document order.
abbrev pub pairs_in : Forest Item → List NamespaceDecl
pairs_in Nil = []
pairs_in (Cons item children rest) = own_pairs item ++ (pairs_in children ++ pairs_in rest)

-- Whether both have one prefix, or both are the default, and both have one URI.
abbrev pub same_pair : NamespaceDecl → NamespaceDecl → Bool
same_pair d e = same_prefix d.prefix e.prefix && bytes_eq d.uri e.uri

-- The number of different pairs of a prefix, or the default, and a URI.
abbrev pub distinct_count : List NamespaceDecl → ℕ
distinct_count [] = 0
distinct_count (d ∷ ds) = if list_any (same_pair d) ds then distinct_count ds else 1 + distinct_count ds

-- The maximum number of attributes of a document.
abbrev pub most_attributes : ℕ
most_attributes = 2 ^ 32 - 2

-- The maximum number of different pairs of a prefix, or the default, and a URI in a document.
abbrev pub most_pairs : ℕ
most_pairs = 2 ^ 16 - 1

-- The tree is within the limits, with the root node counted. Departure: XML has no limits.
pub record IsWithinLimits (nodes_limit : ℕ) (tree : Forest Item) : Type 0 where
  pub nodes : size tree + 1 ≤ nodes_limit
  pub attributes : attributes_in tree ≤ most_attributes
  pub namespaces : distinct_count (pairs_in tree) ≤ most_pairs

-- The text has a parse within the limits, with these answers for its external entities, and this is its tree as readers see it.
pub data IsTreeOf (src : List ℕ) (dtd : Bool) (asked : List Asked) (nodes_limit : ℕ) : Forest Node → Type 0 where
  document : (tops : Forest Item) → ParseOf src dtd asked tops → IsWithinLimits nodes_limit tops → IsTreeOf src dtd asked nodes_limit (document_tree (length src) tops)

-- There is a document type declaration only if it is allowed. Departure: XML 2.8 always allows it.
abbrev pub Permits : (allow dtd : Bool) → Type 0
Permits allow dtd = dtd ≡ true → allow ≡ true

-- After the requests `asked`, this request is next. The declaration of an external entity is read up to `p`, where the request is
-- made, and all before it is valid.
pub data AsksNext (src : List ℕ) (asked : List Asked) (request : Request) (p : ℕ) : Type 0 where
  at_entity : (i j : ℕ) (before items : Forest Item) → PrologTo src i before → SubsetTo src i j items asked → AsksAt src j request p → AsksNext src asked request p

-- The requests that are made while the text is read, in order, with their answers. The declaration for each request is next after
-- those before it. Each answer is a text in UTF-8, or none. No request is made if no document type declaration is allowed.
pub data HasAsked (src : List ℕ) (allow : Bool) : List Asked → Type 0 where
  nothing : HasAsked src allow []
  one_more : (asked : List Asked) (request : Request) (p : ℕ) (answer : Option (List ℕ)) → allow ≡ true → AsksNext src asked request p
      → IfSome answer IsUtf8 → HasAsked src allow (asked ++ record { request = request; answer = answer } ∷ [])
