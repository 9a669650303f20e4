-- An element by itself, moved to another offset, and put in the place of another element. A node is named by its id, its index in
-- preorder: the first node of a row of siblings has the id 0.
use Rattle.std.specs.Prelude.{◌≡◌, ℕ, zero, suc, ◌+◌, ◌-◌, ◌&&◌, Bool, true, false, List, [], ◌∷◌, ◌++◌, map, length, take, drop, nat_lt, if◌then◌else◌}
use Rattle.rox_grammar.specs.Forest.{Forest, Nil, Cons, join, size}
use Rattle.rox_grammar.specs.Written.{NamespaceDecl, Item}
use Rattle.rox_grammar.specs.Tree.{Attribute, Node, Root, Element, Text, Comment, PI, document_tree}
use Rattle.rox_grammar.specs.NodeRanges.{is_element_node, start_of, end_of}
use Rattle.rox_grammar.specs.Names.{slice}
use Rattle.rox_grammar.specs.Document.{ParseOf}

-- ---- Moves.

-- A move by `add` bytes to the right, and then by `sub` bytes to the left. It is used only where `add + i` is at least `sub`.
pub record Move : Type 0 where
  pub add : ℕ
  pub sub : ℕ

-- The offset `i` after a move.
abbrev pub moved : Move → ℕ → ℕ
moved m i = i + m.add - m.sub

abbrev pub moved_attribute : Move → Attribute → Attribute
moved_attribute m a = record a { start = moved m a.start; name_end = moved m a.name_end; value_start = moved m a.value_start; end = moved m a.end }

-- The node with all its offsets moved.
abbrev pub moved_node : Move → Node → Node
moved_node m (Root end) = Root (moved m end)
moved_node m (Element start end namespace local listed attributes) = Element (moved m start) (moved m end) namespace local listed (map (moved_attribute m) attributes)
moved_node m (Text start end value borrowed) = Text (moved m start) (moved m end) value borrowed
moved_node m (Comment start end text) = Comment (moved m start) (moved m end) text
moved_node m (PI start end target value) = PI (moved m start) (moved m end) target value

-- The nodes, at any depth, with all their offsets moved.
abbrev pub shifted : Move → Forest Node → Forest Node
shifted m Nil = Nil
shifted m (Cons node children rest) = Cons (moved_node m node) (shifted m children) (shifted m rest)

-- The node with only its end moved, because something in it grew or shrank.
abbrev pub stretched : Move → Node → Node
stretched m (Root end) = Root (moved m end)
stretched m (Element start end namespace local listed attributes) = Element start (moved m end) namespace local listed attributes
stretched m other = other

-- ---- A node of a tree, by its id.

-- The node of this id with its descendants, and no other node.
abbrev pub subtree : Forest Node → ℕ → Forest Node
subtree Nil id = Nil
subtree (Cons node children rest) zero = Cons node children Nil
subtree (Cons node children rest) (suc id) = if nat_lt id (size children) then subtree children id else subtree rest (id - size children)

-- The siblings with the nodes `one` in the place of the node of this id and its descendants. What follows that node is moved, and
-- so are the ends of its ancestors.
abbrev pub exchanged : Move → Forest Node → Forest Node → ℕ → Forest Node
exchanged m one Nil id = Nil
exchanged m one (Cons node children rest) zero = join one (shifted m rest)
exchanged m one (Cons node children rest) (suc id) =
    if nat_lt id (size children) then Cons (stretched m node) (exchanged m one children id) (shifted m rest)
    else Cons node children (exchanged m one rest (id - size children))

abbrev pub none_of : List NamespaceDecl → Bool
none_of [] = true
none_of (d ∷ ds) = false

-- Whether the node lists no namespace.
abbrev pub lists_none : Node → Bool
lists_none (Element start end namespace local listed attributes) = none_of listed
lists_none other = true

-- Whether the node of this id is an element of which no ancestor lists a namespace (NS 6). Then the element's own text gives each
-- name in it its namespace.
abbrev pub self_contained : Forest Node → ℕ → Bool
self_contained Nil id = false
self_contained (Cons node children rest) zero = is_element_node node
self_contained (Cons node children rest) (suc id) =
    if nat_lt id (size children) then lists_none node && self_contained children id
    else self_contained rest (id - size children)

-- The start of the first node of a row of siblings.
abbrev pub row_start : Forest Node → ℕ
row_start Nil = 0
row_start (Cons node children rest) = start_of node

abbrev pub row_end : Forest Node → ℕ
row_end Nil = 0
row_end (Cons node children rest) = end_of node

-- The start of the node of this id.
abbrev pub start_at : Forest Node → ℕ → ℕ
start_at tree id = row_start (subtree tree id)

abbrev pub end_at : Forest Node → ℕ → ℕ
end_at tree id = row_end (subtree tree id)

-- ---- What the calls return.

-- The text with these bytes in the place of those from `i` up to `j`.
abbrev pub replaced : List ℕ → ℕ → ℕ → List ℕ → List ℕ
replaced text i j bytes = take i text ++ (bytes ++ drop j text)

-- The text is a document without a document type declaration, whatever the limits are, and this is its tree.
pub record HasTree (text : List ℕ) (tree : Forest Node) : Type 0 where
  pub written : Forest Item
  pub parse : ParseOf text false [] written
  pub shown : tree ≡ document_tree (length text) written

-- The document of the slice of a node. Its tree is a root node with that node, moved to the start of the text.
pub record IsReparse (tree : Forest Node) (text : List ℕ) (id : ℕ) (own : Forest Node) (own_text : List ℕ) : Type 0 where
  pub text_is : own_text ≡ slice text (start_at tree id) (end_at tree id)
  pub tree_is : own ≡ Cons (Root (length own_text)) (shifted (record { add = 0; sub = start_at tree id }) (subtree tree id)) Nil

-- The move of what follows the node, if a node of the other tree replaces it.
abbrev pub change : Forest Node → ℕ → Forest Node → ℕ → Move
change tree id other at = record { add = end_at other at - start_at other at; sub = end_at tree id - start_at tree id }

-- The tree with a node of the other tree in the place of the node of this id.
abbrev pub with_other : Forest Node → ℕ → Forest Node → ℕ → Forest Node
with_other tree id other at =
    exchanged (change tree id other at) (shifted (record { add = start_at tree id; sub = start_at other at }) (subtree other at)) tree id

-- The text with the slice of a node of the other document in the place of the slice of the node of this id.
abbrev pub text_with : Forest Node → List ℕ → ℕ → Forest Node → List ℕ → ℕ → List ℕ
text_with tree text id other other_text at = replaced text (start_at tree id) (end_at tree id) (slice other_text (start_at other at) (end_at other at))

-- The text is that of `text_with`. It is a document, and its tree is that of `with_other`.
pub record IsExchange (tree : Forest Node) (text : List ℕ) (id : ℕ) (other : Forest Node) (other_text : List ℕ) (at : ℕ) (own_text : List ℕ) : Type 0 where
  pub text_is : own_text ≡ text_with tree text id other other_text at
  pub tree_is : HasTree own_text (with_other tree id other at)
