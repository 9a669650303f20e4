-- The bytes in the values of a tree, and the number of its nodes, compared with its text.
use Prim.Native.Char.{code}
use Rattle.std.specs.Prelude.{ℕ, ◌+◌, ◌*◌, ◌≤◌, ◌==◌, List, length, sum_by, count_by}
use Rattle.rox_grammar.specs.Forest.{Forest, Nil, Cons, size}
use Rattle.rox_grammar.specs.Tree.{Node, Element, Text}
use Rattle.rox_grammar.specs.Entities.{most_within}
use Rattle.roxmltree.specs.NodeParts.{attributes_of}

-- The number of bytes in the value of a text, or in the values of an element's attributes.
abbrev pub bytes_of : Node → ℕ
bytes_of (Element start end namespace local listed attributes) = sum_by (λ a. length a.value) attributes
bytes_of (Text start end value borrowed) = length value
bytes_of other = 0

-- The number of bytes in the values of all texts and attributes.
abbrev pub all_bytes : Forest Node → ℕ
all_bytes Nil = 0
all_bytes (Cons node children rest) = bytes_of node + (all_bytes children + all_bytes rest)

-- The number of all attributes.
abbrev pub all_attributes : Forest Node → ℕ
all_attributes Nil = 0
all_attributes (Cons node children rest) = length (attributes_of node) + all_attributes children + all_attributes rest

-- The bytes of the text, and for each `&` in it `longest` bytes, as many times as one reference may open a replacement text.
abbrev pub most_tree_bytes : (text : List ℕ) (longest : ℕ) → ℕ
most_tree_bytes text longest = length text + (most_within + 1) * count_by (λ b. b == code "&") text * longest

-- The values have at most `most_tree_bytes` bytes together, where `longest` bounds the bytes of each replacement text. Nodes,
-- without the root node, and attributes are at most as many together.
pub record IsTreeBounded (text : List ℕ) (longest : ℕ) (tree : Forest Node) : Type 0 where
  pub bytes : all_bytes tree ≤ most_tree_bytes text longest
  pub nodes : size tree + all_attributes tree ≤ most_tree_bytes text longest + 1
