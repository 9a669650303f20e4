-- The size and the number of the items of a text, compared with the text.
use Prim.Native.Char.{code}
use Rattle.std.specs.Prelude.{ℕ, ◌+◌, ◌*◌, ◌≤◌, ◌==◌, List, [], ◌∷◌, length, count_by}
use Rattle.rox_grammar.specs.Forest.{Forest, Nil, Cons, size}
use Rattle.rox_grammar.specs.Written.{Attribute, Item, Element, Text}
use Rattle.rox_grammar.specs.Entities.{Entity, most_within}
use Rattle.rox_grammar.specs.Counts.{attribute_count}
use Rattle.rox_grammar.specs.Expansion.{longest}

abbrev pub value_bytes_of : List Attribute → ℕ
value_bytes_of [] = 0
value_bytes_of (a ∷ as') = length a.value + value_bytes_of as'

abbrev pub own_bytes : Item → ℕ
own_bytes (Element start end t) = value_bytes_of t.attributes
own_bytes (Text start end value borrowed) = length value
own_bytes other = 0

-- The bytes of the values of all texts and attributes together.
abbrev pub bytes_in : Forest Item → ℕ
bytes_in Nil = 0
bytes_in (Cons item children rest) = own_bytes item + (bytes_in children + bytes_in rest)

-- The bytes of the text, and for each `&` in it the bytes of the longest replacement text, as many times as one reference may
-- open one.
abbrev pub most_bytes : List ℕ → List Entity → ℕ
most_bytes src es = length src + (most_within + 1) * count_by (λ b. b == code "&") src * longest es

-- The values of the tree have at most `most_bytes` bytes together. Its nodes and attributes are at most as many together.
pub record IsBounded (src : List ℕ) (es : List Entity) (tree : Forest Item) : Type 0 where
  pub bytes : bytes_in tree ≤ most_bytes src es
  pub nodes : size tree + attribute_count tree ≤ most_bytes src es
