-- The state of reading: what is read so far, and which elements are open.
use Rattle.std.specs.Prelude.{ℕ, ◌+◌, ◌<◌, ◌≤◌, max, List, []}
use Rattle.rox_grammar.specs.Forest.{Forest, Nil, Cons, join, size}
use Rattle.rox_grammar.specs.Written.{NamespaceDecl, Tag, Item, Element, merge}
use Rattle.rox_grammar.specs.Tree.{listed}
use Rattle.rox_grammar.specs.Document.{pairs_in, distinct_count, attributes_in, most_attributes, most_pairs, IsWithinLimits}

-- The open elements, innermost first: the start of each, its tag, and the siblings before it.
pub data Open : Type 0 where
  root : Open
  inside : (start : ℕ) → (tag : Tag) → (before : Forest Item) → Open → Open

-- The state of reading: its offset, the items that are read, and the open elements.
pub record State : Type 0 where
  pub at : ℕ
  -- The items of the innermost open element, or at the top.
  pub done : Forest Item
  pub stack : Open

-- The number of open elements.
abbrev pub depth_of : Open → ℕ
depth_of root = 0
depth_of (inside start tag before up) = depth_of up + 1

-- The namespaces that the innermost open element lists.
abbrev pub scope_of : Open → List NamespaceDecl
scope_of root = []
scope_of (inside start tag before up) = listed (scope_of up) tag.declarations

-- The tree so far, as if each open element ended here.
abbrev pub tree_so_far : Open → Forest Item → Forest Item
tree_so_far root done = merge done
tree_so_far (inside start tag before up) done = tree_so_far up (join before (Cons (Element start start tag) (merge done) Nil))

-- The tree so far is within the limits. The root node by itself always is: with a limit of 0, the first node after it is one too
-- many. A tree never shrinks, so every tree before it is within the limits too.
abbrev pub FitsLimits : (nodes_limit : ℕ) → Open → Forest Item → Type 0
FitsLimits nodes_limit stack done = IsWithinLimits (max nodes_limit 1) (tree_so_far stack done)

-- The tree has too many nodes, with the root node counted, but not too many attributes or pairs: these are counted first.
abbrev pub HasTooManyNodes : (nodes_limit : ℕ) → Forest Item → Type 0
HasTooManyNodes nodes_limit tree = (attributes_in tree ≤ most_attributes) × (distinct_count (pairs_in tree) ≤ most_pairs) × (nodes_limit < 1 + size tree)
