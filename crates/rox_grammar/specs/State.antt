-- How much is read so far, with the open elements, counted from left to right.
use Rattle.std.specs.Prelude.{ℕ, ◌+◌, Bool, true, false, List, ◌++◌, length}
use Rattle.rox_grammar.specs.Forest.{Forest, size}
use Rattle.rox_grammar.specs.Written.{NamespaceDecl, Item, merge}
use Rattle.rox_grammar.specs.Counts.{listable, pairs, attribute_count}
pub use Rattle.rox_grammar.specs.OpenElements.{Open, root, inside, State, depth_of, scope_of, FitsLimits}

abbrev pub is_root : Open → Bool
is_root root = true
is_root (inside start tag before up) = false

-- The number of nodes so far, with the root node and the open elements.
abbrev pub nodes_so_far : Open → Forest Item → ℕ
nodes_so_far root done = 1 + size (merge done)
nodes_so_far (inside start tag before up) done = nodes_so_far up before + (1 + size (merge done))

-- The number of attributes so far.
abbrev pub attributes_so_far : Open → Forest Item → ℕ
attributes_so_far root done = attribute_count done
attributes_so_far (inside start tag before up) done = attributes_so_far up before + (length tag.attributes + attribute_count done)

-- The listed declarations so far, in order.
abbrev pub pairs_so_far : Open → Forest Item → List NamespaceDecl
pairs_so_far root done = pairs done
pairs_so_far (inside start tag before up) done = pairs_so_far up before ++ (listable tag ++ pairs done)
