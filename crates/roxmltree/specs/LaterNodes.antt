-- The nodes after a node in document order: the measure of a recursion over children.
use Rattle.std.specs.Prelude.{◌≡◌, ℕ, ◌-◌, ◌<◌}
use Rattle.rox_grammar.specs.Forest.{size}
use Rattle.roxmltree.specs.DocumentView.{DocumentView}
use Rattle.roxmltree.specs.NodeRef.{id_of, tree_of}
use Rattle.roxmltree.specs.declared.nodes.Node.{Node}

-- The second node is in the document of the first and has a greater id. So fewer nodes are left from it on.
pub record IsLater (node later : DocumentView × ℕ) : Type 0 where
  pub same_document : later.0 ≡ node.0
  pub greater : node.1 < later.1
  pub inside : later.1 < size node.0.tree
  pub fewer : size later.0.tree - later.1 < size node.0.tree - node.1

-- The number of nodes from this one on, in document order.
abbrev pub nodes_left_from : Node → ℕ
nodes_left_from node = size (tree_of node) - id_of node
