-- What the row of a node says about its links.
use Rattle.std.specs.Prelude.{◌≡◌, ◌+◌, ◌^◌, ◌<◌, Some, None}
use Rattle.rox_grammar.specs.Forest.{size}
use Rattle.rox_rows.specs.declared.stored_node.StoredNode.{StoredNode}
use Rattle.roxmltree.specs.Places.{place, parent}
use Rattle.roxmltree.specs.NodeRef.{id_of, tree_of}
use Rattle.roxmltree.specs.declared.nodes.Node.{Node}

-- The row names the parent, if there is one, and the id after the last descendant. All ids are below 2^32.
pub record HasLinks (node : Node) (row : StoredNode) : Type 0 where
  pub no_parent : id_of node ≡ 0 → parent (tree_of node) (id_of node) ≡ None
  pub parent_is : 0 < id_of node → parent (tree_of node) (id_of node) ≡ Some row.parent
  pub subtree_end : row.subtree_end ≡ id_of node + (place (tree_of node) (id_of node)).count
  pub whole : id_of node ≡ 0 → row.subtree_end ≡ size (tree_of node)
  pub few : size (tree_of node) < 2 ^ 32
