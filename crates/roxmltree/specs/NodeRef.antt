-- A node as callers see it: its document and its id.
use Rattle.std.specs.Prelude.{ℕ, List, map}
use Rattle.rox_grammar.specs.Forest.{Forest}
use Rattle.rox_grammar.specs.Tree as grammar
use Rattle.roxmltree.specs.NodeParts.{node_at}
use Rattle.roxmltree.specs.DocumentView.{DocumentView}
use Rattle.roxmltree.specs.declared.nodes.NodeId.{NodeId}
use Rattle.roxmltree.specs.declared.nodes.Node.{Node}

-- The id as a number.
abbrev pub number : NodeId → ℕ
number id = id.0

-- The id of a node. `document_of` is its document, `tree_of` is the tree of its document, and `item_of` is the node in that tree.
abbrev pub id_of : Node → ℕ
id_of node = number node.id

abbrev pub document_of : Node → DocumentView
document_of node = node.document.now

abbrev pub tree_of : Node → Forest grammar.Node
tree_of node = (document_of node).tree

abbrev pub item_of : Node → grammar.Node
item_of node = node_at (tree_of node) (id_of node)

-- The document and the id of a node.
abbrev pub node_ref : Node → DocumentView × ℕ
node_ref node = (document_of node, id_of node)

-- The nodes of these ids.
abbrev pub node_refs : DocumentView → List ℕ → List (DocumentView × ℕ)
node_refs document ids = map (λ id. (document, id)) ids
