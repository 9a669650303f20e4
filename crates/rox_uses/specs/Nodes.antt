-- The nodes of a document, and the values of their attributes.
use Rattle.std.specs.Prelude.{ℕ, List, Option, None, option_map}
use Rattle.roxmltree.specs.Tree as tree
use Rattle.roxmltree.specs.DocumentView.{DocumentView}
use Rattle.roxmltree.specs.ExpandedNames.{named}
use Rattle.roxmltree.specs.Places.{place, children}
use Rattle.roxmltree.specs.NodeParts.{node_at, attributes_of}
use Rattle.roxmltree.specs.NodeRef.{node_refs, document_of, tree_of, id_of}
use Rattle.roxmltree.specs.declared.nodes.Node.{Node}

-- All nodes of a document, in document order.
abbrev pub nodes_of : DocumentView → List (DocumentView × ℕ)
nodes_of document = node_refs document (place document.tree 0).descendants

-- The children of a node, in order.
abbrev pub children_of : Node → List (DocumentView × ℕ)
children_of node = node_refs (document_of node) (children (tree_of node) (id_of node))

-- The node in its tree.
abbrev pub item_at : DocumentView × ℕ → tree.Node
item_at node_ref = node_at node_ref.0.tree node_ref.1

-- The value of the node's attribute with this name, without a namespace.
abbrev pub value_at : List ℕ → DocumentView × ℕ → Option (List ℕ)
value_at name node_ref = option_map (λ a. a.value) (named (None, name) (attributes_of (item_at node_ref)))
