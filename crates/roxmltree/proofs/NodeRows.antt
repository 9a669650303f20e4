-- The row of a node is that of its id in the table of nodes.
use Rattle.std.proofs.Common.{◌≡◌, ℕ, ◌<◌, length, get_or, arith}
use Rattle.rox_grammar.specs.Forest.{Forest, size}
use Rattle.rox_grammar.specs.Tree as tree
use Rattle.rox_rows.specs.Rows.{node_rows}
use Rattle.rox_names.specs.Tables.{HoldsTree}
use Rattle.rox_rows.specs.StoredNodes.{whole_row, high_at}
use Rattle.rox_rows.specs.declared.row.NodeData.{NodeData}
use Rattle.rox_names.specs.declared.tables.Tables.{Tables}
use Rattle.rox_rows.proofs.StoredNodes.{links_are, count_nodes}
use Rattle.roxmltree.specs.declared.nodes.Node.{Node}
use Rattle.roxmltree.proofs.Rows.{row_count}

-- an id of the tree is that of a row
pub in_table : (t : Tables) (f : Forest tree.Node) (i : ℕ) → HoldsTree t f → i < size f → i < length t.nodes.rows.items
in_table t f i h l = omega (arith, count_nodes t.nodes, row_count t f h)

-- what the row of a node says
abbrev pub row_data : Node → NodeData
row_data n = whole_row n.tables.now.nodes.instructions.items (high_at n.tables.now.nodes.high.items n.id.0) n.row.now

pub row_here : (n : Node) → row_data n ≡ get_or (node_rows n.tables.now.nodes) n.id.0 (row_data n)
row_here n = links_are n.tables.now.nodes n.id.0 n.row.now (row_data n) (in_table n.tables.now n.document.now.tree n.id.0 n.placed.holds n.in_tree) n.placed.here
