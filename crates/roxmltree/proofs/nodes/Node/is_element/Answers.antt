use Rattle.roxmltree.proofs.Bare.{row_element}
use Rattle.roxmltree.proofs.NodeRows.{row_data, row_here}
use Rattle.roxmltree.proofs.nodes.Node.is_element.Goals as goal

pub returns : goal.returns
returns c =
    let n = c.args.self.now in
    rw (c.is_element.ensures n.tables.now.nodes.instructions.items) (row_element n.tables.now n.document.now.tree _ (row_data n) n.placed.holds n.in_tree (row_here n))
