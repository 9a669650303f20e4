use Rattle.roxmltree.proofs.Bare.{row_item, row_content, stripped_again}
use Rattle.roxmltree.proofs.NodeRows.{row_data, row_here}
use Rattle.roxmltree.proofs.nodes.Node.kind.Goals as goal

pub returns-clause-item : goal.returns-clause-item
returns-clause-item c =
    let n = c.args.self.now in
    let x = row_data n in
    rw c.kind.ensures (stripped_again x.start x.end x.kind _ (row_item n.tables.now n.document.now.tree _ x n.placed.holds n.in_tree (row_here n)))

pub returns-clause-content : goal.returns-clause-content
returns-clause-content c =
    let n = c.args.self.now in
    rw c.kind.ensures (row_content n.tables.now n.document.now.tree _ (row_data n) n.placed.holds n.in_tree (row_here n))
