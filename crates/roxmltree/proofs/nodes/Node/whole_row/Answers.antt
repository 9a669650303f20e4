use Rattle.std.proofs.Common.{arith}
use Rattle.roxmltree.proofs.Bare.{row_item}
use Rattle.roxmltree.proofs.NodeRows.{in_table}
use Rattle.roxmltree.proofs.nodes.Node.whole_row.Goals as goal

pub row-requires : goal.row-requires
row-requires c = grind (arith, in_table)

pub returns : goal.returns
returns c =
    let n = c.args.self.now in
    row_item n.tables.now n.document.now.tree _ _ n.placed.holds n.in_tree c.row.ensures
