use Rattle.std.proofs.Common.{length, arith}
use Rattle.roxmltree.proofs.Rows.{row_count, row_next, row_parent, row_no_parent, row_whole}
use Rattle.roxmltree.proofs.Tops.{IsDocument, is_document}
use Rattle.roxmltree.proofs.NodeRows.{row_data, row_here}
use Rattle.roxmltree.proofs.nodes.Node.row.Goals as goal

pub returns : goal.returns
returns c =
    let n = c.args.self.now in
    let document : IsDocument (length n.document.now.text) n.document.now.tree = is_document n.document.now.text 4294967295 n.document.now.tree c.whole.ensures.parsed.1 in
    record {
      no_parent = row_no_parent _ n.document.now.tree _ document;
      parent_is = row_parent n.tables.now _ n.document.now.tree _ _ n.placed.holds document n.in_tree (row_here n);
      subtree_end = row_next n.tables.now n.document.now.tree _ (row_data n) n.placed.holds n.in_tree (row_here n);
      whole = row_whole n.tables.now _ n.document.now.tree _ _ n.placed.holds document n.in_tree (row_here n);
      few = omega (arith, n.placed.holds.few, row_count n.tables.now n.document.now.tree n.placed.holds);
    }
