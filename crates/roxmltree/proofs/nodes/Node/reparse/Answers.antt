use Rattle.std.proofs.Common.{arith}
use Rattle.roxmltree.specs.NodeRef.{id_of, document_of, tree_of}
use Rattle.roxmltree.proofs.Sliced.{is_reparse, only_memory, no_other, if_err}
use Rattle.roxmltree.proofs.Plain.{alone_tree, alone_contained}
use Rattle.roxmltree.proofs.nodes.Node.reparse.Goals as goal

pub returns-clause-node : goal.returns-clause-node
returns-clause-node c = grind (arith, is_reparse, alone_tree)

pub returns-clause-memory : goal.returns-clause-memory
returns-clause-memory c =
    let n = c.args.self.now in
    if_err c.parse.result _ _
    (λ e none. only_memory e (λ other. none other _ (no_other (document_of n).text (tree_of n) (id_of n) c.whole.ensures.utf8 (alone_tree (document_of n) (id_of n) c.whole.ensures.utf8 c.requires c.whole.ensures.parsed) n.in_tree (alone_contained (document_of n) (id_of n) c.requires) c.own_text.result.now c.own_text.ensures)))
    c.parse.ensures.no_parse
