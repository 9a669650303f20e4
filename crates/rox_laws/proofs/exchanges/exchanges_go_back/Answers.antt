use Rattle.rox_exchange.proofs.Wholes.{tree_of_text}
use Rattle.rox_exchange.proofs.ExchangeLaws.{goes_back}
use Rattle.roxmltree.specs.NodeRef.{id_of, document_of, tree_of}
use Rattle.roxmltree.specs.Elements.{root_id}
use Rattle.roxmltree.proofs.Plain.{alone_tree, alone_contained}
use Rattle.rox_laws.proofs.exchanges.exchanges_go_back.Goals as goal

pub returns : goal.returns
returns c =
    let n = c.args.node in
    let other = c.args.other.now in
    goes_back (document_of n).text (tree_of n) (id_of n) other.text other.tree (root_id other.tree) c.whole.ensures.utf8 c.document_is_whole.ensures.utf8
    (tree_of_text (document_of n).text 4294967295 (tree_of n) (alone_tree (document_of n) (id_of n) c.whole.ensures.utf8 c.requires.mine c.whole.ensures.parsed)) (tree_of_text other.text 4294967295 other.tree (alone_tree other (root_id other.tree) c.document_is_whole.ensures.utf8 c.requires.others c.document_is_whole.ensures.parsed)) (alone_contained (document_of n) (id_of n) c.requires.mine) (alone_contained other (root_id other.tree) c.requires.others)
