use Rattle.std.proofs.Common.{◌≡◌, true, subst}
use Rattle.rox_exchange.proofs.Wholes.{tree_of_text}
use Rattle.rox_exchange.proofs.ExchangeLaws.{commutes}
use Rattle.roxmltree.specs.SelfContained.{stands_alone}
use Rattle.roxmltree.specs.DocumentView.{DocumentView}
use Rattle.roxmltree.specs.NodeRef.{id_of, document_of, tree_of}
use Rattle.roxmltree.specs.Elements.{root_id}
use Rattle.roxmltree.proofs.Plain.{alone_tree, alone_contained}
use Rattle.rox_laws.proofs.exchanges.exchanges_commute.Goals as goal

pub returns : goal.returns
returns c =
    let n = c.args.first in
    let m = c.args.second in
    let one = c.args.one.now in
    let two = c.args.two.now in
    let alone = subst (λ (d : DocumentView). stands_alone d (id_of m) ≡ true) c.requires.document c.requires.second in
    commutes (document_of n).text (tree_of n) (id_of n) one.text one.tree (root_id one.tree) (id_of m) two.text two.tree (root_id two.tree)
    c.whole.ensures.utf8 c.document_is_whole.ensures.utf8 c.document_is_whole-2.ensures.utf8
    (tree_of_text (document_of n).text 4294967295 (tree_of n) (alone_tree (document_of n) (id_of n) c.whole.ensures.utf8 c.requires.first c.whole.ensures.parsed)) (tree_of_text one.text 4294967295 one.tree (alone_tree one (root_id one.tree) c.document_is_whole.ensures.utf8 c.requires.one c.document_is_whole.ensures.parsed)) (tree_of_text two.text 4294967295 two.tree (alone_tree two (root_id two.tree) c.document_is_whole-2.ensures.utf8 c.requires.two c.document_is_whole-2.ensures.parsed))
    (alone_contained (document_of n) (id_of n) c.requires.first) (alone_contained (document_of n) (id_of m) alone) (alone_contained one (root_id one.tree) c.requires.one)
    (alone_contained two (root_id two.tree) c.requires.two) c.requires.separate
