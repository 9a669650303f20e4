use Rattle.rox_exchange.proofs.ExchangeLaws.{stays_contained}
use Rattle.roxmltree.specs.NodeRef.{id_of, document_of, tree_of}
use Rattle.roxmltree.specs.Elements.{root_id}
use Rattle.roxmltree.proofs.Plain.{alone_contained}
use Rattle.rox_laws.proofs.exchanges.elements_stay_contained.Goals as goal

pub returns : goal.returns
returns c =
    let n = c.args.node in
    let other = c.args.other.now in
    stays_contained (tree_of n) (id_of n) other.tree (root_id other.tree) (alone_contained (document_of n) (id_of n) c.requires.mine) (alone_contained other (root_id other.tree) c.requires.others)
