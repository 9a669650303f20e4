use Rattle.roxmltree.specs.NodeRef.{id_of, document_of}
use Rattle.roxmltree.proofs.Plain.{plain_document}
use Rattle.rox_laws.proofs.ElementCuts.{element_slice}
use Rattle.rox_laws.proofs.laws.element_is_a_slice.Goals as goal

pub returns : goal.returns
returns c =
    let d = document_of c.args.element in
    let is_tree = plain_document d c.whole.ensures.utf8 c.requires.no_doctype c.whole.ensures.parsed in
    let slice = element_slice d.text 4294967295 d.tree c.whole.ensures.utf8 is_tree (id_of c.args.element) c.requires.element in
    record { ordered = slice.0; starts = slice.1; ends = slice.2 }
