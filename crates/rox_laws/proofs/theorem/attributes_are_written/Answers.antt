use Rattle.rox_laws.proofs.Selected.{ranges_select, attributes_written, attributes_in_order}
use Rattle.roxmltree.proofs.Plain.{plain_document}
use Rattle.rox_laws.proofs.theorem.attributes_are_written.Goals as goal

pub returns-clause-selected : goal.returns-clause-selected
returns-clause-selected c none = ranges_select _ _ _ (plain_document c.args.document.now c.document_is_whole.ensures.utf8 none c.document_is_whole.ensures.parsed)

pub returns-clause-grammar : goal.returns-clause-grammar
returns-clause-grammar c none = attributes_written _ _ _ (plain_document c.args.document.now c.document_is_whole.ensures.utf8 none c.document_is_whole.ensures.parsed)

pub returns-clause-ordered : goal.returns-clause-ordered
returns-clause-ordered c none = attributes_in_order _ _ _ (plain_document c.args.document.now c.document_is_whole.ensures.utf8 none c.document_is_whole.ensures.parsed)
