use Rattle.roxmltree.proofs.Plain.{plain_document}
use Rattle.rox_laws.proofs.theorem.document_is_a_parse.Goals as goal

pub returns-clause-plain : goal.returns-clause-plain
returns-clause-plain c none = plain_document c.args.document.now c.document_is_whole.ensures.utf8 none c.document_is_whole.ensures.parsed
