use Rattle.rox_theory.proofs.Pieces.{parse_made}
use Rattle.roxmltree.proofs.Plain.{plain_document}
use Rattle.rox_laws.proofs.Sections.{empty_texts}
use Rattle.rox_laws.proofs.First.{first_pieces}
use Rattle.rox_laws.proofs.theorem.empty_texts_are_sections.Goals as goal

pub returns-clause-pieces : goal.returns-clause-pieces
returns-clause-pieces c = parse_made c.args.document.now.text c.args.document.now.dtd

pub returns-clause-range : goal.returns-clause-range
returns-clause-range c = first_pieces c.args.document.now.text c.args.document.now.dtd

pub returns-clause-plain : goal.returns-clause-plain
returns-clause-plain c none = empty_texts _ _ _ (plain_document c.args.document.now c.document_is_whole.ensures.utf8 none c.document_is_whole.ensures.parsed)
