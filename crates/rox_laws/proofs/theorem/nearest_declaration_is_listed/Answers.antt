use Rattle.rox_theory.proofs.ParseParts.{tree_parts}
use Rattle.roxmltree.proofs.Parsed.{parse_shown}
use Rattle.roxmltree.proofs.Plain.{plain_document}
use Rattle.rox_laws.proofs.Nearest.{found_is_nearest, none_is_declared, xml_is_never_listed}
use Rattle.rox_laws.proofs.theorem.nearest_declaration_is_listed.Goals as goal

pub returns-clause-only : goal.returns-clause-only
returns-clause-only c none tops = parse_shown _ _ _ tops c.document_is_whole.ensures.utf8 (plain_document c.args.document.now c.document_is_whole.ensures.utf8 none c.document_is_whole.ensures.parsed)

pub returns-clause-found : goal.returns-clause-found
returns-clause-found c asked tops parse shown = found_is_nearest _ tops _ shown parse

pub returns-clause-none : goal.returns-clause-none
returns-clause-none c asked tops parse shown = none_is_declared _ tops _ shown

pub returns-clause-never_xml : goal.returns-clause-never_xml
returns-clause-never_xml c =
    let h = tree_parts c.document_is_whole.ensures.parsed.1 in
    xml_is_never_listed _ h.written _ h.shown
