use Rattle.rox_theory.proofs.Following.{few_opened, few_opened_in_value}
use Rattle.rox_theory.proofs.Counting.{most_opened, most_opened_in_value}
use Rattle.rox_theory.proofs.DoctypeAgreement.{texts_agree}
use Rattle.rox_theory.proofs.ParseParts.{parts}
use Rattle.rox_laws.proofs.theorem.openings_are_few.Goals as goal

pub returns-clause-in_content : goal.returns-clause-in_content
returns-clause-in_content c asked tops p = few_opened p.entities

pub returns-clause-in_value : goal.returns-clause-in_value
returns-clause-in_value c asked tops p = few_opened_in_value p.entities

pub returns-clause-most_in_content : goal.returns-clause-most_in_content
returns-clause-most_in_content c asked tops p name b d n items =
    let q = parts _ _ asked tops p in
    most_opened p.entities name b d n items (texts_agree _ c.document_is_whole.ensures.utf8 q.begun q.start _ q.nodes asked p.entities q.doctype)

pub returns-clause-most_in_value : goal.returns-clause-most_in_value
returns-clause-most_in_value c asked tops p name b d n v =
    let q = parts _ _ asked tops p in
    most_opened_in_value p.entities name b d n v (texts_agree _ c.document_is_whole.ensures.utf8 q.begun q.start _ q.nodes asked p.entities q.doctype)
