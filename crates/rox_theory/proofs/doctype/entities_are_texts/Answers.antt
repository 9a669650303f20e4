use Rattle.rox_theory.proofs.DoctypeAgreement.{texts_agree}
use Rattle.rox_theory.proofs.doctype.entities_are_texts.Goals as goal

pub returns : goal.returns
returns c = λ src i j dtd nodes asked es utf8. texts_agree src utf8 i j dtd nodes asked es
