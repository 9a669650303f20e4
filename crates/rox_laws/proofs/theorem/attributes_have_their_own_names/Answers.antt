use Rattle.rox_laws.proofs.Once.{names_distinct}
use Rattle.rox_laws.proofs.OnlyOne.{one_named}
use Rattle.rox_laws.proofs.theorem.attributes_have_their_own_names.Goals as goal

pub returns : goal.returns
returns c = one_named _ (names_distinct _ _ _ c.document_is_whole.ensures.parsed.1)
