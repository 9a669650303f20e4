use Rattle.rox_laws.proofs.Once.{names_distinct}
use Rattle.rox_laws.proofs.theorem.names_are_distinct.Goals as goal

pub returns : goal.returns
returns c = names_distinct _ _ _ c.document_is_whole.ensures.parsed.1
