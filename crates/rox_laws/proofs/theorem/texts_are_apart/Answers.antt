use Rattle.rox_laws.proofs.Apart.{texts_apart}
use Rattle.rox_laws.proofs.theorem.texts_are_apart.Goals as goal

pub returns : goal.returns
returns c = texts_apart _ _ _ c.document_is_whole.ensures.parsed.1
