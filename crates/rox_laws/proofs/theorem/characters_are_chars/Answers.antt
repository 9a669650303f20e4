use Rattle.rox_laws.proofs.CharNodes.{tree_chars}
use Rattle.rox_laws.proofs.theorem.characters_are_chars.Goals as goal

pub returns : goal.returns
returns c = tree_chars _ _ _ c.document_is_whole.ensures.utf8 c.document_is_whole.ensures.parsed.1
