use Rattle.rox_laws.proofs.Outermost.{root_stands}
use Rattle.rox_laws.proofs.exchanges.root_elements_stand_alone.Goals as goal

pub returns : goal.returns
returns c none = root_stands c.args.document.now c.document_is_whole.ensures.parsed none
