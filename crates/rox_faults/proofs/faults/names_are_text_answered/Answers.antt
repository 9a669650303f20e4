use Rattle.rox_faults.proofs.FaultSpans.{names_here, names_there}
use Rattle.rox_faults.proofs.faults.names_are_text_answered.Goals as goal

pub returns : goal.returns
returns c = record { own = names_here; other = names_there }
