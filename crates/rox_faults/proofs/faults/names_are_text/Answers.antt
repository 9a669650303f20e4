use Rattle.rox_faults.proofs.FaultSpans.{plain_names}
use Rattle.rox_faults.proofs.faults.names_are_text.Goals as goal

pub returns : goal.returns
returns c = plain_names
