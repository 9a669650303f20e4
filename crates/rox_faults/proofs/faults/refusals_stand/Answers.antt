use Rattle.rox_faults.proofs.FaultRefused.{refusal_here, refusal_there}
use Rattle.rox_faults.proofs.faults.refusals_stand.Goals as goal

pub returns : goal.returns
returns c = record { own = refusal_here; other = refusal_there }
