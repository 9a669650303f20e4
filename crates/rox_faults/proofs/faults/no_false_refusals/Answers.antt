use Rattle.rox_faults.proofs.FaultRefusing.{refused_never}
use Rattle.rox_faults.proofs.faults.no_false_refusals.Goals as goal

pub returns : goal.returns
returns c = refused_never
