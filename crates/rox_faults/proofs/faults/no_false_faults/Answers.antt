use Rattle.rox_faults.proofs.FaultNever as never
use Rattle.rox_faults.proofs.faults.no_false_faults.Goals as goal

pub returns : goal.returns
returns c = never.no_false_faults
