use Rattle.rox_faults.proofs.FaultWhole.{reading_faults}
use Rattle.rox_faults.proofs.faults.faults_stand.Goals as goal

pub returns : goal.returns
returns c = reading_faults
