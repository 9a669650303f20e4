use Rattle.rox_faults.proofs.FaultRefused.{refusal_plain, plain_refusal}
use Rattle.rox_faults.proofs.faults.plain_refusals.Goals as goal

pub returns : goal.returns
returns c = record { faults = refusal_plain; back = plain_refusal }
