use Rattle.rox_scan.proofs.VerbatimLemmas.{run_plain}
use Rattle.rox_scan.proofs.character_data.is_verbatim.Goals as goal

pub returns : goal.returns
returns c = rw c.before_either.ensures.value (run_plain c.args.bytes.now)
