use Rattle.std.proofs.Common.{length, arith}
use Rattle.rox_scan.proofs.LongerLemmas.{run_near}
use Rattle.rox_scan.proofs.short_run.is_plain_to_end.Goals as goal

pub returns : goal.returns
returns c = λ yes.
    let src = c.args.from.text.now in
    run_near src c.args.from.pos (length src) c.args.from.utf8 c.args.from.cut (omega arith) (omega arith) (rw c.as_bytes-bytes.ensures.value at (c.passes_to_end.ensures yes)) (λ more. absurd (omega arith))
