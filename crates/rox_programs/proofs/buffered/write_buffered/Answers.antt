use Rattle.std.proofs.Common.{refl, ap, ◌∙◌, inr}
use Rattle.rox_programs.proofs.Buffers.{nothing_held, if_ok}
use Rattle.rox_programs.proofs.buffered.write_buffered.Goals as goal

pub returns-in-Ok-write-clause-written : goal.returns-in-Ok-write-clause-written
returns-in-Ok-write-clause-written g c =
    let begins = nothing_held _ _ c.in-Ok.ensures.empty ∙ ap g.O.Write.contents c.in-Ok.ensures.inner in
    if_ok c.flushed.result (λ left kept. (_, _, record { shown = _; shows = refl; left = _; met = c.in-Ok-write.ensures; leaves = refl }, begins, kept)) c.flushed.ensures.written

pub returns-in-Err-write-clause-refused : goal.returns-in-Err-write-clause-refused
returns-in-Err-write-clause-refused g c = inr (inr (_, _, record { shown = _; shows = refl; left = _; met = c.in-Err-write.ensures; leaves = refl }))
