use Rattle.rox_scan.proofs.LongerLemmas.{changed_more, changed_run_near, looked_more, run_near}
use Rattle.rox_scan.proofs.character_data.stretch_end.Goals as goal

pub returns-then-is_verbatim-clause-looked : goal.returns-then-is_verbatim-clause-looked
returns-then-is_verbatim-clause-looked c = rw c.if-is_verbatim.true (λ i start looked.
    let n = c.skip_set.ensures in
    let src = c.args.text.now in
    looked_more src i c.args.at _ c.utf8.text start looked (run_near src c.args.at _ c.utf8.text c.requires n.onward n.within n.passes n.stops))

pub returns-clause-looked : goal.returns-clause-looked
returns-clause-looked c = rw c.if-is_verbatim.false (λ i start looked.
    let n = c.skip_set-2.ensures in
    let src = c.args.text.now in
    changed_more src i c.args.at _ _ c.utf8.text start looked (changed_run_near src c.args.at _ c.utf8.text c.requires n.onward n.within n.passes n.stops))
