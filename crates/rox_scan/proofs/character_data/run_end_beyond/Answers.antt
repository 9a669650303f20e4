use Rattle.std.proofs.Common.{true}
use Rattle.rox_scan.specs.Lookahead.{changes_run, ends_run}
use Rattle.rox_scan.proofs.LongerLemmas.{looked_on, run_eased, run_none}
use Rattle.rox_scan.proofs.character_data.run_end_beyond.Goals as goal

pub loop-end-init : goal.loop-end-init
loop-end-init c = record { looked = run_none c.args.from.text.now c.args.from.pos c.args.from.utf8 c.args.from.cut }

pub loop-end-preserved : goal.loop-end-preserved
loop-end-preserved c =
    let src = c.args.from.text.now in
    let i = c.args.from.pos in
    let utf8 = c.args.from.utf8 in
    let start = c.args.from.cut in
    let step = c.after_rare-next.ensures in
    let one = looked_on changes_run (ends_run src) src i _ _ true true utf8 start c.loop-end.invariant.looked step in
    record { looked = looked_on changes_run (ends_run src) src i _ _ true true utf8 start one (run_eased src _ _ utf8 step.cut c.skip_eased-end.ensures) }
