use Rattle.std.proofs.Common.{true}
use Rattle.rox_scan.specs.Lookahead.{changes_run, ends_run}
use Rattle.rox_scan.proofs.LongerLemmas.{looked_on, run_near}
use Rattle.rox_scan.proofs.character_data.plain_run_end.Goals as goal

pub returns-then-is_at : goal.returns-then-is_at
returns-then-is_at c =
    let src = c.args.from.text.now in
    let n = c.skip_set-near.ensures in
    let near = run_near src c.args.from.pos _ c.args.from.utf8 c.args.from.cut n.onward n.within n.passes n.stops in
    looked_on changes_run (ends_run src) src c.args.from.pos _ _ true true c.args.from.utf8 c.args.from.cut near c.run_end_beyond.ensures

pub returns : goal.returns
returns c =
    let n = c.skip_set-near.ensures in
    run_near c.args.from.text.now c.args.from.pos _ c.args.from.utf8 c.args.from.cut n.onward n.within n.passes n.stops
