use Rattle.std.proofs.Common.{arith, ne_eqb}
use Rattle.rox_scan.proofs.LongerLemmas.{run_char, run_near}
use Rattle.rox_scan.proofs.character_data.scan_character_data.Goals as goal

pub loop-end-init : goal.loop-end-init
loop-end-init c =
    let n = c.skip_set-end.ensures in
    record { looked = run_near c.args.from.text.now c.args.from.pos _ c.args.from.utf8 c.args.from.cut n.onward n.within n.passes n.stops }

pub loop-end-preserved : goal.loop-end-preserved
loop-end-preserved c = grind (arith, ne_eqb, run_char)
