use Rattle.std.proofs.Common.{arith}
use Rattle.rox_bytes.proofs.NearLemmas.{part_cut}
use Rattle.rox_scan.proofs.NameRuns.{name_goes_on}
use Rattle.rox_scan.proofs.cursor.name_end.Goals as goal

pub run_end-requires : goal.run_end-requires
run_end-requires c =
    let n = c.skip_set-near.ensures in
    part_cut c.args.text.now c.args.start c.skip_set-near.result c.utf8.text c.requires n.onward n.within n.passes

pub returns : goal.returns
returns c = grind (arith, name_goes_on)
