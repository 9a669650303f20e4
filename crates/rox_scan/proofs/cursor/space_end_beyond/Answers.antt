use Rattle.rox_bytes.proofs.NearLemmas.{spaces_end_there, spaces_cut}
use Rattle.rox_scan.proofs.cursor.space_end_beyond.Goals as goal

pub returns : goal.returns
returns c =
    let set = c.skip_set.ensures in
    record {
      place = spaces_end_there c.args.from.text.now c.args.from.pos _ c.args.from.utf8 c.args.from.cut set.onward set.within set.passes set.stops;
      onward = set.onward;
      cut = spaces_cut c.args.from.text.now c.args.from.pos _ c.args.from.utf8 c.args.from.cut set.onward set.within set.passes;
    }
