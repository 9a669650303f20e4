use Rattle.std.proofs.Common.{}
use Rattle.rox_bytes.proofs.NearLemmas.{part_cut, part_stops}
use Rattle.rox_bytes.proofs.byte_set.part_end_beyond.Goals as goal

pub returns-then-is_ascii_at : goal.returns-then-is_ascii_at
returns-then-is_ascii_at c =
    let near = c.requires.near in
    record {
      place = part_stops c.args.text.now c.args.at _ c.utf8.text near.onward near.within near.passes near.stops (c.is_ascii_at.ensures.ascii c.if-is_ascii_at.true);
      onward = near.onward;
      cut = part_cut c.args.text.now c.args.at _ c.utf8.text c.requires.cut near.onward near.within near.passes;
    }
