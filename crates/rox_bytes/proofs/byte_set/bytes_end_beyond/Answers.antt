use Rattle.std.proofs.Common.{arith}
use Rattle.rox_bytes.proofs.LaneLemmas.{passes_on, none_seen, first_seen}
use Rattle.rox_bytes.proofs.byte_set.bytes_end_beyond.Goals as goal

pub returns-then-others-ne0 : goal.returns-then-others-ne0
returns-then-others-ne0 g c =
    let here = first_seen g.C.ByteSet.test c.args.bytes.now c.loop-block.block c.others_at-others.result c.others_at-others.ensures (omega (arith, c.if-others-ne0.true)) in
    rw c.before_first.ensures (record {
      onward = omega (arith, c.loop-block.invariant.onward, here.onward);
      within = here.within;
      passes = passes_on g.C.ByteSet.test c.args.bytes.now c.args.at c.loop-block.block _ c.loop-block.invariant.passes here.passes;
      stops = here.stops;
    })

pub loop-block-preserved : goal.loop-block-preserved
loop-block-preserved g c =
    let seen = c.others_at-others.ensures in
    let here = none_seen g.C.ByteSet.test c.args.bytes.now c.loop-block.block c.others_at-others.result seen (omega (arith, c.if-others-ne0.false)) in
    record {
      onward = omega (arith, c.loop-block.invariant.onward);
      within = omega (arith, seen.within);
      passes = passes_on g.C.ByteSet.test c.args.bytes.now c.args.at c.loop-block.block _ c.loop-block.invariant.passes here;
    }
