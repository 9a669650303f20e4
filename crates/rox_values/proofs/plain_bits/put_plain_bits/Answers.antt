use Rattle.std.proofs.Common.{arith, string_bytes}
use Rattle.rox_values.proofs.BitLemmas.{none_put, one_more}
use Rattle.rox_values.proofs.plain_bits.put_plain_bits.Goals as goal

pub bits-init : goal.bits-init
bits-init c = record {
  done = none_put c.args.main c.args.text.now (string_bytes c.args.out.now) c.args.stop c.args.start c.requires.start;
  room = omega arith;
}

pub bits-preserved : goal.bits-preserved
bits-preserved c =
    let l = c.bits in
    let n = c.put_bit-after.result in
    let b = c.put_bit-after.ensures.puts.put (omega arith) in
    record {
      done = one_more c.args.main c.args.text.now _ (string_bytes l.out) _ c.args.stop c.args.start l.at n c.bits-test.true l.invariant.done b;
      room = omega (arith, l.invariant.room, c.put_bit-after.ensures.stops.room);
    }
