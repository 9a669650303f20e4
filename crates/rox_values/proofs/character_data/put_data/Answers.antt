use Rattle.std.proofs.Common.{arith, string_bytes}
use Rattle.rox_values.proofs.DataLemmas.{more_data}
use Rattle.rox_values.proofs.character_data.put_data.Goals as goal

pub bits-preserved : goal.bits-preserved
bits-preserved c =
    let l = c.bits in
    let b = c.put_datum-after.ensures.put (omega arith) in
    more_data c.args.text.now _ (string_bytes l.out) _ c.args.stop c.args.start l.at c.put_datum-after.result c.bits-test.true l.invariant b
