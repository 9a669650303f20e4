use Rattle.std.proofs.Common.{bit_and}
use Rattle.std.proofs.lemmas.Simd.{zip2_of_maps}
use Rattle.rox_bytes.specs.Nibbles.{at_low, at_high}
use Rattle.rox_bytes.proofs.nibbles.classes.Goals as goal

pub returns : goal.returns
returns c = zip2_of_maps bit_and (at_low c.args.low) (at_high c.args.high) c.args.block c.by_low.ensures c.by_high.ensures
