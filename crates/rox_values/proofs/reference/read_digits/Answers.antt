use Rattle.std.proofs.Common.{arith}
use Rattle.rox_values.proofs.DigitLemmas.{bytes_on, one_more_digit}
use Rattle.rox_values.proofs.reference.read_digits.Goals as goal

pub loop-end-preserved : goal.loop-end-preserved
loop-end-preserved c = grind (arith, bytes_on, one_more_digit)
