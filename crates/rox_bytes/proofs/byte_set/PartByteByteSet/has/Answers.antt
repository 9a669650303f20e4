use Rattle.std.proofs.Common.{arith}
use Rattle.std.proofs.lemmas.Bool.Decides.{nat_tests}
use Rattle.rox_bytes.specs.ByteSets.{is_part_byte}
use Rattle.rox_bytes.proofs.byte_set.PartByteByteSet.has.Goals as goal

pub returns-then-byte-lt128 : goal.returns-then-byte-lt128
unfolding is_part_byte
returns-then-byte-lt128 c = grind (arith, nat_tests, c.has_byte.ensures)

pub returns-else-byte-lt128 : goal.returns-else-byte-lt128
unfolding is_part_byte
returns-else-byte-lt128 c = grind (arith, nat_tests)
