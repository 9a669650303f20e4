use Rattle.std.proofs.Common.{arith}
use Rattle.rox_bytes.proofs.MarkLemmas.{first_byte_found}
use Rattle.rox_bytes.proofs.search.before_either.Goals as goal

pub returns : goal.returns
returns c = grind (arith, first_byte_found)
