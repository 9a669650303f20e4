use Rattle.std.proofs.Common.{arith}
use Rattle.rox_markup.proofs.PairLemmas.{standalone_named}
use Rattle.rox_markup.proofs.xml_decl.quick_last_pair.Goals as goal

pub returns : goal.returns
returns c = grind (arith, standalone_named)
