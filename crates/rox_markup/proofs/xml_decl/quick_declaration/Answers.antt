use Rattle.std.proofs.Common.{arith}
use Rattle.rox_reading.specs.Markup.{xml_decl_at}
use Rattle.rox_markup.proofs.PairLemmas.{encoding_named, string_is, version_named}
use Rattle.rox_markup.proofs.xml_decl.quick_declaration.Goals as goal

pub returns : goal.returns
unfolding xml_decl_at
returns c = grind (arith, version_named, encoding_named, string_is)
