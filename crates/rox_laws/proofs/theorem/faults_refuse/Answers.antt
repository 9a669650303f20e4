use Rattle.std.proofs.Common.{[]}
use Rattle.rox_theory.proofs.ParseParts.{tree_parts}
use Rattle.rox_faults.proofs.FaultNever.{no_false_faults}
use Rattle.rox_laws.proofs.theorem.faults_refuse.Goals as goal

pub returns : goal.returns
returns c = λ text limit f tree utf8 stands is_tree. let is = tree_parts is_tree in no_false_faults limit text f [] is.written utf8 stands is.parse is.within
