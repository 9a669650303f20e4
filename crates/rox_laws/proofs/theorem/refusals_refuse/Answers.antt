use Rattle.rox_theory.proofs.ParseParts.{tree_parts}
use Rattle.rox_faults.proofs.FaultRefusing.{refused_never}
use Rattle.rox_laws.proofs.theorem.refusals_refuse.Goals as goal

pub returns : goal.returns
returns c = λ text source limit allow dtd asked given f tree utf8 stands is_tree permits same. let is = tree_parts is_tree in refused_never limit allow dtd text source asked given f is.written utf8 stands is.parse is.within permits same
