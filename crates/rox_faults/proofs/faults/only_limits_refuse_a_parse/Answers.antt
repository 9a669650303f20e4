use Rattle.rox_faults.proofs.FaultNever.{fault_over}
use Rattle.rox_faults.proofs.FaultRefusing.{refused_over}
use Rattle.rox_faults.proofs.faults.only_limits_refuse_a_parse.Goals as goal

pub returns : goal.returns
returns c = record {
  faults = λ limit src f asked t utf8 stands parse. (fault_over limit src f asked t utf8 stands parse).0;
  refusals = λ limit allow dtd src source asked given f t utf8 stands parse permits same. (refused_over limit allow dtd src source asked given f t utf8 stands parse permits same).0;
}
