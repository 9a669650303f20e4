use Rattle.std.proofs.Common.{true, refl}
use Rattle.rox_theory.proofs.DoctypeAgreement.{doctypes_agree}
use Rattle.rox_theory.proofs.OneParse.{one_parse, same_replies}
use Rattle.rox_theory.proofs.document.one_parse_answered.Goals as goal

pub returns : goal.returns
returns c = λ src dtd other a b t u utf8 p q same. one_parse src utf8 true (doctypes_agree src utf8 true) dtd other a b t u p q (λ may. refl) (λ may. refl) (same_replies a b same)
