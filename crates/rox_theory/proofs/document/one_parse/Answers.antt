use Rattle.std.proofs.Common.{true, refl}
use Rattle.rox_theory.proofs.DoctypeAgreement.{doctypes_agree}
use Rattle.rox_theory.proofs.OneParse.{one_parse, one_tree}
use Rattle.rox_theory.proofs.document.one_parse.Goals as goal

pub returns : goal.returns
returns c =
    record {
      parse = λ src dtd other asked t u utf8 p q. (one_parse src utf8 true (doctypes_agree src utf8 true) dtd other asked asked t u p q (λ may. refl) (λ may. refl) refl).2;
      tree = λ src dtd other asked limit most t u utf8 p q. one_tree src utf8 true (doctypes_agree src utf8 true) limit most dtd other asked asked t u p q (λ may. refl) (λ may. refl) refl;
    }
