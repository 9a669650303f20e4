use Rattle.rox_theory.proofs.DoctypeAgreement.{doctypes_agree}
use Rattle.rox_theory.proofs.Whole.{seen_parse, parse_is_read, refused_has_none, doctype_seen}
use Rattle.rox_theory.proofs.document.documents_read.Goals as goal

pub returns : goal.returns
returns c =
    record {
      sound = λ limit allow replies src asked t utf8. seen_parse src utf8 allow (doctypes_agree src utf8 allow) limit replies asked t;
      complete = λ limit allow dtd src asked more t utf8. parse_is_read src utf8 allow (doctypes_agree src utf8 allow) limit dtd asked more t;
      refused = λ limit allow dtd replies src asked later e t utf8. refused_has_none src utf8 allow (doctypes_agree src utf8 allow) limit replies asked later e dtd t;
      seen = λ limit dtd src asked t utf8. doctype_seen src utf8 limit dtd asked t;
    }
