use Rattle.std.proofs.Common.{true, refl}
use Rattle.rox_theory.proofs.DoctypeAgreement.{doctypes_agree}
use Rattle.rox_theory.proofs.OneParse.{one_parse, same_replies}
use Rattle.roxmltree.proofs.Parsed as parsed
use Rattle.rox_laws.proofs.theorem.one_tree.Goals as goal

pub returns-clause-tree : goal.returns-clause-tree
returns-clause-tree c = parsed.one_tree

pub returns-clause-dtd : goal.returns-clause-dtd
returns-clause-dtd c = parsed.one_dtd

pub returns-clause-parses : goal.returns-clause-parses
returns-clause-parses c = λ text one other asked answered s t utf8 p q same. one_parse text utf8 true (doctypes_agree text utf8 true) one other asked answered s t p q (λ may. refl) (λ may. refl) (same_replies asked answered same)
