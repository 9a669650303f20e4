use Rattle.rox_theory.proofs.Answering.{has_asked, asks_next}
use Rattle.rox_theory.proofs.SameReplies.{read_same, refused_same}
use Rattle.rox_theory.proofs.document.texts_read.Goals as goal

pub returns : goal.returns
returns c =
    record {
      asked = λ limit allow replies src asked x utf8 texts. has_asked src utf8 allow limit replies asked x texts;
      resolver = λ limit allow replies src asked request p message utf8 texts. asks_next src utf8 allow limit replies asked request p message texts;
      same = read_same;
      same_refusal = refused_same;
    }
