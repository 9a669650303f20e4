use Rattle.std.proofs.Common.{true}
use Rattle.rox_scan.specs.Lookahead.{none_changes, ends_comment}
use Rattle.rox_scan.proofs.LongerLemmas.{looked_on}
use Rattle.rox_scan.proofs.lookahead.comment_text_end.Goals as goal

pub returns : goal.returns
returns c = λ some.
    let src = c.args.from.text.now in
    let far = c.comment_end_beyond.ensures some in
    record {
      looked = looked_on none_changes (ends_comment src) src c.args.from.pos _ _ true true c.args.from.utf8 c.args.from.cut c.ascii_comment_end-near.ensures far.looked;
      here = far.here;
    }
