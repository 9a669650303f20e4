use Rattle.rox_scan.proofs.LongerLemmas.{ascii_comment_near}
use Rattle.rox_scan.proofs.lookahead.ascii_comment_end.Goals as goal

pub returns : goal.returns
returns c =
    let n = c.skip_set.ensures in
    ascii_comment_near c.args.from.text.now c.args.from.pos _ c.args.from.utf8 c.args.from.cut n.onward n.within n.passes
