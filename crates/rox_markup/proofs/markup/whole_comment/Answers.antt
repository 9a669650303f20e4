use Rattle.std.proofs.Common.{arith}
use Rattle.rox_scan.proofs.LongerLemmas.{looked_comment}
use Rattle.rox_markup.proofs.markup.whole_comment.Goals as goal

pub returns : goal.returns
returns c = grind (arith, looked_comment)
