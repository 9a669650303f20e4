use Rattle.std.proofs.lemmas.Str.{IsCharBoundary-start}
use Rattle.rox_scan.proofs.cursor.Cursor.new.Goals as goal

pub invariant_of-result : goal.invariant_of-result
invariant_of-result c = record { utf8 = c.utf8.text; cut = IsCharBoundary-start c.args.text.now c.utf8.text }
