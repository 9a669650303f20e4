use Rattle.std.proofs.Common.{refl}
use Rattle.std.proofs.lemmas.Str.{IsCharBoundary-start}
use Rattle.rox_values.proofs.line_ends.line_feeds.Goals as goal

pub loop-at-init : goal.loop-at-init
loop-at-init c = record { cut = IsCharBoundary-start c.args.raw.now c.utf8.raw; reads = refl }
