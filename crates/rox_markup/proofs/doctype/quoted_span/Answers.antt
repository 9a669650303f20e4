use Rattle.std.proofs.Common.{arith}
use Rattle.rox_reading.specs.Doctype.{quoted_at}
use Rattle.rox_markup.proofs.QuoteLemmas.{quote_next}
use Rattle.rox_markup.proofs.doctype.quoted_span.Goals as goal

pub returns : goal.returns
unfolding quoted_at
returns c = grind (arith, quote_next)
