use Rattle.std.proofs.Common.{sym, ◌∙◌}
use Rattle.rox_markup.proofs.Marking.{mark_cut}
use Rattle.rox_markup.proofs.source.start_of.Goals as goal

pub at-requires : goal.at-requires
at-requires c = mark_cut c.args.text.now c.utf8.text (sym c.has_byte_order_mark.ensures ∙ c.if-has_byte_order_mark.true)
