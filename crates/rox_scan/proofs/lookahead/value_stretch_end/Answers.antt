use Rattle.rox_scan.proofs.LongerLemmas.{changed_value_more, changed_value_near, value_more, any_value_near}
use Rattle.rox_scan.proofs.lookahead.value_stretch_end.Goals as goal

pub returns-then-is_verbatim-clause-looked : goal.returns-then-is_verbatim-clause-looked
returns-then-is_verbatim-clause-looked c = rw c.if-is_verbatim.true (λ i start looked.
    let n = c.skip_set.ensures in
    let src = c.args.text.now in
    value_more src c.args.quote.byte i c.args.at _ c.utf8.text start looked (any_value_near src c.args.quote.byte c.args.at _ c.utf8.text c.args.quote.is c.requires n.onward n.within n.passes n.stops))

pub returns-clause-looked : goal.returns-clause-looked
returns-clause-looked c = rw c.if-is_verbatim.false (λ i start looked.
    let n = c.skip_set-2.ensures in
    let src = c.args.text.now in
    changed_value_more src c.args.quote.byte i c.args.at _ _ c.utf8.text start looked (changed_value_near src c.args.quote.byte c.args.at _ c.utf8.text c.args.quote.is c.requires n.onward n.within n.passes n.stops))
