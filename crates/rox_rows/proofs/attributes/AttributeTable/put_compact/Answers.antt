use Rattle.std.proofs.Common.{◌<◌, ◌∙◌, sym, arith}
use Rattle.rox_rows.proofs.AttributeRows.{numbered_compact, count_compact, owned_push}
use Rattle.rox_rows.proofs.attributes.AttributeTable.put_compact.Goals as goal

pub invariant_of-self-2 : goal.invariant_of-self-2
invariant_of-self-2 c =
    let old = c.args.self.now in
    let few : c.new-row.result.before < 255 = omega (arith, c.new-row.ensures.before_is, c.requires.compact.few) in
    record {
      listed =
          owned_push old.items.items c.push_reserved.new.self.items old.owned.items _ c.new-row.result c.args.item c.len-place.result c.push_reserved.ensures.items c.new-row.ensures.is
          (omega (arith, c.len-place.ensures, old.items.ok.0)) old.listed (c.note.ensures.put c.if-not-note.false);
      numbered = numbered_compact old.items.items c.push_reserved.new.self.items c.new-row.result c.push_reserved.ensures.items old.numbered few;
      counted = old.counted ∙ sym (count_compact old.items.items c.push_reserved.new.self.items c.new-row.result c.push_reserved.ensures.items few);
    }
