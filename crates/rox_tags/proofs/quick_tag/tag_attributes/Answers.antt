use Rattle.std.proofs.Common.{◌≡◌, Bool, true, false, not, length, ap, arith, length-append}
use Rattle.rox_rows.specs.Rows.{attribute_rows}
use Rattle.rox_seen.proofs.SeenCodes.{seen_kept}
use Rattle.rox_tags.proofs.TagAttributes.{done_within, ends_or_not, holds_declared, holds_grown, holds_more, holds_scope, holds_start}
use Rattle.rox_tags.proofs.quick_tag.tag_attributes.Goals as goal

pub loop-at-init : goal.loop-at-init
loop-at-init c = grind (arith, holds_start)

pub returns-then-not-next : goal.returns-then-not-next
returns-then-not-next c =
    let l = c.loop-at in
    let old = c.args.elements.now in
    let src = c.args.text.now in
    let near = c.next_item-next in
    let end = c.attributes_end.ensures in
    record {
      read = ends_or_not c.args.tag.declares c.args.tag.scope old l.elements src c.args.start l.at near.result.at c.attributes_end.result l.invariant.holds near.ensures.end.onward near.ensures.end.place end.ends.opens end.ends.closes;
      cut = end.ends.cut;
      few = end.few;
      grown = holds_grown c.args.tag.declares c.args.tag.scope old l.elements src c.args.start l.at l.invariant.holds;
    }

not_false : (b : Bool) → not b ≡ false → b ≡ true
not_false b h = grind arith

pub put_attribute-requires : goal.put_attribute-requires
put_attribute-requires c =
    let l = c.loop-at in
    let old = c.args.elements.now in
    let src = c.args.text.now in
    let g = l.invariant.holds in
    record {
      cut = c.next_item-next.ensures.end.cut;
      begins = (c.next_item-next.ensures.begins (not_false c.next_item-next.result.may_begin c.if-not-next.false)).1;
      short = c.requires.short;
      holds = record {
        from = omega (arith, l.invariant.from, ap length g.so_far.rows, length-append (attribute_rows old.attributes) g.so_far.more);
        seen = l.invariant.seen;
        scope = holds_scope c.args.tag.declares c.args.tag.scope old l.elements src c.args.start l.at g;
        done = done_within c.args.tag.declares c.args.tag.scope old l.elements src c.args.start l.seen.from l.at g l.invariant.from;
      };
    }

pub loop-at-preserved-then-declares_at : goal.loop-at-preserved-then-declares_at
loop-at-preserved-then-declares_at c =
    grind (arith, seen_kept, holds_declared)

pub loop-at-preserved : goal.loop-at-preserved
loop-at-preserved c = grind (arith, holds_more)
