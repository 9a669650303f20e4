use Rattle.std.proofs.Common.{arith}
use Rattle.rox_tags.proofs.DeferredNames.{takes_declared, takes_ends, takes_more, takes_start}
use Rattle.rox_tags.proofs.deferred_names.taken_end.Goals as goal

pub loop-at-init : goal.loop-at-init
loop-at-init c = record {
  cut = c.requires.may.cut;
  holds = rw c.requires.none (takes_start c.args.elements.now c.args.text.now c.args.start c.requires.may.begins.0);
}

pub returns-then-not-next : goal.returns-then-not-next
returns-then-not-next c =
    let l = c.loop-at in
    let near = c.next_item-next in
    let end = c.tag_end.ensures in
    record {
      read = takes_ends c.args.elements.now l.elements c.args.text.now c.args.start l.at near.result.at c.tag_end.result l.buffers.taken.items l.invariant.holds near.ensures.end.onward near.ensures.end.place end;
      cut = end.cut;
      kept = l.invariant.holds.kept;
    }

pub loop-at-preserved-then-may_declare : goal.loop-at-preserved-then-may_declare
loop-at-preserved-then-may_declare c =
    grind (arith, takes_declared)

pub loop-at-preserved : goal.loop-at-preserved
loop-at-preserved c = grind (arith, takes_more)
