use Rattle.std.proofs.Common.{arith}
use Rattle.rox_tags.proofs.DeferredNames.{deferred_plain, none_grown}
use Rattle.rox_tags.proofs.deferred_names.deferred_attributes.Goals as goal

pub returns-then-not-put_taken : goal.returns-then-not-put_taken
returns-then-not-put_taken c = record {
  read = tt;
  cut = tt;
  few = tt;
  grown = none_grown c.args.elements.now c.put_taken.new.elements (omega (arith, c.len.ensures));
}

pub returns : goal.returns
returns c =
    let t = c.in_ok-end.ensures in
    let old = c.args.elements.now in
    let e = c.in_ok-end.end in
    record {
      read = deferred_plain old c.taken_end.new.elements c.put_taken.new.elements c.args.text.now c.args.start e.at e.empty c.taken_end.new.buffers.taken.items t.read t.kept c.put_taken.ensures.others (c.put_taken.ensures.resolves c.if-not-put_taken.false);
      cut = t.cut;
      few = c.put_taken.ensures.few c.if-not-put_taken.false;
      grown = none_grown old c.put_taken.new.elements (omega (arith, c.len.ensures));
    }
