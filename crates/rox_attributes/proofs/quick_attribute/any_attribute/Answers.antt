use Rattle.std.proofs.Common.{refl, arith}
use Rattle.rox_grammar.specs.Failures.{name_view}
use Rattle.rox_verbatim.proofs.Verbatim.{attribute_reads}
use Rattle.rox_attributes.proofs.quick_attribute.any_attribute.Goals as goal

pub returns : goal.returns
returns c =
    let src = c.args.text.now in
    let s = c.in_ok-name.from in
    let v = c.in_ok-name.ensures.value in
    let q = c.quote_before-quote.result in
    let quoted = c.quote_before-quote.ensures in
    let n = c.in_ok-name.ensures.name in
    let j = c.in_ok-read.read.end in
    let w = c.in_ok-read.ensures.value in
    let start = v.start in
    let done = c.after_byte.ensures.place in
    let order1 = n.onward in
    let order2 = v.onward in
    let order3 = w.onward in
    record {
      read = record {
        value_end = j;
        read = attribute_reads src c.args.place.start (name_view c.in_ok-name.name.name) c.in_ok-name.name.end s q j c.after_byte.result n.value v quoted.here quoted.quote quoted.some w.read w.here done;
        start = refl;
        end = done;
        value = w.value;
        cut = c.after_byte.ensures.cut;
        onward = omega arith;
        local = n.local;
        gap = omega arith;
      };
      kept = c.in_ok-read.ensures.kept;
    }
