use Rattle.std.proofs.Common.{arith}
use Rattle.rox_rows.proofs.AttributeRows.{numbered_take, places_left, rows_kept}
use Rattle.rox_rows.proofs.attributes.AttributeTable.truncate.Goals as goal

pub overflow_sub-places : goal.overflow_sub-places
overflow_sub-places c =
    let t = c.args.self.now in
    let left = places_left t c.deref.result.now c.args.count c.count_explicit-taken.result c.deref.ensures.value c.count_explicit-taken.ensures in
    omega (arith, left.0, c.len-2.ensures, t.explicit.ok.0)

pub invariant_of-self : goal.invariant_of-self
invariant_of-self c = grind (arith, places_left, numbered_take)

pub returns : goal.returns
returns c = grind (arith, rows_kept)
