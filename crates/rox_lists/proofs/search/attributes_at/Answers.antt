use Rattle.std.proofs.Common.{length, arith}
use Rattle.rox_grammar.proofs.Lists.{all_slice}
use Rattle.rox_lists.proofs.AttributeRows.{stretch_rows, all_reach, all_placed}
use Rattle.rox_lists.proofs.search.attributes_at.Goals as goal

pub invariant_of-result : goal.invariant_of-result
invariant_of-result c =
    let t = c.args.tables.now in
    rw c.deref.ensures.value (record {
      within = all_slice _ t.attributes.items.items c.args.from c.args.until (all_reach (length t.namespaces.items) t.attributes.explicit.items t.attributes.items.items c.requires.each);
      placed = all_slice _ t.attributes.items.items c.args.from c.args.until (all_placed t.attributes);
    })

pub returns : goal.returns
returns c = grind (arith, stretch_rows)
