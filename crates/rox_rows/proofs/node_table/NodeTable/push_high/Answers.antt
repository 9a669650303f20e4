use Rattle.std.proofs.Common.{arith}
use Rattle.rox_rows.proofs.StoredNodes.{high_is, within-more, within-push, chain_grown}
use Rattle.rox_rows.proofs.node_table.NodeTable.push_high.Goals as goal

pub invariant_of-self-2 : goal.invariant_of-self-2
invariant_of-self-2 c =
    let t = c.args.self.now in
    record {
      short =
          omega (
            arith,
            c.in_ok-fill.ensures.count,
            c.len.ensures,
            c.push_reserved.ensures.len,
            c.push_reserved-2.ensures.len,
            c.push_reserved.new.self.ok.0,
            c.push_reserved-2.new.self.ok.0,
          );
      chained =
          chain_grown t _ _ c.args.row.kind c.owns_text-owns.result c.len-2.result _ c.push_reserved-2.ensures.items c.in_ok-kind.ensures.stored.chained c.owns_text-owns.ensures
          (omega (arith, c.len-2.ensures, t.rows.ok.0)) c.last_with-self.ensures;
      within = rw c.push_reserved-2.ensures.items (within-push _ t.rows.items _ (within-more _ _ t.rows.items c.store_kind.ensures.more t.within) c.in_ok-kind.ensures.stored.within);
    }

pub returns : goal.returns
returns c = grind (arith, high_is)
