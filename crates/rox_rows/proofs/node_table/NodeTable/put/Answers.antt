use Rattle.std.proofs.Common.{arith}
use Rattle.rox_rows.proofs.StoredNodes.{push_is, within-push, chain_grown}
use Rattle.rox_rows.proofs.node_table.NodeTable.put.Goals as goal

pub invariant_of-self : goal.invariant_of-self
invariant_of-self c =
    let t = c.args.self.now in
    record {
      short = omega (arith, t.short, c.push_reserved.ensures.len, c.push_reserved.new.self.ok.0, t.rows.ok.0);
      chained =
          chain_grown t _ _ c.args.row.kind c.owns_text-owns.result c.len.result _ c.push_reserved.ensures.items (c.small_kind-kind.ensures t.instructions.items).chained c.owns_text-owns.ensures
          (omega (arith, c.len.ensures, t.rows.ok.0)) c.last_with-self.ensures;
      within = rw c.push_reserved.ensures.items (within-push _ t.rows.items _ t.within (c.small_kind-kind.ensures t.instructions.items).within);
    }

pub returns : goal.returns
returns c = grind (arith, push_is)
