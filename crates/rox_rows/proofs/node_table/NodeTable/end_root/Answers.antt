use Rattle.rox_rows.proofs.StoredNodes.{a_row, root_is, within-root, chain_root}
use Rattle.std.proofs.Common.{arith, rules}
use Rattle.rox_rows.proofs.node_table.NodeTable.end_root.Goals as goal

pub invariant_of-self : goal.invariant_of-self
invariant_of-self c =
    let t = c.args.self.now in
    record {
      short = omega (arith, t.short, c.close_stored.ensures.count, c.close_stored.new.rows.ok.0, t.rows.ok.0);
      chained =
          λ few.
          rw (c.close_stored.ensures.rows a_row)
          (chain_root 0 0 t.last_owned t.rows.items c.args.count a_row (t.chained (omega (arith, few, c.close_stored.ensures.count, c.close_stored.new.rows.ok.0, t.rows.ok.0))));
      within = rw (c.close_stored.ensures.rows a_row) (within-root _ t.rows.items c.args.count a_row t.within);
    }

pub returns : goal.returns
returns c = record { rows = λ d. root_is c.args.self.now c.args.count d _ (c.close_stored.ensures.rows a_row); len = search rules }
