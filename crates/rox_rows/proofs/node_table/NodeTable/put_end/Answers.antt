use Rattle.std.proofs.Common.{rules, ◌≡◌, ◌^◌, ◌<◌, length, sym, ap, ◌∙◌, arith}
use Rattle.rox_rows.specs.StoredNodes.{no_high, whole_place}
use Rattle.rox_rows.proofs.StoredNodes.{a_row, count_nodes, end_is, within-end, chain_end}
use Rattle.rox_rows.proofs.node_table.NodeTable.put_end.Goals as goal

pub invariant_of-self : goal.invariant_of-self
invariant_of-self c =
    let t = c.args.self.now in
    record {
      short = omega (arith, t.short, c.end_stored.ensures.count, c.end_stored.new.rows.ok.0, t.rows.ok.0, c.end_high.ensures.count, c.end_high.new.high.ok.0, t.high.ok.0);
      chained =
          λ few.
          rw (c.end_stored.ensures.rows a_row)
          (chain_end 0 0 t.last_owned t.rows.items c.args.row c.low_half.result c.len-subtree_end.result a_row (t.chained (omega (arith, few, c.end_stored.ensures.count, c.end_stored.new.rows.ok.0, t.rows.ok.0))));
      within = rw (c.end_stored.ensures.rows a_row) (within-end _ t.rows.items c.args.row c.low_half.result c.len-subtree_end.result a_row t.within);
    }

pub returns : goal.returns
returns c = record {
  rows =
      λ d.
      let t = c.args.self.now in
      let none : length t.high.items < length t.rows.items → c.high_half.result ≡ 0 =
      λ fewer. let small : c.args.end < 2 ^ 32 = c.requires.room (omega (arith, fewer, t.rows.ok.0, t.high.ok.0)) in omega (arith, small, c.high_half.ensures) in
      let place : whole_place c.low_half.result c.high_half.result ≡ c.args.end = ap (whole_place c.low_half.result) c.high_half.ensures ∙ sym c.low_half.ensures in
      end_is t c.args.row c.low_half.result c.high_half.result c.len-subtree_end.result c.args.end _ d _ _ t.short none (c.end_high.ensures.rows no_high) (c.end_stored.ensures.rows a_row) place (c.len-subtree_end.ensures ∙ count_nodes t);
  len = search rules;
  capacity = search rules;
}
