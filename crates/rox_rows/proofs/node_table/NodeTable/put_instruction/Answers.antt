use Rattle.std.proofs.Common.{rules, false, length, refl, arith}
use Rattle.rox_rows.specs.declared.row.NodeKind.TheVariants as kind
use Rattle.rox_rows.proofs.StoredNodes.{push_is, low_row, within-more, within-push, chain_grown}
use Rattle.rox_rows.proofs.node_table.NodeTable.put_instruction.Goals as goal

pub invariant_of-self : goal.invariant_of-self
invariant_of-self c =
    let t = c.args.self.now in
    record {
      short = omega (arith, t.short, c.push_reserved.ensures.len, c.push_reserved.new.self.ok.0, t.rows.ok.0);
      chained =
          chain_grown t _ _ (kind.PI c.args.instruction) false (length t.rows.items) t.last_owned c.push_reserved.ensures.items (c.put_kind-kind.ensures.stored t.last_owned).chained refl
          refl (λ few. refl);
      within = rw c.push_reserved.ensures.items (within-push _ t.rows.items _ (within-more _ _ t.rows.items c.put_kind-kind.ensures.more t.within) (c.put_kind-kind.ensures.stored t.last_owned).within);
    }

pub returns : goal.returns
returns c =
    let t = c.args.self.now in
    let pis = c.put_kind-kind.new.instructions.items in
    record {
      rows =
          push_is t.instructions.items pis t.high.items t.rows.items _ _ _ t.short c.push_reserved.ensures.items
          (c.put_kind-kind.ensures.same t.high.items t.rows.items t.within) (low_row pis (record c.args.row { kind = kind.PI c.args.instruction }) c.put_kind-kind.result (c.put_kind-kind.ensures.stored t.last_owned).value);
      len = search rules;
      capacity = search rules;
    }
