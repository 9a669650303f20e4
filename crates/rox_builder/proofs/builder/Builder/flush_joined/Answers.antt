use Rattle.std.proofs.Common.{◌++◌, ◌∷◌, [], refl, ap, ◌∙◌, arith}
use Rattle.rox_builder.specs.PendingText.{waiting}
use Rattle.rox_rows.specs.declared.row.NodeKind.TheVariants as kind
use Rattle.rox_rows.specs.declared.row.NodeData.{NodeData}
use Rattle.rox_builder.proofs.Showing.{joined_is, settled_joined}
use Rattle.rox_rows.specs.Rows.{node_rows}
use Rattle.rox_builder.proofs.builder.Builder.flush_joined.Goals as goal

pub returns : goal.returns
returns c = record {
  ok = λ end stack done sh.
      let b = c.args.self.now in
      let held = c.as_str.ensures.value in
      let v = c.in_ok-text.ensures.bytes (rw held (joined_is end stack done b sh c.requires).1) ∙ held in
      settled_joined end stack done b _ (kind.Text c.in_ok-text.text) sh c.requires (rw (v, c.in_ok-text.ensures.borrowed) refl) tt
      (c.in_ok-push.ensures.rows ∙ ap (λ (r : NodeData). (node_rows b.nodes) ++ r ∷ []) c.row-row.ensures) refl refl refl;
  empty = refl;
  count = omega (arith, c.in_ok-push.ensures.len, ap waiting c.requires);
  kept = record { opened = refl; tables = refl; limit = refl; openings_left = refl };
}
