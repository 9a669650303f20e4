use Rattle.std.proofs.Common.{◌≡◌, refl, ap, ◌∙◌, arith, length, set, get_or, ℕ}
use Rattle.rox_names.specs.declared.tables.Tables.{Tables}
use Rattle.rox_builder.proofs.Finishing.{finish_holds, same_held}
use Rattle.rox_rows.specs.Rows.{node_rows}
use Rattle.rox_rows.proofs.StoredNodes.{count_nodes}
use Rattle.rox_builder.proofs.builder.Builder.end.Goals as goal

pub returns : goal.returns
returns c = record {
  ok = λ end done sh sound.
      let b = c.flush.new.self in
      let len = count_nodes b.nodes in
      let few = b.few in
      let count : c.len-count.result ≡ length (node_rows b.nodes) = omega (arith, c.len-count.ensures.nodes) in
      let whole : Tables = record { nodes = c.end_root.new.self; attributes = b.tables.attributes; namespaces = b.tables.namespaces.items; listed = b.tables.listed; scopes = b.tables.scopes } in
      same_held whole _ _ c.trim.ensures.rows c.trim-2.ensures refl refl refl
      (finish_holds end done b whole (c.in_ok-flush.ensures.ok end _ done sh) (rw c.flush.ensures.kept.tables sound) (omega arith)
      (λ d. c.end_root.ensures.rows d ∙ ap (λ (n : ℕ). set (node_rows b.nodes) 0 (record (get_or (node_rows b.nodes) 0 d) { subtree_end = n })) count) refl refl refl refl);
}
