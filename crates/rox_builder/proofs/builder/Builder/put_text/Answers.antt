use Rattle.std.proofs.Common.{◌++◌, ◌∷◌, [], Bool, refl, ap, ◌∙◌, List, ℕ, arith, rules}
use Rattle.std.proofs.lemmas.Grind.{common_steps}
use Rattle.rox_grammar.specs.Forest.{join}
use Rattle.rox_grammar.specs.Written.{Text, leaf}
use Rattle.rox_reading.specs.State.{State}
use Rattle.rox_rows.specs.declared.row.NodeData.{NodeData}
use Rattle.rox_rows.specs.declared.row.NodeKind.{NodeKind}
use Rattle.rox_rows.specs.declared.row.NodeKind.TheVariants as kind
use Rattle.rox_storage.specs.Storage.{storage_bytes, is_borrowed}
use Rattle.rox_builder.proofs.Showing.{piece_first, first_count}
use Rattle.rox_theory.proofs.Leaves.{fits_counted}
use Rattle.rox_rows.specs.Rows.{node_rows}
use Rattle.rox_rows.proofs.StoredNodes.{count_nodes}
use Rattle.rox_builder.proofs.builder.Builder.put_text.Goals as goal

pub returns : goal.returns
returns c = record {
  adds = record {
    value = λ total at s sh.
        let b = c.args.self.now in
        let v : List ℕ = storage_bytes c.args.text in
        let p : Bool = is_borrowed c.args.text in
        let t : State = record { at = at; done = join s.done (leaf (Text c.args.start c.args.end v p)); stack = s.stack; openings_left = s.openings_left } in
        let n = first_count total s.stack s.done b c.args.start c.args.end v p sh c.requires.apart in
        let few = c.requires.ready.few in
        let len = count_nodes b.nodes in
        let k : NodeKind = kind.Text c.args.text in
        let rows = c.put.ensures.rows ∙ ap (λ (r : NodeData). (node_rows b.nodes) ++ r ∷ []) c.row-row.ensures in
        (t, fits_counted b.nodes_limit t (omega arith), piece_first total s.stack s.done b _ c.args.start c.args.end v p k sh c.requires.apart refl tt rows refl refl refl);
    kept = record { opened = refl; tables = refl; limit = refl; openings_left = refl };
  };
  rows = first_of (search rules, grind (arith, common_steps));
  ready = first_of (search rules, grind (arith, common_steps));
}
