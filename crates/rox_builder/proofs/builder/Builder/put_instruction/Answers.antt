use Rattle.std.proofs.Common.{◌++◌, ◌∷◌, [], refl, ap, ◌∙◌, arith, rules}
use Rattle.std.proofs.lemmas.Grind.{common_steps}
use Rattle.rox_grammar.specs.Forest.{join}
use Rattle.rox_grammar.specs.Written.{leaf}
use Rattle.rox_reading.specs.State.{State}
use Rattle.rox_rows.specs.declared.row.NodeData.{NodeData}
use Rattle.rox_rows.specs.declared.row.NodeKind.TheVariants as kind
use Rattle.rox_builder.proofs.Showing.{leaf_shows, leaf_count, settled_count}
use Rattle.rox_theory.proofs.Leaves.{fits_counted}
use Rattle.rox_rows.specs.Rows.{node_rows}
use Rattle.rox_rows.proofs.StoredNodes.{count_nodes}
use Rattle.rox_builder.proofs.builder.Builder.put_instruction.Goals as goal

pub returns : goal.returns
returns c = record {
  adds = record {
    value = λ total at s item sh is.
        let f = c.settle.new.self in
        let st = c.settle.ensures.ok total s.stack s.done sh in
        let t : State = record { at = at; done = join s.done (leaf item); stack = s.stack; openings_left = s.openings_left } in
        let n = settled_count total s.stack s.done f st in
        let m = leaf_count s.stack s.done item is.no_text in
        let few = c.requires.ready.few in
        let same = ap (λ v. v.rows.len) c.settle.ensures.nodes in
        let len = count_nodes f.nodes in
        let old = count_nodes c.args.self.now.nodes in (
          t,
          fits_counted c.args.self.now.nodes_limit t (omega arith),
          leaf_shows total s.stack s.done f _ c.args.start c.args.end (kind.PI c.args.instruction) item st (rw c.settle.ensures.kept.tables is)
              (c.put_instruction.ensures.rows ∙ ap (λ (r : NodeData). (node_rows f.nodes) ++ record r { kind = kind.PI c.args.instruction } ∷ []) c.row-row.ensures) refl refl refl,
        );
    kept = record { opened = c.settle.ensures.kept.opened; tables = c.settle.ensures.kept.tables; limit = c.settle.ensures.kept.limit; openings_left = c.settle.ensures.kept.openings_left };
  };
  ready = first_of (search rules, grind (arith, common_steps));
}
