use Rattle.std.proofs.Common.{◌≡◌, ◌+◌, ◌++◌, ◌∷◌, [], ℕ, get_or, length, sym, ap, ◌∙◌, arith, length-take-le}
use Rattle.rox_grammar.specs.State.{inside}
use Rattle.rox_grammar.specs.Written.{Name}
use Rattle.rox_reading.specs.Machine.{name_span}
use Rattle.rox_rows.specs.Rows.{node_rows}
use Rattle.rox_rows.specs.StoredNodes.{data_of}
use Rattle.rox_rows.specs.declared.row.NodeData.{NodeData}
use Rattle.rox_builder.specs.BuilderState.{OpenRow, open_lines, opened_in, with_rows}
use Rattle.rox_names.specs.OpenElements.{name_length}
use Rattle.rox_builder.specs.OpenRows.{top}
use Rattle.rox_builder.proofs.Showing.{innermost_start, rows_count}
use Rattle.rox_names.proofs.SpelledNames.{kept_bounds}
use Rattle.rox_builder.proofs.Stepping.{top_placed, top_view}
use Rattle.rox_constructs.proofs.constructs.open_span.Goals.{then-row-len, else-row-len}
use Rattle.rox_constructs.proofs.constructs.open_span.Goals as goal

pub returns : goal.returns
returns c = λ end start tag before up done outer shows split.
    let b = c.args.builder.now in
    let o = c.args.element.now in
    let stack = inside start tag before up in
    let lines : opened_in b.tables (outer ++ o ∷ []) ≡ open_lines stack = sym (ap (opened_in b.tables) split) ∙ shows.open_rows in
    let view = top_view b.tables start tag before up outer o lines in
    let placed = top_placed b.tables start tag before up outer o lines in
    let row : o.row ≡ top stack = ap (λ (l : OpenRow). l.row) view in
    let front = with_rows b.pending shows.front shows.last in
    let many = rows_count b.tables end stack front (node_rows b.nodes) shows.rows in
    let begins : c.if-row-len.start ≡ start + 1 = elim c.if-row-len.branch [
      | then-row-len w ↦ (
          let d = data_of w.row.result in
          let at : d.start ≡ start = ap (λ (r : NodeData). r.start) w.row.ensures ∙ ap (λ (i : ℕ). (get_or (node_rows b.nodes) i d).start) row
          ∙ innermost_start b.tables end start tag before up front (node_rows b.nodes) d shows.rows in
          omega (arith, w.start-is, w.saturating_add-start.ensures, at, placed.0, placed.1))
      | else-row-len w ↦ absurd (omega (arith, w.if-row-len, many, row, c.len.ensures.nodes))
    ] in
    let long : length c.name_bytes.result.now ≡ name_length o =
    ap length c.name_bytes.ensures ∙ length-take-le (name_length o) o.source.now (kept_bounds o.name_count o.source.now c.requires.within).1 in
    let ends : c.saturating_add-end.result ≡ tag.name_end = omega (arith, c.saturating_add-end.ensures, begins, long, placed.0, placed.1) in
    c.name_span.ensures ∙ ap (λ (m : Name). name_span m c.if-row-len.start c.saturating_add-end.result) (c.open_name.ensures ∙ (ap (λ (l : OpenRow). l.name) view))
    ∙ ap (λ (k : ℕ). name_span tag.name k c.saturating_add-end.result) begins ∙ ap (name_span tag.name (start + 1)) ends
