-- The tables at the end of a text.
use Rattle.std.proofs.Common.{◌≡◌, ℕ, ◌+◌, ◌<◌, ◌^◌, length, set, get_or, sym, ap, ◌∙◌, arith}
use Rattle.std.proofs.Math.ListN.{get_or-map}
use Rattle.std.proofs.lemmas.List.{append-nil, map-set, length-set}
use Rattle.rox_grammar.specs.Forest.{Forest, size}
use Rattle.rox_grammar.specs.Written.{Item, merge}
use Rattle.rox_grammar.specs.Tree.{Node, document_tree}
use Rattle.rox_grammar.specs.State.{root}
use Rattle.rox_reading.proofs.Forests.{size-resolved}
use Rattle.rox_rows.specs.Rows.{RowView, preorder_rows, attribute_rows, node_rows}
use Rattle.rox_names.specs.Tables.{HoldsTree, Sound}
use Rattle.rox_builder.specs.OpenRows.{root_line, so_far}
use Rattle.rox_builder.specs.BuilderState.{IsRowWithin, AreSound, RepresentsFlushed, line_in}
use Rattle.rox_rows.specs.declared.row.NodeData.{NodeData}
use Rattle.rox_names.specs.declared.tables.Tables.{Tables}
use Rattle.rox_builder.specs.declared.builder.Builder.{Builder}
use Rattle.rox_builder.proofs.Showing.{rows_count, within_set, within_at, some_row, first_within}

root_closed : (end : ℕ) (f : Forest Item) (n : ℕ) → n ≡ 0 + 1 + size f
    → set (so_far end root f) 0 (record (root_line end) { subtree_end = n }) ≡ preorder_rows 0 0 (document_tree end f)
root_closed end f n h = grind (arith, size-resolved, append-nil)

finish_with : (end : ℕ) (done : Forest Item) (b : Builder) (u : Tables) (d : NodeData) → RepresentsFlushed end root done b → AreSound b.tables → length (node_rows b.nodes) < 2 ^ 32
    → (node_rows u.nodes) ≡ set (node_rows b.nodes) 0 (record (get_or (node_rows b.nodes) 0 d) { subtree_end = length (node_rows b.nodes) }) → u.attributes ≡ b.tables.attributes → u.namespaces ≡ b.tables.namespaces.items
    → u.listed ≡ b.tables.listed → u.scopes ≡ b.tables.scopes → IsRowWithin b.tables d.kind → HoldsTree u (document_tree end (merge done))
finish_with end done b u d h sound few change attributes namespaces listed scopes fine =
    let t = b.tables in
    let n = rows_count t end root (merge done) (node_rows b.nodes) h.rows in
    let found : line_in t (get_or (node_rows b.nodes) 0 d) ≡ root_line end = sym (get_or-map (line_in t) (node_rows b.nodes) 0 d) ∙ ap (λ xs. get_or xs 0 (line_in t d)) h.rows in
    let new : NodeData = record (get_or (node_rows b.nodes) 0 d) { subtree_end = length (node_rows b.nodes) } in
    let is_closed : line_in t new ≡ record (root_line end) { subtree_end = length (node_rows b.nodes) } = ap (λ (l : RowView). record l { subtree_end = length (node_rows b.nodes) }) found in
    let g = map-set (line_in t) (node_rows b.nodes) 0 new ∙ ap (λ xs. set xs 0 (line_in t new)) h.rows ∙ ap (λ y. set (so_far end root (merge done)) 0 y) is_closed
    ∙ root_closed end (merge done) (length (node_rows b.nodes)) n in
    let w = within_set t (node_rows b.nodes) 0 new h.within (within_at t (node_rows b.nodes) 0 d h.within fine) in
    let l : length (node_rows u.nodes) ≡ length (node_rows b.nodes) = ap length change ∙ length-set (node_rows b.nodes) 0 new in
    let s : Sound u = record {
      nodes = rw (change, attributes, namespaces, scopes) w;
      attributes = rw (attributes, namespaces) sound.attributes;
      listed = rw (listed, namespaces) sound.listed;
      scopes = rw (listed, scopes) sound.scopes;
    } in
    record { rows = rw (change, attributes, namespaces, listed, scopes) g; sound = s; few = rw l few }

pub finish_holds : (end : ℕ) (done : Forest Item) (b : Builder) (u : Tables) → RepresentsFlushed end root done b → AreSound b.tables → length (node_rows b.nodes) < 2 ^ 32
    → ((d : NodeData) → (node_rows u.nodes) ≡ set (node_rows b.nodes) 0 (record (get_or (node_rows b.nodes) 0 d) { subtree_end = length (node_rows b.nodes) })) → u.attributes ≡ b.tables.attributes
    → u.namespaces ≡ b.tables.namespaces.items → u.listed ≡ b.tables.listed → u.scopes ≡ b.tables.scopes → HoldsTree u (document_tree end (merge done))
finish_holds end done b u h sound few change attributes namespaces listed scopes =
    let n = rows_count b.tables end root (merge done) (node_rows b.nodes) h.rows in
    let some : 0 < length (node_rows b.nodes) = omega arith in
    let d = some_row (node_rows b.nodes) some in
    finish_with end done b u d h sound few (change d) attributes namespaces listed scopes (first_within b.tables (node_rows b.nodes) some h.within)

-- tables of the same rows hold the same tree, whatever room they have
pub same_held : (t u : Tables) (tree : Forest Node) → (node_rows u.nodes) ≡ (node_rows t.nodes) → attribute_rows u.attributes ≡ attribute_rows t.attributes → u.namespaces ≡ t.namespaces → u.listed ≡ t.listed → u.scopes ≡ t.scopes
    → HoldsTree t tree → HoldsTree u tree
same_held t u tree nodes attributes namespaces listed scopes h = record {
  rows = rw (nodes, attributes, namespaces, listed, scopes) h.rows;
  sound = record {
    nodes = rw (nodes, attributes, namespaces, scopes) h.sound.nodes;
    attributes = rw (attributes, namespaces) h.sound.attributes;
    listed = rw (listed, namespaces) h.sound.listed;
    scopes = rw (listed, scopes) h.sound.scopes;
  };
  few = rw nodes h.few;
}
