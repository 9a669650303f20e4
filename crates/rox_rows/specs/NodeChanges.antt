-- How the table of nodes changes.
use Rattle.std.specs.Prelude.{◌≡◌, ◌+◌, ◌^◌, ◌<◌, ◌≤◌, ◌∷◌, ◌++◌, [], ℕ, Bool, Result, OnOk, OnErr, length, set, get_or, vec_len, vec_capacity, if◌then◌else◌}
use Rattle.rox_rows.specs.Rows.{node_rows}
use Rattle.rox_rows.specs.declared.node_table.NodeTable.{NodeTable}
use Rattle.rox_rows.specs.declared.row.NodeData.{NodeData}
use Rattle.rox_rows.specs.declared.row.NodeKind.TheVariants as kind

-- The table has only the root node of a text of `bytes` bytes.
pub record IsRootAlone (bytes : ℕ) (t : NodeTable) : Type 0 where
  pub rows : node_rows t ≡ record { start = 0; end = bytes; parent = 0; subtree_end = 0; kind = kind.Root } ∷ []
  pub len : vec_len t.rows ≡ 1

-- The nodes stay.
pub record KeepsNodes (old new : NodeTable) : Type 0 where
  pub rows : node_rows new ≡ node_rows old
  pub len : vec_len new.rows ≡ vec_len old.rows

-- There is room for a row, and the node's offsets are below 2^32.
pub record FitsNode (row : NodeData) (t : NodeTable) : Type 0 where
  pub room : vec_len t.rows < vec_capacity t.rows
  pub start : row.start < 2 ^ 32
  pub end : row.end < 2 ^ 32

-- The nodes stay, and there is room for one more unless memory ran out.
pub record MakesNodeRoom {E : Type 0} (old new : NodeTable) (result : Result (Unit {0}) E) : Type 0 where
  pub rows : KeepsNodes old new
  pub ok : OnOk result (vec_len new.rows < vec_capacity new.rows)

-- A node is appended, in the room that there was.
pub record PutsNode (row : NodeData) (old new : NodeTable) : Type 0 where
  pub rows : node_rows new ≡ node_rows old ++ row ∷ []
  pub len : vec_len new.rows ≡ vec_len old.rows + 1
  pub capacity : vec_capacity new.rows ≡ vec_capacity old.rows

-- A node is appended if `well` is true; otherwise the nodes stay.
pub record PushesNode (row : NodeData) (well : Bool) (old new : NodeTable) : Type 0 where
  pub rows : node_rows new ≡ (if well then node_rows old ++ row ∷ [] else node_rows old)
  pub len : vec_len new.rows ≡ (if well then vec_len old.rows + 1 else vec_len old.rows)

-- The element of the row `row` ends at `end`, and all later rows become its descendants.
pub record EndsNode (row end : ℕ) (old new : NodeTable) : Type 0 where
  pub rows : (d : NodeData) → node_rows new ≡ set (node_rows old) row (record (get_or (node_rows old) row d) { end = end; subtree_end = length (node_rows old) })
  pub len : vec_len new.rows ≡ vec_len old.rows
  pub capacity : vec_capacity new.rows ≡ vec_capacity old.rows

-- The element of the row `row` ends at `end`, or memory ran out and the nodes stay.
pub record EndsRow {E : Type 0} (row end : ℕ) (old new : NodeTable) (result : Result (Unit {0}) E) : Type 0 where
  pub ends : OnOk result (EndsNode row end old new)
  pub same : OnErr result (KeepsNodes old new)

-- At most one node is after the first `count`.
pub record MayTakeLast (count : ℕ) (t : NodeTable) : Type 0 where
  pub last : vec_len t.rows ≤ count + 1
  pub few : vec_len t.rows < 2 ^ 32
