-- A text whose row is removed, as another text joins it.
use Rattle.std.specs.Prelude.{◌≡◌, ℕ, ◌+◌, ◌++◌, ◌∷◌, [], ◌<◌, ◌^◌, List, OnOk, IfOk, IfErr, Result, vec_len}
use Rattle.std.specs.declared.alloc.AllocError.{AllocError}
use Rattle.rox_rows.specs.Rows.{node_rows}
use Rattle.rox_rows.specs.declared.node_table.NodeTable.{NodeTable}
use Rattle.rox_rows.specs.declared.row.NodeData.{NodeData}
use Rattle.rox_builder.specs.PendingText.{text_of}
use Rattle.rox_builder.specs.declared.text_nodes.TextRange.{TextRange}

-- There is a row to remove.
pub record MayTakeLast (rows : NodeTable) : Type 0 where
  pub some : 0 < vec_len rows.rows
  pub few : vec_len rows.rows < 2 ^ 32

-- The last row, of a text, was removed: its text, and `text` after it, is what was joined.
pub record TakesLast (old new : NodeTable) (joined text : List ℕ) (result : Result TextRange AllocError) : Type 0 where
  pub taken : IfOk result (λ r. (last : NodeData) × (node_rows old ≡ node_rows new ++ last ∷ []) × (r ≡ record { start = last.start; end = last.end }) × (joined ≡ text_of last.kind ++ text))
  pub count : OnOk result (vec_len old.rows ≡ vec_len new.rows + 1)
  pub same : IfErr result (λ e. new ≡ old)
