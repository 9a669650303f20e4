-- Records.
use Rattle.std.specs.Prelude.{ℕ, Bool, ◌||◌, List, ◌++◌, Option, Some, string_bytes, codes, decimal, is_none, option_map, find}
use Rattle.roxmltree.specs.DocumentView.{DocumentView}
use Rattle.roxmltree.specs.NodeParts.{start_of}
use Rattle.roxmltree.specs.NodeRef.{node_refs}
use Rattle.rox_uses.specs.Nodes.{item_at, value_at}
use Rattle.rox_uses.specs.declared.records.Record.{Record}
use Rattle.rox_uses.specs.declared.records.RecordsError.{RecordsError}
use Rattle.rox_uses.specs.declared.records.RecordsError.TheVariants as error

-- The name and the value that a row has, each if it is there.
abbrev pub said : DocumentView × ℕ → Option (List ℕ) × Option (List ℕ)
said row = (value_at (codes "name") row, value_at (codes "value") row)

-- The name and the value of a record, as its row has them.
abbrev pub written : Record → Option (List ℕ) × Option (List ℕ)
written record' = (Some (string_bytes record'.name), Some (string_bytes record'.value))

-- Whether the name or the value is missing.
abbrev pub is_incomplete : DocumentView × ℕ → Bool
is_incomplete row = is_none (value_at (codes "name") row) || is_none (value_at (codes "value") row)

-- Where the first incomplete row among the nodes of these ids starts, or `None` if none is incomplete.
abbrev pub first_incomplete : DocumentView → List ℕ → Option ℕ
first_incomplete document ids = option_map (λ row. start_of (item_at row)) (find is_incomplete (node_refs document ids))

-- The text that an error prints.
abbrev pub message : RecordsError → List ℕ
message (error.Incomplete start) = codes "the row at byte " ++ (decimal start ++ codes " is incomplete")
message error.OutOfMemory = codes "out of memory"
