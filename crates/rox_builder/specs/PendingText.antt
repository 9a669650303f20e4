-- The text that may continue.
use Rattle.std.specs.Prelude.{ℕ, List, []}
use Rattle.rox_storage.specs.Storage.{storage_bytes}
use Rattle.rox_rows.specs.declared.row.NodeKind.{NodeKind}
use Rattle.rox_rows.specs.declared.row.NodeKind.TheVariants as kind
use Rattle.rox_builder.specs.declared.pending.Pending.{Pending}
use Rattle.rox_builder.specs.declared.pending.Pending.TheVariants as pending

-- The number of rows that the text still needs.
abbrev pub waiting : Pending → ℕ
waiting pending.None = 0
waiting pending.Written = 0
waiting pending.Joined = 1

-- The number of rows that the text has.
abbrev pub written : Pending → ℕ
written pending.None = 0
written pending.Written = 1
written pending.Joined = 0

-- The text of a row.
abbrev pub text_of : NodeKind → List ℕ
text_of kind.Root = []
text_of (kind.Element e) = []
text_of (kind.Text value) = storage_bytes value
text_of (kind.Comment text) = []
text_of (kind.PI pi) = []

-- The bytes of the text that a buffer of the bytes `bytes` holds.
abbrev pub text_before : Pending → List ℕ → List ℕ
text_before pending.None bytes = []
text_before pending.Written bytes = []
text_before pending.Joined bytes = bytes
