-- Texts and processing instructions as the tables hold them.
use Rattle.std.specs.Prelude.{ℕ, Bool, List, Option, option_map}
use Rattle.rox_storage.specs.Storage.{storage_bytes, is_borrowed}
use Rattle.rox_storage.specs.declared.storage.StringStorage.{StringStorage}
use Rattle.rox_rows.specs.declared.row.PI.{PI}

-- The bytes of a text, and whether it is `Borrowed`.
abbrev pub stored : StringStorage → List ℕ × Bool
stored s = (storage_bytes s, is_borrowed s)

-- The target and the value of a processing instruction.
abbrev pub instruction : PI → List ℕ × Option (List ℕ)
instruction pi = (pi.target.now, option_map (λ v. v.now) pi.value)
