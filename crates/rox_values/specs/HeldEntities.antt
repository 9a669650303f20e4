-- The code of an entity's name, and the entities in the map by name.
use Rattle.std.specs.Prelude.{◌≡◌, ℕ, ◌+◌, ◌-◌, ◌*◌, ◌/◌, List, Some, length, min, nat_lt, slice_index, if◌then◌else◌}
use Rattle.std.specs.Borrow.{Bor}
use Rattle.std.specs.Cmp.Lexicographic.{slice_cmp}
use Rattle.std.specs.declared.cmp.Ordering.{Ordering}
use Rattle.std.specs.Ordering.{nat_cmp, ordering_then}
use Rattle.std.specs.BTreeMap.{BTreeMap, get_by}
use Rattle.rox_scan.specs.declared.cursor.Cursor.{Cursor}
use Rattle.rox_values.specs.declared.entities.Declared.{Declared}

-- The code of a name, which few names share.
unfoldable pub code_of : List ℕ → ℕ
code_of name =
    if nat_lt (length name) 2 then 0 else
    ((min (length name) 255 * 65536 + (slice_index name 0 * 256 + slice_index name (length name - 1))) * 65536
    + (slice_index name (length name - 2) * 256 + slice_index name (length name / 2)))

-- How `name` compares with the key `k`, in the order of codes and names.
abbrev pub named_cmp : List ℕ → ℕ × Bor (List ℕ) → Ordering
named_cmp name k = ordering_then (nat_cmp (code_of name) k.0) (slice_cmp nat_cmp name k.1.now)

-- The map has the entity `d`.
abbrev pub IsHeld : BTreeMap (ℕ × Bor (List ℕ)) Cursor → Declared → Type 0
IsHeld texts d = get_by (named_cmp d.name.now) texts ≡ Some d.text
