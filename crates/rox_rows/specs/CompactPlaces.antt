-- The offsets of a compact attribute, which is written as most are: `a="b"`.
use Rattle.std.specs.Prelude.{ℕ, ◌≡◌, ◌<◌, ◌+◌, ◌^◌, length}
use Rattle.rox_storage.specs.Storage.{storage_bytes}
use Rattle.rox_rows.specs.declared.row.AttributeData.{AttributeData}
use Rattle.rox_rows.specs.declared.row.AttributePlaces.{AttributePlaces}

-- The offsets that follow from the start and three lengths in bytes: before the local part, of the local part, and of the value.
-- `=` and a quote are between the name and the value.
abbrev pub compact_places : (start before local value : ℕ) → AttributePlaces
compact_places start before local value = record {
  start = start;
  name_end = start + before + local;
  value_start = start + before + local + 2;
  end = start + before + local + 2 + value + 1;
}

-- The offsets `places` of an attribute follow from its start and `before`, and a row has room for both.
pub record IsCompact (item : AttributeData) (places : AttributePlaces) (before : ℕ) : Type 0 where
  pub few : before < 255
  pub start : places.start < 2 ^ 32
  pub compact : places ≡ compact_places places.start before (length item.local.now) (length (storage_bytes item.value))
