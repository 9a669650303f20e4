-- The bytes of a value that has a reference, or white space other than spaces.
use Rattle.std.specs.Prelude.{◌≡◌, ◌≤◌, ◌-◌, ℕ, false, List, Ok, slice_index, slice_range, IsCharBoundary}
use Rattle.rox_reading.specs.Markup.{raw_value_at}
use Rattle.rox_reading.specs.Tags.{Values}
use Rattle.rox_reading.specs.Values.{value_at, value_text}
use Rattle.rox_storage.specs.Storage.{storage_bytes, is_borrowed}
use Rattle.rox_storage.specs.declared.storage.StringStorage.{StringStorage}
use Rattle.rox_attributes.specs.declared.any_value.AnyValue.{AnyValue}

-- The value `v` was read at `i`, after the quote `q`, if values are read `such`.
pub record IsAnyValue (such : Values → Type 0) (src : List ℕ) (i q : ℕ) (v : AnyValue) : Type 0 where
  pub read : raw_value_at q src i ≡ Ok (slice_range src i v.end, v.end)
  pub here : slice_index src v.end ≡ q
  pub value : (values : Values) → such values → (openings_left : ℕ)
      → value_at values.main values.entities values.opener src i v.end openings_left ≡ Ok (record { value = storage_bytes v.value; borrowed = is_borrowed v.value }, openings_left)
  pub onward : i ≤ v.end
  pub cut : IsCharBoundary src v.end

-- The value `v`, of the bytes from `i` up to `j`, is owned, if values are read `such`.
pub record IsMadeValue (such : Values → Type 0) (src : List ℕ) (i j : ℕ) (v : StringStorage) : Type 0 where
  pub value : (values : Values) → such values → (openings_left : ℕ) → value_text values.main values.entities values.opener (j - i) src j i openings_left ≡ Ok (storage_bytes v, openings_left)
  pub owned : is_borrowed v ≡ false
