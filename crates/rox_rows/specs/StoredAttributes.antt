-- Attributes as their table stores them. Most are compact: their offsets follow from their start. The others have explicit
-- offsets, in a table.
use Rattle.std.specs.Prelude.{◌≡◌, ◌==◌, ◌-◌, true, ℕ, ◌+◌, List, [], ◌∷◌, ◌++◌, length, get_or, take, if◌then◌else◌}
use Rattle.std.specs.Mem.{manually_drop_value}
use Rattle.std.specs.Coded.{×_prop, →_prop, Unit-prop, Coded-set, coded_ℕ}
use Rattle.rox_storage.specs.Storage.{storage_bytes, is_borrowed}
use Rattle.rox_rows.specs.CompactPlaces.{compact_places}
use Rattle.rox_storage.specs.declared.storage.StringStorage.{StringStorage}
use Rattle.rox_rows.specs.declared.row.AttributeNamespace.{AttributeNamespace}
use Rattle.rox_rows.specs.declared.row.AttributeNamespace.TheVariants as space
use Rattle.rox_rows.specs.declared.row.AttributeData.{AttributeData}
use Rattle.rox_rows.specs.declared.row.AttributePlaces.{AttributePlaces}
use Rattle.rox_rows.specs.declared.stored_attribute.NamespaceKind.{NamespaceKind}
use Rattle.rox_rows.specs.declared.stored_attribute.NamespaceKind.TheVariants as kind
use Rattle.rox_rows.specs.declared.stored_attribute.StoredAttribute.{StoredAttribute}

abbrev pub namespace_of : NamespaceKind → ℕ → AttributeNamespace
namespace_of kind.None listed = space.None
namespace_of kind.Xml listed = space.Xml
namespace_of kind.Listed listed = space.Listed listed

-- The content of an attribute.
abbrev pub data_of : StoredAttribute → AttributeData
data_of r = record { local = r.local; value = manually_drop_value r.value; namespace = namespace_of r.kind r.listed }

-- The offsets of an attribute. `explicit` is the table of explicit offsets.
abbrev pub places_in : List AttributePlaces → StoredAttribute → AttributePlaces
places_in explicit r =
    let compact = compact_places r.place r.before (length r.local.now) (length (storage_bytes (manually_drop_value r.value))) in
    if r.before == 255 then get_or explicit r.place compact else compact

abbrev pub row_in : List AttributePlaces → StoredAttribute → AttributeData × AttributePlaces
row_in explicit r = (data_of r, places_in explicit r)

-- The least length that the table of explicit offsets must have for this row.
abbrev pub place_bound : StoredAttribute → ℕ
place_bound r = if r.before == 255 then r.place + 1 else 0

-- The number of these rows whose offsets are explicit.
abbrev pub explicit_count : List StoredAttribute → ℕ
explicit_count [] = 0
explicit_count (r ∷ rs) = (if r.before == 255 then 1 else 0) + explicit_count rs

-- The rows with explicit offsets have consecutive indices into their table, from `n` on.
abbrev pub AreNumbered : ℕ → List StoredAttribute → Type 0
AreNumbered n [] = Unit {0}
AreNumbered n (r ∷ rs) = ((r.before == 255) ≡ true → r.place ≡ n) × AreNumbered ((if r.before == 255 then 1 else 0) + n) rs

pub AreNumbered-prop : (n : ℕ) (rows : List StoredAttribute) → IsProp (AreNumbered n rows)
AreNumbered-prop n [] = Unit-prop
AreNumbered-prop n (r ∷ rs) = ×_prop (→_prop (Coded-set coded_ℕ r.place n)) (AreNumbered-prop ((if r.before == 255 then 1 else 0) + n) rs)

-- The index `i` if the value is owned, otherwise nothing.
abbrev pub own_place : StringStorage → ℕ → List ℕ
own_place value i = if is_borrowed value then [] else i ∷ []

-- The indices of the rows whose values are owned. The first of the rows has the index `i`.
abbrev pub owned_places : ℕ → List StoredAttribute → List ℕ
owned_places i [] = []
owned_places i (r ∷ rs) = own_place (manually_drop_value r.value) i ++ owned_places (i + 1) rs

-- The rows after the first `count` are removed, and with them the indices of those whose values are owned.
pub record TakesBack (count : ℕ) (old new : List StoredAttribute) (owned left : List ℕ) : Type 0 where
  pub rows : new ≡ take count old
  pub listed : owned_places 0 old ≡ owned → owned_places 0 new ≡ left
