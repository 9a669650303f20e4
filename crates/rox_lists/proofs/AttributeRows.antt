-- Stretches of the table of attributes.
use Rattle.std.proofs.Common.{◌≡◌, ℕ, ◌+◌, ◌-◌, ◌==◌, ◌≤◌, Bool, true, false, if◌then◌else◌, List, [], ◌∷◌, length, map, refl, arith}
use Rattle.std.specs.List.{AllByRecursion, slice_range}
use Rattle.std.proofs.lemmas.List.{take-map, drop-map}
use Rattle.rox_rows.specs.Rows.{AttributeRow, NamespaceWithin, attribute_rows}
use Rattle.rox_rows.specs.StoredAttributes.{AreNumbered, data_of, row_in, place_bound, explicit_count}
use Rattle.rox_rows.specs.declared.row.AttributePlaces.{AttributePlaces}
use Rattle.rox_rows.specs.declared.stored_attribute.StoredAttribute.{StoredAttribute}
use Rattle.rox_rows.specs.declared.attributes.AttributeTable.{AttributeTable}
use Rattle.rox_lists.specs.NamespaceBound.{namespace_bound}
use Rattle.rox_lists.proofs.Entries.{reach_within}

-- a stretch of what the rows are is that of what is stored
pub stretch_rows : (t : AttributeTable) (i j : ℕ) → map (row_in t.explicit.items) (slice_range t.items.items i j) ≡ slice_range (attribute_rows t) i j
stretch_rows t i j = grind (arith, drop-map, take-map)

-- ---- what the tables have for rows

-- the namespace of each row that is stored is within the other table
pub all_reach : (n : ℕ) (us : List AttributePlaces) (xs : List StoredAttribute) → AllByRecursion (λ (r : AttributeRow). NamespaceWithin n r.0.namespace) (map (row_in us) xs)
    → AllByRecursion (λ (r : StoredAttribute). namespace_bound (data_of r).namespace ≤ n) xs
all_reach n us [] h = tt
all_reach n us (x ∷ xs) h = (reach_within n (data_of x).namespace h.0, all_reach n us xs h.1)

-- and its explicit places are in the table
all_numbered : (m n : ℕ) (xs : List StoredAttribute) → AreNumbered n xs → explicit_count xs + n ≤ m → AllByRecursion (λ (r : StoredAttribute). place_bound r ≤ m) xs
all_numbered m n [] h w = tt
all_numbered m n (x ∷ xs) h w =
    (first (x.before == 255) x.place h.0 (omega (arith, w)), all_numbered m ((if x.before == 255 then 1 else 0) + n) xs h.1 (omega (arith, w)))
  where
    first : (b : Bool) (p : ℕ) → (b ≡ true → p ≡ n) → (if b then 1 else 0) + n ≤ m → (if b then p + 1 else 0) ≤ m
    first true p is le = let e = is refl in omega (arith, e, le)
    first false p is le = omega arith

pub all_placed : (t : AttributeTable) → AllByRecursion (λ (r : StoredAttribute). place_bound r ≤ length t.explicit.items) t.items.items
all_placed t = all_numbered (length t.explicit.items) 0 t.items.items t.numbered (omega (arith, t.counted))
