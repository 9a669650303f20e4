-- The table of attributes: rows, and the explicit places of some.
use Rattle.std.proofs.Common.{◌≡◌, ℕ, zero, suc, ◌+◌, ◌-◌, ◌<◌, ◌≤◌, ◌==◌, Bool, true, false, List, [], ◌∷◌, ◌++◌, length, map, take, drop, get_or, if◌then◌else◌, length-append, append-nil, append_assoc, refl, sym, ap, ◌∙◌, subst, arith}
use Rattle.std.specs.List.{AllByRecursion, slice_range, list_any}
use Rattle.std.proofs.Math.Seq.{drop-append_seam, get_or-append_seam}
use Rattle.std.proofs.lemmas.List.{take_all, take-append-le, length-map, drop-map, take-map, map-append, take-append-drop, take_more, get_or-take, get_or_append_left}
use Rattle.std.specs.Mem.{manually_drop_value}
use Rattle.rox_storage.specs.Storage.{storage_bytes, is_borrowed}
use Rattle.rox_rows.specs.CompactPlaces.{compact_places}
use Rattle.rox_rows.specs.StoredAttributes.{data_of, places_in, row_in, explicit_count, AreNumbered, own_place, owned_places}
use Rattle.rox_rows.specs.declared.row.AttributeData.{AttributeData}
use Rattle.rox_rows.specs.declared.row.AttributePlaces.{AttributePlaces}
use Rattle.rox_rows.specs.declared.stored_attribute.StoredAttribute.{StoredAttribute}
use Rattle.rox_rows.specs.declared.attributes.AttributeTable.{AttributeTable}
use Rattle.rox_rows.specs.Rows.{AttributeRow, attribute_rows}
use Rattle.rox_grammar.proofs.Stretches.{slice-rest}

pub length_rows : (t : AttributeTable) → length (attribute_rows t) ≡ length t.items.items
length_rows t = length-map t.items.items (row_in t.explicit.items)

-- ---- how many have explicit places

pub count_append : (xs ys : List StoredAttribute) → explicit_count (xs ++ ys) ≡ explicit_count xs + explicit_count ys
count_append [] ys = omega arith
count_append (x ∷ xs) ys = let h = count_append xs ys in omega (arith, h)

-- one more
pub count_more : (xs : List StoredAttribute) (i : ℕ) (r : StoredAttribute) → i < length xs
    → explicit_count (take (i + 1) xs) ≡ explicit_count (take i xs) + (if (get_or xs i r).before == 255 then 1 else 0)
count_more xs i r l =
    let h = ap explicit_count (take_more xs i r l) in
    let a = count_append (take i xs) (get_or xs i r ∷ []) in
    omega (arith, h, a)

-- as a loop counts them
pub count_next : (xs : List StoredAttribute) (i : ℕ) (r : StoredAttribute) (b : Bool) (c : ℕ) → i < length xs → r ≡ get_or xs i r → b ≡ (r.before == 255) → c ≡ explicit_count (take i xs)
    → (if b then c + 1 else c) ≡ explicit_count (take (i + 1) xs)
count_next xs i r b c l is test so =
    let at : (get_or xs i r).before == 255 ≡ b = ap (λ (y : StoredAttribute). y.before == 255) (sym is) ∙ sym test in
    let more = count_more xs i r l ∙ ap (λ (d : Bool). explicit_count (take i xs) + (if d then 1 else 0)) at in
    cases b c (explicit_count (take i xs)) so ∙ sym more
  where
    cases : (b : Bool) (c d : ℕ) → c ≡ d → (if b then c + 1 else c) ≡ d + (if b then 1 else 0)
    cases true c d h = omega (arith, h)
    cases false c d h = omega (arith, h)

-- the first of these, and the others
pub count_parts : (k : ℕ) (xs : List StoredAttribute) → explicit_count (take k xs) + explicit_count (drop k xs) ≡ explicit_count xs
count_parts k xs = sym (count_append (take k xs) (drop k xs)) ∙ ap explicit_count (take-append-drop k xs)

-- ---- those whose values are owned

pub owned_more : (i : ℕ) (xs : List StoredAttribute) (r : StoredAttribute) → owned_places i (xs ++ r ∷ []) ≡ owned_places i xs ++ own_place (manually_drop_value r.value) (length xs + i)
owned_more i [] r = grind arith
owned_more i (x ∷ xs) r =
    let own = own_place (manually_drop_value x.value) i in
    let n : length xs + (i + 1) ≡ suc (length xs) + i = omega arith in
    ap (λ (ps : List ℕ). own ++ ps) (owned_more (i + 1) xs r ∙ ap (λ k. owned_places (i + 1) xs ++ own_place (manually_drop_value r.value) k) n)
    ∙ sym (append_assoc own (owned_places (i + 1) xs) (own_place (manually_drop_value r.value) (suc (length xs) + i)))

-- one more row
pub owned_push : (xs ys : List StoredAttribute) (owned more : List ℕ) (r : StoredAttribute) (item : AttributeData) (n : ℕ) → ys ≡ xs ++ r ∷ [] → data_of r ≡ item → n ≡ length xs
    → owned_places 0 xs ≡ owned → more ≡ owned ++ own_place item.value n → owned_places 0 ys ≡ more
owned_push xs ys owned more r item n grown is count listed noted = grind (arith, owned_more)

-- without the last
without : (zs old new : List ℕ) (k n : ℕ) → zs ++ k ∷ [] ≡ old → n ≡ length old → new ≡ take (n - 1) old → zs ≡ new
without zs old new k n parts count cut = grind (arith, length-append, take-append-le, take_all)

-- one row fewer, of a value that is owned, and of another
pub owned_cut : (old xs : List StoredAttribute) (r : StoredAttribute) (owned fewer : List ℕ) (n : ℕ) → old ≡ xs ++ r ∷ []
    → is_borrowed (manually_drop_value r.value) ≡ false → n ≡ length owned → fewer ≡ take (n - 1) owned → owned_places 0 old ≡ owned → owned_places 0 xs ≡ fewer
owned_cut old xs r owned fewer n parts own count cut listed =
    let at = length xs + 0 in
    let last : own_place (manually_drop_value r.value) at ≡ at ∷ [] = ap (λ (b : Bool). if b then [] else at ∷ []) own in
    without (owned_places 0 xs) owned fewer at n (ap (λ (ps : List ℕ). owned_places 0 xs ++ ps) (sym last) ∙ sym (owned_more 0 xs r) ∙ ap (owned_places 0) (sym parts) ∙ listed) count cut

pub lent_cut : (old xs : List StoredAttribute) (r : StoredAttribute) (owned : List ℕ) → old ≡ xs ++ r ∷ []
    → is_borrowed (manually_drop_value r.value) ≡ true → owned_places 0 old ≡ owned → owned_places 0 xs ≡ owned
lent_cut old xs r owned parts lent listed = grind (arith, append-nil, owned_more)

-- ---- their numbers

pub numbered_more : (n : ℕ) (xs : List StoredAttribute) (r : StoredAttribute) → AreNumbered n xs → ((r.before == 255) ≡ true → r.place ≡ explicit_count xs + n)
    → AreNumbered n (xs ++ r ∷ [])
numbered_more n [] r h is = (λ e. let i = is e in omega (arith, i), tt)
numbered_more n (x ∷ xs) r h is =
    let one : ℕ = if x.before == 255 then 1 else 0 in
    (h.0, numbered_more (one + n) xs r h.1 (λ e. let i = is e in omega (arith, i)))

pub numbered_take : (n k : ℕ) (xs : List StoredAttribute) → AreNumbered n xs → AreNumbered n (take k xs)
numbered_take n zero xs h = tt
numbered_take n (suc k) [] h = tt
numbered_take n (suc k) (x ∷ xs) h = (h.0, numbered_take ((if x.before == 255 then 1 else 0) + n) k xs h.1)

within : (b : Bool) (p n c k : ℕ) → b ≡ true → p ≡ n → ((if b then 1 else 0) + c) + n ≤ k → p < k
within b p n c k h q r = grind arith

-- ---- rows over another table of places, which is the same as far as theirs go

same_place : (us vs : List AttributePlaces) (k : ℕ) (b : Bool) (p : ℕ) (d : AttributePlaces) → ((i : ℕ) → i < k → get_or vs i d ≡ get_or us i d) → (b ≡ true → p < k)
    → (if b then get_or vs p d else d) ≡ (if b then get_or us p d else d)
same_place us vs k b p d h q = grind arith

rows_same : (us vs : List AttributePlaces) (k n : ℕ) (xs : List StoredAttribute) → ((i : ℕ) (d : AttributePlaces) → i < k → get_or vs i d ≡ get_or us i d)
    → AreNumbered n xs → explicit_count xs + n ≤ k → map (row_in vs) xs ≡ map (row_in us) xs
rows_same us vs k n [] same h l = refl
rows_same us vs k n (x ∷ xs) same h l =
    let compact = compact_places x.place x.before (length x.local.now) (length (storage_bytes (manually_drop_value x.value))) in
    let one : ℕ = if x.before == 255 then 1 else 0 in
    let first : places_in vs x ≡ places_in us x =
    same_place us vs k (x.before == 255) x.place compact (λ i. same i compact) (λ e. within (x.before == 255) x.place n (explicit_count xs) k e (h.0 e) l) in
    ap (λ (p : AttributePlaces). (data_of x, p) ∷ map (row_in vs) xs) first
    ∙ ap (λ (rows : List AttributeRow). row_in us x ∷ rows) (rows_same us vs k (one + n) xs same h.1 (omega arith))

-- with more places
pub rows_grown : (us more : List AttributePlaces) (xs : List StoredAttribute) → AreNumbered 0 xs → length us ≡ explicit_count xs → map (row_in (us ++ more)) xs ≡ map (row_in us) xs
rows_grown us more xs h e = rows_same us (us ++ more) (length us) 0 xs (λ i d l. get_or_append_left us more d i l) h (omega arith)

-- with fewer
pub rows_cut : (us : List AttributePlaces) (k : ℕ) (xs : List StoredAttribute) → AreNumbered 0 xs → explicit_count xs ≤ k → map (row_in (take k us)) xs ≡ map (row_in us) xs
rows_cut us k xs h l = rows_same us (take k us) k 0 xs (λ i d b. get_or-take k us i d b) h (omega arith)

-- ---- what rows are, as a slice of the stored ones

what : (us : List AttributePlaces) (xs : List StoredAttribute) → map (λ (r : AttributeRow). r.0) (map (row_in us) xs) ≡ map data_of xs
what us [] = refl
what us (x ∷ xs) = ap (λ (ds : List AttributeData). data_of x ∷ ds) (what us xs)

-- from any place on
pub column_behind : (t : AttributeTable) (seen : List StoredAttribute) (from : ℕ) → seen ≡ t.items.items
    → map (λ (r : AttributeRow). r.0) (drop from (attribute_rows t)) ≡ map data_of (slice_range seen from (length seen))
column_behind t seen from same = grind (arith, drop-map, what, slice-rest)

-- behind the first rows
pub data_behind : (t : AttributeTable) (seen : List StoredAttribute) (old : List AttributeRow) (from : ℕ) → seen ≡ t.items.items → from ≡ length old
    → map (λ (r : AttributeRow). r.0) (drop (length old) (attribute_rows t)) ≡ map data_of (slice_range seen from (length seen))
data_behind t seen old from same at = subst (λ (n : ℕ). map (λ (r : AttributeRow). r.0) (drop n (attribute_rows t)) ≡ map data_of (slice_range seen from (length seen))) at (column_behind t seen from same)

-- what holds of what each row is holds of each that is stored
all_data : (P : AttributeData → Type 0) (us : List AttributePlaces) (xs : List StoredAttribute) → AllByRecursion (λ (r : AttributeRow). P r.0) (map (row_in us) xs) → AllByRecursion (λ (r : StoredAttribute). P (data_of r)) xs
all_data P us [] h = tt
all_data P us (x ∷ xs) h = (h.0, all_data P us xs h.1)

pub all_column : (P : AttributeData → Type 0) (t : AttributeTable) (seen : List StoredAttribute) (from : ℕ) → seen ≡ t.items.items
    → AllByRecursion (λ (r : AttributeRow). P r.0) (drop from (attribute_rows t)) → AllByRecursion (λ (r : StoredAttribute). P (data_of r)) (slice_range seen from (length seen))
all_column P t seen from same h = grind (arith, slice-rest, all_data, drop-map)

pub all_behind : (P : AttributeData → Type 0) (t : AttributeTable) (seen : List StoredAttribute) (old more : List AttributeRow) (from : ℕ)
    → seen ≡ t.items.items → attribute_rows t ≡ old ++ more → from ≡ length old → AllByRecursion (λ (r : AttributeRow). P r.0) more
    → AllByRecursion (λ (r : StoredAttribute). P (data_of r)) (slice_range seen from (length seen))
all_behind P t seen old more from same grown at h =
    let behind : more ≡ drop from (attribute_rows t) = sym (ap (λ n. drop n (attribute_rows t)) at ∙ ap (drop (length old)) grown ∙ drop-append_seam old more) in
    all_column P t seen from same (subst (AllByRecursion (λ (r : AttributeRow). P r.0)) behind h)

-- some row is of a kind where some stored one is
pub any_data : (P : AttributeData → Bool) (xs : List StoredAttribute) → list_any P (map data_of xs) ≡ list_any (λ r. P (data_of r)) xs
any_data P [] = refl
any_data P (x ∷ xs) = rw (any_data P xs) refl

-- ---- one more row

-- of an attribute whose places do not follow from its start
pub explicit_row : (us : List AttributePlaces) (r : StoredAttribute) (item : AttributeData) (places : AttributePlaces) → data_of r ≡ item → r.before ≡ 255
    → r.place ≡ length us → row_in (us ++ places ∷ []) r ≡ (item, places)
explicit_row us r item places is marked last = grind (arith, get_or-append_seam)

pub rows_push : (us : List AttributePlaces) (xs ys : List StoredAttribute) (r : StoredAttribute) (row : AttributeRow) → ys ≡ xs ++ r ∷ [] → row_in us r ≡ row
    → map (row_in us) ys ≡ map (row_in us) xs ++ row ∷ []
rows_push us xs ys r row grown is = ap (map (row_in us)) grown ∙ map-append (row_in us) xs (r ∷ []) ∙ ap (λ (x : AttributeRow). map (row_in us) xs ++ x ∷ []) is

-- one more that is compact has no number
pub numbered_compact : (xs ys : List StoredAttribute) (r : StoredAttribute) → ys ≡ xs ++ r ∷ [] → AreNumbered 0 xs → r.before < 255 → AreNumbered 0 ys
numbered_compact xs ys r grown h few = grind (arith, numbered_more)

pub count_compact : (xs ys : List StoredAttribute) (r : StoredAttribute) → ys ≡ xs ++ r ∷ [] → r.before < 255 → explicit_count ys ≡ explicit_count xs
count_compact xs ys r grown few = grind (arith, count_append)

pub numbered_explicit : (xs ys : List StoredAttribute) (r : StoredAttribute) (n : ℕ) → ys ≡ xs ++ r ∷ [] → AreNumbered 0 xs → n ≡ explicit_count xs → r.place ≡ n → AreNumbered 0 ys
numbered_explicit xs ys r n grown h counted last = subst (AreNumbered 0) (sym grown) (numbered_more 0 xs r h (λ e. omega (arith, counted, last)))

pub count_one_more : (xs ys : List StoredAttribute) (r : StoredAttribute) → ys ≡ xs ++ r ∷ [] → r.before ≡ 255 → explicit_count ys ≡ explicit_count xs + 1
count_one_more xs ys r grown marked = grind (arith, count_append)

-- ---- fewer rows

-- how many places are left where the rows behind the first so many are taken back
pub places_left : (t : AttributeTable) (seen : List StoredAttribute) (k taken : ℕ) → seen ≡ t.items.items → taken ≡ explicit_count (slice_range seen k (length seen))
    → (taken ≤ length t.explicit.items) × (length t.explicit.items - taken ≡ explicit_count (take k t.items.items))
places_left t seen k taken same is =
    let behind = is ∙ ap explicit_count (ap (λ xs. slice_range xs k (length xs)) same ∙ slice-rest t.items.items k) in
    let parts = count_parts k t.items.items in
    (omega (arith, behind, parts, t.counted), omega (arith, behind, parts, t.counted))

pub rows_kept : (t : AttributeTable) (xs : List StoredAttribute) (us : List AttributePlaces) (k n : ℕ) → xs ≡ take k t.items.items → us ≡ take n t.explicit.items → n ≡ explicit_count (take k t.items.items)
    → map (row_in us) xs ≡ take k (attribute_rows t)
rows_kept t xs us k n front places is = grind (arith, rows_cut, numbered_take, take-map)
