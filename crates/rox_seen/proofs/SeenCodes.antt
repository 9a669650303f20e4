-- Which codes of names were seen.
use Rattle.std.proofs.Common.{◌≡◌, ℕ, ◌+◌, ◌<◌, ◌≤◌, ◌∷◌, ◌++◌, [], List, Bool, true, false, length, length-append, map, set, get_or, drop, bytes_eq, ◌*◌, ◌/◌, ◌%◌, ◌^◌, eqb, refl, sym, ap, ◌∙◌, subst, inl, inr, arith}
use Rattle.std.specs.List.{AllByRecursion, list_any}
use Rattle.std.proofs.lemmas.Bool.{cases_eq, eqb-true, and_right}
use Rattle.std.specs.Int.{bit_at, w64}
use Rattle.std.specs.Int.Bits.{bit_and, bit_or}
use Rattle.std.proofs.lemmas.Nat.Bits.{shr_and_one, bit_at_set_same, bit_at_set_other}
use Rattle.std.proofs.lemmas.List.{get_or-set_same, get_or-set_other, drop-append-le, drop-map, drop_more}
use Rattle.std.proofs.Math.ListN.{drop_of_length-le}
use Rattle.std.proofs.lemmas.Slice.Eq.{bytes_eq-Decides}
use Rattle.rox_grammar.specs.Written.{NamespaceDecl}
use Rattle.rox_grammar.specs.Tree.{same_prefix}
use Rattle.rox_rows.specs.Rows.{AttributeRow, attribute_rows, attribute_uri}
use Rattle.rox_rows.specs.StoredAttributes.{data_of, row_in}
use Rattle.rox_seen.specs.SeenNames.{has_expanded, name_code, HasCode, HasNameOf, HaveCodes, AreSeen, KeepsCodes, SeesName}
use Rattle.rox_rows.specs.declared.row.AttributeNamespace.{AttributeNamespace}
use Rattle.rox_rows.specs.declared.attributes.AttributeTable.{AttributeTable}
use Rattle.rox_rows.specs.declared.stored_attribute.StoredAttribute.{StoredAttribute}
use Rattle.rox_seen.specs.declared.seen_names.SeenNames.{SeenNames}
use Rattle.rox_grammar.proofs.Lists.{all_append, all_weaker}

-- a code whose bit is clear is not there
pub not_there : (codes : List ℕ) (code : ℕ) → eqb (bit_and (get_or codes (code / 64) 0 / 2 ^ (code % 64)) 1) 1 ≡ false → HasCode codes code → ⊥
unfolding HasCode
not_there codes code clear has =
    cc (clear, ap (λ b. eqb b 1) (shr_and_one (get_or codes (code / 64) 0) (code % 64) ∙ has))

-- a code whose bit is set is there
pub is_there : (codes : List ℕ) (code : ℕ) → eqb (bit_and (get_or codes (code / 64) 0 / 2 ^ (code % 64)) 1) 1 ≡ true → HasCode codes code
unfolding HasCode
is_there codes code set = sym (shr_and_one (get_or codes (code / 64) 0) (code % 64)) ∙ eqb-true _ _ set

-- two changes of the codes alone
pub codes_alone : (a b c : SeenNames) → b ≡ record a { codes = b.codes } → c ≡ record b { codes = c.codes } → c ≡ record a { codes = c.codes }
codes_alone a b c first second = second ∙ ap (λ (s : SeenNames). record s { codes = c.codes }) first

module _ (codes : List ℕ) (code : ℕ) where
  abbrev word : ℕ
  word = get_or codes (code / 64) 0

  -- its bit is set
  abbrev pub more : List ℕ
  more = set codes (code / 64) (bit_or word (1 * 2 ^ (code % 64) % 2 ^ 64))

  -- a code that is put is there
  pub put_there : code / 64 < length codes → HasCode more code
  unfolding HasCode
  put_there within = ap (λ w. bit_at w (code % 64)) (get_or-set_same codes (code / 64) _ 0 within) ∙ bit_at_set_same w64 word (code % 64) (omega arith)

  -- the bit of another stays
  bit_stays : code / 64 < length codes → (other : ℕ) → (other ≡ code → ⊥) → bit_at (get_or more (other / 64) 0) (other % 64) ≡ bit_at (get_or codes (other / 64) 0) (other % 64)
  bit_stays within other apart = elim (cases_eq (other / 64) (code / 64)) [
    | inl same ↦ ap (λ n. bit_at (get_or more n 0) (other % 64)) same ∙ ap (λ w. bit_at w (other % 64)) (get_or-set_same codes (code / 64) _ 0 within) ∙ bit_at_set_other w64 word (code % 64) (omega arith) (other % 64) (λ bit. apart (omega (arith, same, bit))) ∙ ap (λ n. bit_at (get_or codes n 0) (other % 64)) (sym same)
    | inr differ ↦ ap (λ w. bit_at w (other % 64)) (get_or-set_other codes (code / 64) (other / 64) _ 0 differ)
  ]

  -- those that were there stay
  pub stays_there : code / 64 < length codes → (other : ℕ) → HasCode codes other → HasCode more other
  unfolding HasCode
  stays_there within other has = elim (cases_eq other code) [
    | inl same ↦ subst (HasCode more) (sym same) (put_there within)
    | inr apart ↦ bit_stays within other apart ∙ has
  ]

  -- and no others are there
  pub only_there : code / 64 < length codes → (other : ℕ) → HasCode more other → (other ≡ code → ⊥) → HasCode codes other
  unfolding HasCode
  only_there within other has apart = sym (bit_stays within other apart) ∙ has

-- ---- attributes whose names were seen

-- a name with another code is not that of one of them
other_code : (codes : List ℕ) (xs ys : List ℕ) → HasCode codes (name_code xs) → (HasCode codes (name_code ys) → ⊥) → (b : Bool) → bytes_eq xs ys ≡ b → b ≡ false
other_code codes xs ys has fresh false is = refl
other_code codes xs ys has fresh true is = absurd (fresh (subst (λ zs. HasCode codes (name_code zs)) ((bytes_eq-Decides xs ys).0 is) has))

-- so none has it
pub none_has : (namespaces : List NamespaceDecl) (s : AttributeNamespace) (local : List ℕ) (codes : List ℕ) (done : List StoredAttribute)
    → AllByRecursion (λ a. HasNameOf codes (data_of a)) done → (HasCode codes (name_code local) → ⊥)
    → list_any (λ a. has_expanded namespaces s local (data_of a)) done ≡ false
none_has namespaces s local codes [] h fresh = refl
none_has namespaces s local codes (a ∷ rest) h fresh =
    let other = and_right (same_prefix (attribute_uri namespaces (data_of a).namespace) (attribute_uri namespaces s)) _ (other_code codes a.local.now local h.0 fresh _ refl) in
    rw other (none_has namespaces s local codes rest h.1 fresh)

-- one more of them is in the table
pub seen_more : (old new : SeenNames) (rows more : List AttributeRow) (row : AttributeRow) → more ≡ rows ++ row ∷ [] → old.from ≤ length rows
    → SeesName old new row.0.local.now → HaveCodes old rows → HaveCodes new more
seen_more old new rows more row grown within sees seen =
    let P : AttributeRow → Type 0 = λ a. HasNameOf new.codes a.0 in
    let behind : drop new.from more ≡ drop old.from rows ++ row ∷ [] = ap (λ n. drop n more) sees.from ∙ ap (drop old.from) grown ∙ drop-append-le old.from rows (row ∷ []) within in
    let weaker : AllByRecursion P (drop old.from rows) = all_weaker (λ a. HasNameOf old.codes a.0) P (drop old.from rows) (λ a h. sees.kept (name_code a.0.local.now) h) seen in
    subst (AllByRecursion P) (sym behind) (all_append P (drop old.from rows) (row ∷ []) weaker (sees.put, tt))

-- so it was seen
pub are_more : (old new : SeenNames) (rows more : List AttributeRow) (row : AttributeRow) → more ≡ rows ++ row ∷ [] → old.from ≤ length rows
    → SeesName old new row.0.local.now → HaveCodes old rows → AreSeen new more
are_more old new rows more row grown within sees seen = record {
  from = omega (arith, sees.from, within, ap length grown, length-append rows (row ∷ []));
  codes = λ _. seen_more old new rows more row grown within sees seen;
}

-- where the codes and the tag stay
pub seen_kept : (seen after : SeenNames) (rows : List AttributeRow) → KeepsCodes seen after → AreSeen seen rows → AreSeen after rows
seen_kept seen after rows k h = record {
  from = omega (arith, k.from, h.from);
  codes = λ more.
      let held = h.codes (omega (arith, k.from, more)) in
      let coded = subst (λ (codes : List ℕ). AllByRecursion (λ (a : AttributeRow). HasNameOf codes a.0) (drop seen.from rows)) (sym k.codes) held in
      subst (λ (n : ℕ). AllByRecursion (λ (a : AttributeRow). HasNameOf after.codes a.0) (drop n rows)) (sym k.from) coded;
}

-- the last three of these
last_three : {X : Type 0} → (xs : List X) (i : ℕ) (x y z : X) → length xs ≡ i + 3 → x ≡ get_or xs i x → y ≡ get_or xs (i + 1) y → z ≡ get_or xs (i + 1 + 1) z
    → drop i xs ≡ x ∷ y ∷ z ∷ []
last_three xs i x y z count first second third =
    let rest = drop_more xs (i + 1 + 1) z (omega (arith, count)) ∙ ap (λ w. w ∷ drop (i + 1 + 1 + 1) xs) (sym third) ∙ ap (λ ws. z ∷ ws) (drop_of_length-le xs (omega (arith, count))) in
    let two = drop_more xs (i + 1) y (omega (arith, count)) ∙ ap (λ w. w ∷ drop (i + 1 + 1) xs) (sym second) ∙ ap (λ ws. y ∷ ws) rest in
    drop_more xs i x (omega (arith, count)) ∙ ap (λ w. w ∷ drop (i + 1) xs) (sym first) ∙ ap (λ ws. x ∷ ws) two

-- the last four
last_four : {X : Type 0} → (xs : List X) (i : ℕ) (x y z w : X) → length xs ≡ i + 4 → x ≡ get_or xs i x → y ≡ get_or xs (i + 1) y → z ≡ get_or xs (i + 2) z → w ≡ get_or xs (i + 3) w
    → drop i xs ≡ x ∷ y ∷ z ∷ w ∷ []
last_four xs i x y z w count first second third fourth =
    let two : i + 2 ≡ i + 1 + 1 = omega arith in
    let three : i + 3 ≡ i + 1 + 1 + 1 = omega arith in
    let rest = last_three xs (i + 1) y z w (omega (arith, count)) second (rw two at third) (rw three at fourth) in
    drop_more xs i x (omega (arith, count)) ∙ ap (λ v. v ∷ drop (i + 1) xs) (sym first) ∙ ap (λ vs. x ∷ vs) rest

-- four attributes of the tag have codes that were seen
pub four_seen : (seen : SeenNames) (t : AttributeTable) (x y z w : StoredAttribute) → length t.items.items ≡ seen.from + 4
    → x ≡ get_or t.items.items seen.from x → y ≡ get_or t.items.items (seen.from + 1) y → z ≡ get_or t.items.items (seen.from + 2) z → w ≡ get_or t.items.items (seen.from + 3) w
    → HasNameOf seen.codes (data_of x) → HasNameOf seen.codes (data_of y) → HasNameOf seen.codes (data_of z) → HasNameOf seen.codes (data_of w) → HaveCodes seen (attribute_rows t)
four_seen seen t x y z w count first second third fourth a b c d =
    let items = last_four t.items.items seen.from x y z w count first second third fourth in
    let row = row_in t.explicit.items in
    subst (AllByRecursion (λ (a : AttributeRow). HasNameOf seen.codes a.0)) (sym (drop-map row seen.from t.items.items ∙ ap (map row) items)) (a, (b, (c, (d, tt))))

-- no row has a name whose code was not seen
pub none_rows : (namespaces : List NamespaceDecl) (s : AttributeNamespace) (local : List ℕ) (codes : List ℕ) (rows : List AttributeRow)
    → AllByRecursion (λ (a : AttributeRow). HasNameOf codes a.0) rows → (HasCode codes (name_code local) → ⊥)
    → list_any (λ (r : AttributeRow). has_expanded namespaces s local r.0) rows ≡ false
none_rows namespaces s local codes [] h fresh = refl
none_rows namespaces s local codes (a ∷ rest) h fresh =
    let other = and_right (same_prefix (attribute_uri namespaces a.0.namespace) (attribute_uri namespaces s)) _ (other_code codes a.0.local.now local h.0 fresh _ refl) in
    rw other (none_rows namespaces s local codes rest h.1 fresh)

-- the same were seen
pub same_seen : (old new : SeenNames) (rows : List AttributeRow) → new.codes ≡ old.codes → new.from ≡ old.from → AreSeen old rows → AreSeen new rows
same_seen old new rows codes from seen = record {
  from = omega (arith, from, seen.from);
  codes = λ more.
      subst (λ (n : ℕ). AllByRecursion (λ (a : AttributeRow). HasNameOf new.codes a.0) (drop n rows)) (sym from)
      (subst (λ (cs : List ℕ). AllByRecursion (λ (a : AttributeRow). HasNameOf cs a.0) (drop old.from rows)) (sym codes) (seen.codes (omega (arith, more, from))));
}
