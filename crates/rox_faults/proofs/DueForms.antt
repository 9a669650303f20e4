-- What is required by its kind, as proofs speak of it: the kinds one by one.
use Rattle.std.proofs.Common.{◌≡◌, ◌≢◌, ℕ, ◌<◌, ◌⊎◌, true, false, List, length, refl, arith, ne_eqb}
use Rattle.rox_grammar.specs.declared.fault.Due.TheVariants as kinds
use Rattle.rox_grammar.specs.declared.fault.Fault.TheVariants as fault
use Rattle.rox_grammar.specs.Chars.{is_space}
use Rattle.rox_grammar.specs.Names.{byte}
use Rattle.rox_grammar.specs.Due.{DueItem, one_of, is_of, IsMissing, none_of}

abbrev pub a_space : DueItem
a_space = one_of kinds.Space

abbrev pub a_quote : DueItem
a_quote = one_of kinds.Quote

abbrev pub subset_or_end : DueItem
subset_or_end = one_of kinds.SubsetOrEnd

abbrev pub doctype_end : DueItem
doctype_end = one_of kinds.End

abbrev pub a_definition : DueItem
a_definition = one_of kinds.EntityDefinition

-- ---- a byte that is not of the kind

pub no_space : {src : List ℕ} {p : ℕ} → p < length src → is_space (byte src p) ≡ false → IsMissing src p a_space (fault.InvalidChar2 kinds.Space (byte src p) p)
no_space inside none = none_of kinds.Space inside none

pub no_quote : {src : List ℕ} {p : ℕ} → p < length src → byte src p ≢ 39 → byte src p ≢ 34 → IsMissing src p a_quote (fault.InvalidChar2 kinds.Quote (byte src p) p)
no_quote {src} {p} inside no_single no_double = none_of kinds.Quote inside (rw (ne_eqb (byte src p) 39 no_single, ne_eqb (byte src p) 34 no_double) refl)

pub no_subset_or_end : {src : List ℕ} {p : ℕ} → p < length src → byte src p ≢ 91 → byte src p ≢ 62 → IsMissing src p subset_or_end (fault.InvalidChar2 kinds.SubsetOrEnd (byte src p) p)
no_subset_or_end {src} {p} inside no_open no_close = none_of kinds.SubsetOrEnd inside (rw (ne_eqb (byte src p) 91 no_open, ne_eqb (byte src p) 62 no_close) refl)

pub no_end : {src : List ℕ} {p : ℕ} → p < length src → byte src p ≢ 62 → IsMissing src p doctype_end (fault.InvalidChar2 kinds.End (byte src p) p)
no_end {src} {p} inside no_close = none_of kinds.End inside (ne_eqb (byte src p) 62 no_close)

pub no_definition : {src : List ℕ} {p : ℕ} → p < length src → byte src p ≢ 34 → byte src p ≢ 39 → byte src p ≢ 83 → byte src p ≢ 80
    → IsMissing src p a_definition (fault.InvalidChar2 kinds.EntityDefinition (byte src p) p)
no_definition {src} {p} inside no_double no_single no_s no_p =
    none_of kinds.EntityDefinition inside (rw (ne_eqb (byte src p) 39 no_single, ne_eqb (byte src p) 34 no_double, ne_eqb (byte src p) 83 no_s, ne_eqb (byte src p) 80 no_p) refl)

-- ---- a byte that is of it

pub quote_is : (b : ℕ) → (b ≡ 39) ⊎ (b ≡ 34) → is_of kinds.Quote b ≡ true
quote_is b h = grind arith

pub quote_defines : (b : ℕ) → (b ≡ 39) ⊎ (b ≡ 34) → is_of kinds.EntityDefinition b ≡ true
quote_defines b h = grind arith

pub letter_defines : (b : ℕ) → (b ≡ 83) ⊎ (b ≡ 80) → is_of kinds.EntityDefinition b ≡ true
letter_defines b h = grind arith

pub subset_or_end_is : (b : ℕ) → (b ≡ 62) ⊎ (b ≡ 91) → is_of kinds.SubsetOrEnd b ≡ true
subset_or_end_is b h = grind arith

pub end_is : (b : ℕ) → b ≡ 62 → is_of kinds.End b ≡ true
end_is b is = rw is refl
