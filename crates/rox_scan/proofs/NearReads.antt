-- What a stretch of plain bytes is read as.
use Rattle.std.proofs.Common.{◌≡◌, ℕ, ◌<◌, ◌≤◌, ◌==◌, ◌||◌, true, false, List, Ok, length, get_or, slice_range, refl, arith, inl, inr, IsUtf8, IsCharBoundary}
use Rattle.std.proofs.lemmas.Bool.{cases_lt, eqb-true, le-ltb, lt-leb}
use Rattle.std.proofs.lemmas.Bool.Decides.{nat_tests}
use Rattle.std.proofs.lemmas.List.{get_or_past}
use Rattle.rox_grammar.specs.Search.{byte_from}
use Rattle.rox_reading.specs.Lexical.{chars_up_to}
use Rattle.rox_reading.specs.Markup.{raw_value_at}
use Rattle.rox_reading.specs.Values.{is_special}
use Rattle.rox_bytes.specs.ByteSets.{AllPass, is_value_byte, is_stretch_byte}
use Rattle.rox_bytes.proofs.NearLemmas.{near_chars, near_value, not_zero, value_is_plain}

pub stretch_plain : (b : ℕ) → is_stretch_byte b ≡ true → is_special b ≡ false
unfolding is_stretch_byte
stretch_plain b h = grind (arith, nat_tests)

pub stretch_special : (b : ℕ) → is_stretch_byte b ≡ false → is_special b ≡ true
unfolding is_stretch_byte
stretch_special b h = grind (arith, nat_tests)

-- a value up to its quote
pub short_chars : (src : List ℕ) (i e quote : ℕ) → IsUtf8 src → IsCharBoundary src i → (quote == 39 || quote == 34) ≡ true → i ≤ e → IsCharBoundary src e → AllPass is_value_byte src i e → (get_or src e 0 == quote) ≡ true → chars_up_to (byte_from (λ c. c == quote || c == 60) src i) src i ≡ Ok (slice_range src i e, e)
unfolding chars_up_to
short_chars src i e quote utf8 start q le cut all here =
    let at : get_or src e 0 ≡ quote = eqb-true _ _ here in
    let within : e < length src = elim (cases_lt e (length src)) [ inl more ↦ more | inr past ↦ absurd (omega (arith, get_or_past src e 0 past, not_zero quote q)) ] in
    rw (near_value src i e quote q le within at all, near_chars is_value_byte src i e utf8 start le cut all value_is_plain, le-ltb e e (omega arith)) refl

-- the same of an attribute
pub short_value : (src : List ℕ) (i e quote : ℕ) → IsUtf8 src → IsCharBoundary src i → (quote == 39 || quote == 34) ≡ true → i ≤ e → IsCharBoundary src e → AllPass is_value_byte src i e → (get_or src e 0 == quote) ≡ true → raw_value_at quote src i ≡ Ok (slice_range src i e, e)
unfolding raw_value_at chars_up_to
short_value src i e quote utf8 start q le cut all here =
    let at : get_or src e 0 ≡ quote = eqb-true _ _ here in
    let within : e < length src = elim (cases_lt e (length src)) [ inl more ↦ more | inr past ↦ absurd (omega (arith, get_or_past src e 0 past, not_zero quote q)) ] in
    rw (near_value src i e quote q le within at all, lt-leb (length src) e within, near_chars is_value_byte src i e utf8 start le cut all value_is_plain, le-ltb e e (omega arith)) refl
