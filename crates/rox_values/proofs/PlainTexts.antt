-- A replacement text that gives itself in a value.
use Rattle.std.proofs.Common.{◌≡◌, ◌-◌, ℕ, true, false, List, [], ◌++◌, Ok, length, drop, slice_index, slice_range, sym, refl, ◌∙◌, inl, inr, arith, append-nil, le-ltb, IsCharBoundary, IsUtf8}
use Rattle.std.proofs.lemmas.Bool.{cases_lt}
use Rattle.std.proofs.lemmas.Bool.Decides.{nat_tests}
use Rattle.std.proofs.lemmas.List.{get_or_past, length-drop, take_all}
use Rattle.rox_grammar.specs.Entities.{Entity}
use Rattle.rox_grammar.specs.Search.{byte_from}
use Rattle.rox_reading.specs.Lexical.{chars_up_to}
use Rattle.rox_reading.specs.Values.{ValueInclusion, bytes_of, is_special, stretch_at, value_text}
use Rattle.rox_bytes.specs.ByteSets.{AllPass, is_any_value_byte, is_quoted_byte, is_value_byte}
use Rattle.rox_bytes.proofs.NearLemmas.{near_chars, near_found, quoted_is_plain}
use Rattle.rox_values.specs.Values.{ends_stretch, text_behind}
use Rattle.rox_values.proofs.BitLemmas.{stretch_is}
use Rattle.rox_values.proofs.PartLemmas.{value_done, value_more}

quoted_apart : (b : ℕ) → is_quoted_byte b ≡ true → ends_stretch b ≡ false
unfolding is_quoted_byte is_any_value_byte is_value_byte
quoted_apart b h = grind (arith, nat_tests)

apart_special : (b : ℕ) → ends_stretch b ≡ false → is_special b ≡ false
apart_special b h = grind (arith, nat_tests)

-- it is one stretch
whole_stretch : (src : List ℕ) (i : ℕ) → IsUtf8 src → IsCharBoundary src i → AllPass is_quoted_byte src i (length src) → stretch_at false src (length src) i ≡ Ok (bytes_of (slice_range src i (length src)), length src)
unfolding chars_up_to
whole_stretch src i utf8 cut all =
    let n = length src in
    let found : byte_from ends_stretch src i ≡ n = near_found is_quoted_byte ends_stretch src i n cut.0 (omega arith) all quoted_apart (λ more. absurd (omega (arith, more))) in
    let end : IsCharBoundary src n = (omega arith, λ more. absurd (omega (arith, more))) in
    let past : slice_index src n ≡ 0 = get_or_past src n 0 (omega arith) in
    rw ((take_all n src (omega arith)), found, near_chars is_quoted_byte src i n utf8 cut cut.0 end all quoted_is_plain, le-ltb n n (omega arith), past) refl

pub to_end : (src : List ℕ) (i : ℕ) → drop i src ≡ slice_range src i (length src)
to_end src i = sym (take_all (length src - i) (drop i src) (omega (arith, length-drop i src)))

-- its value
pub plain_reads : (src : List ℕ) (i r : ℕ) (es : List Entity) (opener : ValueInclusion) (front : List ℕ) → IsUtf8 src → IsCharBoundary src i → AllPass is_quoted_byte src i (length src)
    → text_behind front (value_text false es opener (length src) src (length src) i r) ≡ Ok (front ++ slice_range src i (length src), r)
plain_reads src i r es opener front utf8 cut all = elim (cases_lt i (length src)) [
  | inl more ↦
      let n = length src in
      let plain : is_special (slice_index src i) ≡ false = apart_special (slice_index src i) (quoted_apart (slice_index src i) (all i (omega arith) more)) in
      let one = stretch_is false es src n i plain ∙ whole_stretch src i utf8 cut all in
      let new = front ++ slice_range src i n in
      sym (value_more false es opener r front new n (n - 1) src n i n (omega arith) more (rw one refl)) ∙ value_done false es opener r new (n - 1) src n n (omega arith)
  | inr past ↦ grind (arith, value_done, append-nil)
]
  where
    nothing : (src : List ℕ) (n : ℕ) → slice_range src n n ≡ []
    nothing src n = let e : n - n ≡ 0 = omega arith in rw e refl
