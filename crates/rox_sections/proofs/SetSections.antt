-- CDATA sections whose text is of the bytes of a set.
use Rattle.std.proofs.Common.{◌≡◌, ◌+◌, ◌-◌, ◌<◌, ◌≤◌, ◌==◌, ◌∷◌, ℕ, true, false, List, Ok, length, drop, get_or, slice_range, refl, sym, ap, ◌∙◌, arith, inl, inr, length-drop, get_or-drop, IsUtf8, IsCharBoundary}
use Rattle.std.proofs.lemmas.Bool.{cases_lt, le-ltb}
use Rattle.std.proofs.lemmas.Bool.Decides.{nat_tests}
use Rattle.std.proofs.lemmas.List.{drop_more, drop-drop, get_or_past, get_or-take}
use Rattle.std.proofs.lemmas.List.Sums.{position_or_len_is}
use Rattle.std.proofs.lemmas.Str.{IsCharBoundary-before_ascii}
use Rattle.rox_grammar.specs.FixedTexts.{word_text}
use Rattle.rox_grammar.specs.Search.{mark_from, stands}
use Rattle.rox_grammar.specs.declared.fault.Word.TheVariants as word
use Rattle.rox_reading.specs.Lexical.{chars_up_to, text_to, string_at}
use Rattle.rox_reading.specs.Markup.{cdata_at}
use Rattle.rox_grammar.proofs.Stretches.{range_length}
use Rattle.rox_values.specs.Values.{section_text}
use Rattle.rox_values.proofs.SectionLemmas.{section_plain}
use Rattle.rox_bytes.specs.ByteSets.{AllPass, is_char_byte}
use Rattle.rox_bytes.proofs.MarkLemmas.{before_mark_is, not_from_first, stands_from_split, stands_reads}
use Rattle.rox_bytes.proofs.NearLemmas.{near_chars}
use Rattle.rox_sections.specs.Sections.{is_section_byte}

section_is_plain : (b : ℕ) → is_section_byte b ≡ true → is_char_byte b ≡ true
unfolding is_section_byte
section_is_plain b h = grind (arith, nat_tests)

section_no_bracket : (b : ℕ) → is_section_byte b ≡ true → b ≡ 93 → ⊥
unfolding is_section_byte
section_no_bracket b h is = grind (arith, nat_tests)

section_no_return : (b : ℕ) → is_section_byte b ≡ true → (b == 13) ≡ false
unfolding is_section_byte
section_no_return b h = grind (arith, nat_tests)

-- a byte that is not 0 is within the text
within_text : (src : List ℕ) (k b : ℕ) → 0 < b → get_or src k 0 ≡ b → k < length src
within_text src k b some here = elim (cases_lt k (length src)) [ inl more ↦ more | inr past ↦ absurd (omega (arith, some, here, get_or_past src k 0 past)) ]

-- the bytes of `]]>`
pub end_stands : (src : List ℕ) (e : ℕ) → get_or src e 0 ≡ 93 → get_or src (e + 1) 0 ≡ 93 → get_or src (e + 2) 0 ≡ 62 → stands (word_text word.CDataEnd) src e ≡ true
end_stands src e first second third =
    let two : e + 1 + 1 ≡ e + 2 = omega arith in
    let three : drop (e + 2) src ≡ 62 ∷ drop (e + 2 + 1) src = rw third at (drop_more src (e + 2) 0 (within_text src (e + 2) 62 (omega arith) third)) in
    let rest : drop (e + 1) src ≡ 93 ∷ 62 ∷ drop (e + 2 + 1) src = rw (second, two, three) at (drop_more src (e + 1) 0 (within_text src (e + 1) 93 (omega arith) second)) in
    let all : drop e src ≡ 93 ∷ 93 ∷ 62 ∷ drop (e + 2 + 1) src = rw (first, rest) at (drop_more src e 0 (within_text src e 93 (omega arith) first)) in
    stands_from_split (word_text word.CDataEnd) src (drop (e + 2 + 1) src) e all

-- the first `]]>`
first_end : (src : List ℕ) (s e : ℕ) → s ≤ e → e ≤ length src → AllPass is_section_byte src s e → stands (word_text word.CDataEnd) src e ≡ true → mark_from (word_text word.CDataEnd) src s ≡ e
unfolding mark_from stands
first_end src s e le within all here =
    let at : s + (e - s) ≡ e = omega arith in
    let found = before_mark_is (word_text word.CDataEnd) (drop s src) (e - s) (omega (arith, (length-drop s src)))
    (λ j below. not_from_first (word_text word.CDataEnd) (drop s src) j (omega arith) (λ is. section_no_bracket _ (all (s + j) (omega arith) (omega arith)) (sym (get_or-drop s src j 0) ∙ is)))
    (λ more. rw (drop-drop (e - s) s src, at) here) in
    omega (arith, found)

-- what is read
pub set_read : (src : List ℕ) (i s e : ℕ) → IsUtf8 src → IsCharBoundary src s → s ≡ i + 9 → s ≤ e → IsCharBoundary src e → AllPass is_section_byte src s e → stands (word_text word.CDataEnd) src e ≡ true → cdata_at src i ≡ Ok (slice_range src s e, e + 3)
unfolding cdata_at text_to chars_up_to string_at
set_read src i s e utf8 start is le cut all here =
    let chars = near_chars is_section_byte src s e utf8 start le cut all section_is_plain in
    rw (← is, (first_end src s e le cut.0 all here), chars, le-ltb e e (omega arith), here) refl

-- it has no CR
pub set_verbatim : (src : List ℕ) (s e : ℕ) → s ≤ e → e ≤ length src → AllPass is_section_byte src s e → section_text (slice_range src s e) ≡ record { value = slice_range src s e; borrowed = true }
set_verbatim src s e le within all =
    let long = range_length src s e le within in
    section_plain (slice_range src s e) (position_or_len_is (λ c. c == 13) (slice_range src s e) (length (slice_range src s e)) 0 (omega arith)
    (λ k below. let read : get_or (slice_range src s e) k 0 ≡ get_or src (s + k) 0 = get_or-take (e - s) (drop s src) k 0 (omega (arith, long)) ∙ get_or-drop s src k 0 in rw read (section_no_return _ (all (s + k) (omega arith) (omega (arith, long)))))
    (λ more. absurd (omega arith)))

-- its text ends between two characters
pub end_cut : (src : List ℕ) (e : ℕ) → stands (word_text word.CDataEnd) src e ≡ true → IsCharBoundary src e
end_cut src e here =
    let read : get_or src e 0 ≡ 93 = ap (λ (k : ℕ). get_or src k 0) (omega arith) ∙ stands_reads (word_text word.CDataEnd) src e 0 here (omega arith) in
    IsCharBoundary-before_ascii src e (within_text src e 93 (omega arith) read) (omega (arith, read))
