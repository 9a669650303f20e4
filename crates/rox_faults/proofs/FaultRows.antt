-- Each construct that fails: what is required in it, and is not there.
use Rattle.std.proofs.Common.{◌≡◌, ℕ, zero, suc, ◌+◌, ◌-◌, ◌^◌, ◌<◌, ◌≤◌, ◌⊎◌, ◌==◌, ◌||◌, Bool, true, false, eqb, leb, List, [], ◌∷◌, ◌++◌, length, get_or, refl, sym, ap, ◌∙◌, subst, arith, inl, inr, IsUtf8, IsCharBoundary}
use Rattle.std.specs.Prelude.{Err, Option, Some, None, bytes_eq}
use Rattle.std.proofs.lemmas.Grind.{common_steps}
use Rattle.rox_grammar.specs.declared.fault.Fault.{Fault}
use Rattle.rox_grammar.specs.declared.fault.Span.{Span}
use Rattle.rox_grammar.specs.declared.fault.Word.{Word}
use Rattle.rox_grammar.specs.declared.fault.Expected.{Expected}
use Rattle.rox_grammar.specs.declared.fault.Word.TheVariants as word
use Rattle.rox_grammar.specs.declared.fault.Expected.TheVariants as expected
use Rattle.rox_grammar.specs.declared.fault.Fault.TheVariants as fault
use Rattle.rox_grammar.specs.FixedTexts.{word_text, at, double_dash}
use Rattle.rox_grammar.specs.ExpectedTexts.{expected_text}
use Rattle.rox_grammar.specs.Chars.{is_space, is_char, is_part_char, is_name_start, is_name_char}
use Rattle.rox_grammar.specs.Runs.{run_end, begins}
use Rattle.rox_grammar.specs.Search.{mark_from, byte_from, has_mark}
use Rattle.rox_grammar.specs.Written.{Name}
use Rattle.rox_grammar.specs.NameParts.{local_span}
use Rattle.rox_grammar.specs.Names.{byte, slice, spaces_end, IsName, IsQName, unprefixed, prefixed, colon_first}
use Rattle.rox_grammar.specs.Constructs.{AreChars}
use Rattle.rox_grammar.specs.References.{is_digit, is_hex_digit, number, bytes_end, character, entity_reference}
use Rattle.rox_grammar.specs.Entities.{Replacement, Entity, text_of}
use Rattle.rox_grammar.specs.Due.{a_byte, a_text, a_qname, a_name, chars_to, IsMissing, Misses, no_name, DueInText, DueInPI, DueInEnd}
use Rattle.rox_grammar.specs.Due as due
use Rattle.rox_grammar.specs.Faults.{SpanIs, spelled, InMisc, comment_lacks, double_dashes, a_declaration, instruction_lacks, InReferences, malformed, undeclared}
use Rattle.rox_reading.specs.Lexical.{byte_at, text_to, qname_at, name_at}
use Rattle.rox_reading.specs.Markup.{comment_at, instruction_at, cdata_at, end_tag_at}
use Rattle.rox_reading.specs.Values.{Reference, number_at, name_reference_at, reference_at, entity_bit, reference_bit, expansion_at}
use Rattle.rox_grammar.proofs.AtPlace.{mark_from_cut}
use Rattle.rox_theory.proofs.Productions.{ncname_parts}
use Rattle.rox_theory.proofs.FirstMarks.{dashes_before}
use Rattle.rox_theory.proofs.Basics.{run_end_le, chosen, mark_from_le, chars_sound, text_sound, within}
use Rattle.rox_theory.proofs.NameLemmas.{slice_nil, qname_sound, name_sound}
use Rattle.rox_faults.proofs.NameSpans.{run_cut, cut_behind, qname_text}
use Rattle.rox_theory.proofs.DeclarationLemmas.{stands_reads}
use Rattle.rox_theory.proofs.LiteralLemmas.{from_bound, from_here}
use Rattle.rox_theory.proofs.ReferenceLemmas.{IsRead, is_character, is_entity, reference_sound, character_complete, name_complete}
use Rattle.rox_theory.proofs.CharLemmas.{part_some}
use Rattle.rox_theory.proofs.StretchLemmas.{slice_cons}
use Rattle.rox_reading.specs.Machine.{name_span}
use Rattle.rox_grammar.proofs.Stretches.{range_length}
use Rattle.rox_theory.proofs.FailedReadings.{bind_err, no_fault, chars_fails, byte_fails, string_fails, qname_fails}

-- The first place from `i` on where the fixed text is, or the end.
abbrev first : Word → List ℕ → ℕ → ℕ
first w src i = mark_from (word_text w) src i

-- ---- where a character begins

-- The text up to a mark, and the mark.
text_fails : (w : Expected) (b : ℕ) (rest src : List ℕ) (i : ℕ) (f : Fault) → expected_text w ≡ b ∷ rest → b < 128 → IsUtf8 src → IsCharBoundary src i → text_to w src i ≡ Err f
    → IsMissing src i (chars_to (mark_from (expected_text w) src i)) f ⊎ (AreChars src i (mark_from (expected_text w) src i) × IsMissing src (mark_from (expected_text w) src i) (a_text w) f)
unfolding text_to
text_fails w b rest src i f is ascii utf8 cut h = grind (arith, mark_from_le, chars_fails, mark_from_cut, chars_sound, string_fails)

-- A character begins after a fixed text whose last byte is ASCII.
pub behind : (w : Word) (src : List ℕ) (i k b : ℕ) → IsUtf8 src → at w src i ≡ true → k < length (word_text w) → get_or (word_text w) k 0 ≡ b → 0 < b → b < 128 → IsCharBoundary src (i + k + 1)
behind w src i k b utf8 h short is some ascii = cut_behind src (i + k) b utf8 (stands_reads (word_text w) src i k h short ∙ is) some ascii

-- A character begins where a run stops.
pub run_stops_cut : (src : List ℕ) (i : ℕ) → i < length src → IsCharBoundary src (byte_from (λ c. c == 60) src i)
run_stops_cut src i within = grind (arith, from_bound, from_here)

module _ (src : List ℕ) (utf8 : IsUtf8 src) where
  -- A comment.
  pub comment_fails : (i : ℕ) (f : Fault) → at word.CommentStart src i ≡ true → comment_at src i ≡ Err f → InMisc src i f
  unfolding comment_at
  comment_fails i f opens h =
      let three : i + 3 + 1 ≡ i + 4 = omega arith in
      let cut = subst (IsCharBoundary src) three (behind word.CommentStart src i 3 45 utf8 opens (omega arith) refl (omega arith) (omega arith)) in
      bind_err (text_to expected.CommentEnd src (i + 4)) _ f h
      (λ bad. elim (text_fails expected.CommentEnd 45 (45 ∷ 62 ∷ []) src (i + 4) f refl (omega arith) utf8 cut bad) as (λ s. InMisc src i f) [
        | inl ill ↦ comment_lacks f opens (i + 4, chars_to (first word.CommentEnd src (i + 4)), due.DueInText.its_chars, ill)
        | inr none ↦ comment_lacks f opens (first word.CommentEnd src (i + 4), a_text expected.CommentEnd, due.DueInText.its_end none.0, none.1)
      ])
      (λ text read h.
      let s = text_sound expected.CommentEnd src (i + 4) text utf8 read in
      let e = first word.CommentEnd src (i + 4) in
      chosen (has_mark double_dash text.0 || byte text.0 (length text.0 - 1) == 45) _ _ _ h
      (λ ill h.
      let is : fault.InvalidComment i ≡ f = cc in
      subst (InMisc src i) is (double_dashes e opens (refl, s.0, s.1) (dashes_before src (i + 4) e s.1 (rw s.2 at ill))))
      (λ fine h. no_fault _ f h))

  -- A processing instruction.
  pub instruction_fails : (i : ℕ) (f : Fault) → at word.PIStart src i ≡ true → instruction_at src i ≡ Err f → InMisc src i f
  unfolding instruction_at name_at
  instruction_fails i f opens h =
      chosen (at word.XmlDeclStart src i) _ _ _ h
      (λ declares h. let is : fault.UnexpectedDeclaration i ≡ f = cc in subst (InMisc src i) is (a_declaration declares))
      (λ none h. bind_err (name_at src (i + 2)) _ f h
      (λ bad. instruction_lacks f opens none (i + 2, a_name, due.DueInPI.its_target, name_fails (i + 2) f bad))
      (λ name read h.
      let target = (name_sound src (i + 2) name read).0 in
      let v = spaces_end src name.1 in
      bind_err (text_to expected.PIEnd src v) _ f h
      (λ bad. elim (text_fails expected.PIEnd 63 (62 ∷ []) src v f refl (omega arith) utf8 (value_cut i name.1 opens target) bad) as (λ s. InMisc src i f) [
        | inl ill ↦ instruction_lacks f opens none (v, chars_to (first word.PIEnd src v), due.DueInPI.its_value name.1 _ _ target due.DueInText.its_chars, ill)
        | inr lacks ↦ instruction_lacks f opens none (first word.PIEnd src v, a_text expected.PIEnd, due.DueInPI.its_value name.1 _ _ target (due.DueInText.its_end lacks.0), lacks.1)
      ])
      (λ value read h. no_fault _ f h)))
    where
      -- A name that is required.
      name_fails : (i : ℕ) (f : Fault) → name_at src i ≡ Err f → IsMissing src i a_name f
      name_fails i f h =
          chosen (begins is_name_start src i) _ _ _ h (λ fine h. cc)
          (λ fails h. let is : fault.InvalidName i ≡ f = cc in subst (IsMissing src i a_name) is (no_name (λ j name. let s = name.starts in cc (sym fails ∙ s))))

      -- A character begins after the white space after the target.
      value_cut : (i n : ℕ) → at word.PIStart src i ≡ true → IsName src (i + 2) n → IsCharBoundary src (spaces_end src n)
      value_cut i n opens target =
          let cut = subst (IsCharBoundary src) (omega arith) (behind word.PIStart src i 1 63 utf8 opens (omega arith) refl (omega arith) (omega arith)) in
          run_cut is_space src n utf8 (subst (IsCharBoundary src) (sym target.longest) (run_cut is_name_char src (i + 2) utf8 cut))

  -- A CDATA section.
  pub section_fails : (i : ℕ) (f : Fault) → at word.CDataStart src i ≡ true → cdata_at src i ≡ Err f → Misses src (DueInText expected.CDataEnd src (i + 9)) f
  unfolding cdata_at
  section_fails i f opens h =
      let eight : i + 8 + 1 ≡ i + 9 = omega arith in
      let cut = subst (IsCharBoundary src) eight (behind word.CDataStart src i 8 91 utf8 opens (omega arith) refl (omega arith) (omega arith)) in
      elim (text_fails expected.CDataEnd 93 (93 ∷ 62 ∷ []) src (i + 9) f refl (omega arith) utf8 cut h) as (λ s. Misses src (DueInText expected.CDataEnd src (i + 9)) f) [
        | inl ill ↦ (i + 9, chars_to (first word.CDataEnd src (i + 9)), due.DueInText.its_chars, ill)
        | inr none ↦ (first word.CDataEnd src (i + 9), a_text expected.CDataEnd, due.DueInText.its_end none.0, none.1)
      ]

  -- An end tag.
  pub end_fails : (i : ℕ) (f : Fault) → at word.EndTagStart src i ≡ true → end_tag_at src i ≡ Err f → Misses src (DueInEnd src i) f
  unfolding end_tag_at
  end_fails i f opens h =
      bind_err (qname_at src (i + 2)) _ f h
      (λ bad. (i + 2, a_qname, due.DueInEnd.its_name opens, qname_fails src (i + 2) f bad))
      (λ name read h. bind_err (byte_at 62 src (spaces_end src name.1)) _ f h
      (λ bad. (spaces_end src name.1, a_byte 62, due.DueInEnd.its_end name.0 name.1 opens (qname_sound src (i + 2) name read), byte_fails 62 src (spaces_end src name.1) f bad))
      (λ x read h. no_fault _ f h))

  -- ---- references

  -- The one fault of a reference.
  reference_fault : (p : ℕ) (f : Fault) → reference_at src p ≡ Err f → fault.MalformedEntityReference p ≡ f
  unfolding reference_at number_at name_reference_at
  reference_fault p f h =
      chosen (eqb (byte src (p + 1)) 35) _ _ _ h
      (λ hash h. chosen (eqb (byte src (p + 2)) 120) _ _ _ h (λ hex h. of_number 16 is_hex_digit (p + 3) h) (λ dec h. of_number 10 is_digit (p + 2) h))
      (λ none h. chosen (begins is_name_start src (p + 1)) _ _ _ h
      (λ starts h. chosen (eqb (byte src (run_end is_name_char src (p + 1))) 59) _ _ _ h (λ closes h. cc) (λ open' h. cc))
      (λ fails h. cc))
    where
      -- Of a number.
      of_number : (base : ℕ) (is : ℕ → Bool) (d : ℕ) → number_at base is src p d ≡ Err f → fault.MalformedEntityReference p ≡ f
      of_number base is d h =
          let e = bytes_end is src d in
          let n = number base (slice src d e) in
          chosen (e == d) _ _ _ h (λ x h. cc)
          (λ x h. chosen (leb (2 ^ 32) n) _ _ _ h (λ y h. cc)
          (λ y h. chosen (is_char (character n)) _ _ _ h (λ z h. chosen (eqb (byte src e) 59) _ _ _ h (λ w h. cc) (λ w h. cc)) (λ z h. cc)))

  -- A reference that is none: row 10.
  pub reference_fails : (es : List Entity) (p : ℕ) (f : Fault) → byte src p ≡ 38 → reference_at src p ≡ Err f → InReferences es src p f
  reference_fails es p f amp h =
      subst (InReferences es src p) (reference_fault p f h)
      (malformed amp (λ c j is. no_fault _ f (sym (character_complete src p c j is) ∙ h)) (λ n j is. no_fault _ f (sym (name_complete src p n j is) ∙ h)))

  -- One to a name that is not declared: row 9.
  pub unknown_fails : (es : List Entity) (p j : ℕ) (r : Reference) (f : Fault) → IsRead src p r j → reference_bit es src p r ≡ Err f → InReferences es src p f
  unknown_fails es p j r f (is_character c _ stands') h = no_fault _ f h
  unknown_fails es p j r f (is_entity n _ stands' none) h =
      let span : Span = record { start = p + 1; end = n } in
      let w = found_fails (text_of es (slice src (p + 1) n)) p span f h in
      subst (InReferences es src p) w.1 (undeclared j (slice src (p + 1) n) span (entity_reference n stands' none) w.0 refl)
    where
      -- Nothing is declared by that name.
      found_fails : (t : Option Replacement) (i : ℕ) (span : Span) (f : Fault) → entity_bit t i span ≡ Err f → (t ≡ None) × (fault.UnknownEntityReference span i ≡ f)
      found_fails None i span f h = (refl, cc h)
      found_fails (Some t) i span f h = no_fault _ f h

  -- Either of them, in a run.
  pub expansion_fails : (es : List Entity) (p : ℕ) (f : Fault) → byte src p ≡ 38 → expansion_at es src p ≡ Err f → InReferences es src p f
  unfolding expansion_at
  expansion_fails es p f amp h =
      bind_err (reference_at src p) _ f h (λ bad. reference_fails es p f amp bad)
      (λ r read h. bind_err (reference_bit es src p r.0) _ f h (λ bad. unknown_fails es p r.1 r.0 f (reference_sound src p r amp read) bad) (λ bit ok h. no_fault _ f h))

-- ---- names as they are written

-- A slice in two parts.
pub slice_split : (src : List ℕ) (d i k j : ℕ) → i + d ≡ k → k ≤ j → j ≤ length src → slice src i j ≡ slice src i k ++ slice src k j
slice_split src zero i k j to le inside = let e : i ≡ k = omega arith in rw (e, slice_nil src k) refl
slice_split src (suc d) i k j to le inside = grind (arith, slice_split src d (i + 1) k j (omega arith) le inside, slice_cons)

-- The span of a local part holds it.
pub local_holds : (src : List ℕ) (name : Name) (k n : ℕ) → name.local ≡ slice src k n → k ≤ n → n ≤ length src → SpanIs src (local_span name n) name.local
local_holds src name k n is le inside = grind (arith, range_length)

-- A name ends in the source.
pub qname_inside : (src : List ℕ) (i n : ℕ) (name : Name) → IsUtf8 src → IsCharBoundary src i → IsQName src i name n → n ≤ length src
qname_inside src i n name utf8 cut is = (qname_text src i name n utf8 cut is).3.0

-- The span of a name holds it as it is written.
pub spells : (src : List ℕ) (i n : ℕ) (name : Name) → IsUtf8 src → IsCharBoundary src i → IsQName src i name n → SpanIs src (name_span name i n) (spelled name)
spells src i n name utf8 cut (unprefixed _ _ is last) = grind (arith, common_steps, qname_inside src i n _ utf8 cut (unprefixed i n is last))
spells src i n name utf8 cut (colon_first _ _ colon is last) =
    let inside = qname_inside src i n _ utf8 cut (colon_first i n colon is last) in
    let le = run_end_le is_part_char src (i + 1) in let l = (ncname_parts is).longest in
    local_holds src (record { prefix = []; local = slice src (i + 1) n }) (i + 1) n refl (omega arith) inside
spells src i n name utf8 cut (prefixed _ k _ front colon is last) =
    let inside = qname_inside src i n _ utf8 cut (prefixed i k n front colon is last) in
    let some : i < k = rw (ncname_parts front).longest (part_some src i utf8 cut (ncname_parts front).starts (ncname_parts front).no_colon) in
    let le = run_end_le is_part_char src (k + 1) in let l = (ncname_parts is).longest in
    let whole : slice src i n ≡ slice src i k ++ (58 ∷ slice src (k + 1) n) =
    slice_split src (k - i) i k n (omega arith) (omega arith) inside
    ∙ ap (λ (r : List ℕ). slice src i k ++ r) (slice_cons src k n (omega arith) inside ∙ ap (λ (b : ℕ). b ∷ slice src (k + 1) n) colon) in
    let some_prefix : bytes_eq (slice src i k) [] ≡ false = rw (slice_cons src i k some (omega arith)) refl in
    let e : name_span (record { prefix = slice src i k; local = slice src (k + 1) n }) i n ≡ record { start = i; end = n } = rw some_prefix refl in
    let f : spelled (record { prefix = slice src i k; local = slice src (k + 1) n }) ≡ slice src i k ++ 58 ∷ slice src (k + 1) n = rw some_prefix refl in
    ap (λ (s : Span). slice src s.start s.end) e ∙ whole ∙ sym f
