-- Where a construct is, nothing that is required in it lacks: so no fault of it is there.
use Rattle.std.proofs.Common.{◌≡◌, ℕ, ◌+◌, ◌<◌, ◌⊎◌, true, List, take, refl, sym, ◌∙◌, subst, arith, IsUtf8, IsCharBoundary, true≢false}
use Rattle.rox_grammar.specs.declared.fault.Fault.{Fault}
use Rattle.rox_grammar.specs.declared.fault.Expected.{Expected}
use Rattle.rox_grammar.specs.declared.fault.Word.TheVariants as word
use Rattle.rox_grammar.specs.declared.fault.Expected.TheVariants as expected
use Rattle.rox_grammar.specs.FixedTexts.{word_text, at}
use Rattle.rox_grammar.specs.ExpectedTexts.{expected_text}
use Rattle.rox_grammar.specs.Search.{stands, mark_from}
use Rattle.rox_grammar.specs.Chars.{is_char, is_space, is_name_char}
use Rattle.rox_grammar.specs.Written.{Name, Item}
use Rattle.rox_grammar.specs.Names.{byte, spaces_end, IsName, IsQName}
use Rattle.rox_grammar.specs.Constructs.{AreChars, IsComment, IsPI}
use Rattle.rox_grammar.specs.Content.{IsMisc}
use Rattle.rox_grammar.specs.Due.{DueItem, a_name, a_qname, a_byte, a_text, chars_to, IsMissing, no_name, no_qname, other_text, no_char, none_left, DueInText, DueInPI, none_of}
use Rattle.rox_faults.proofs.DueForms.{a_space}
use Rattle.rox_grammar.specs.Due as due
use Rattle.rox_grammar.specs.Faults.{InMisc}
use Rattle.rox_grammar.proofs.AtPlace.{mark_from_cut, run_at_end, space_ascii}
use Rattle.rox_theory.proofs.Productions.{comment_parts, pi_parts}
use Rattle.rox_theory.proofs.FirstMarks.{comment_ends}
use Rattle.rox_theory.proofs.Basics.{within, run_end_le}
use Rattle.rox_theory.proofs.CharLemmas.{begins_byte, some_run}
use Rattle.rox_faults.proofs.NameSpans.{run_cut}
use Rattle.rox_theory.proofs.DeclarationLemmas.{stands_reads, stands_fits}
use Rattle.rox_theory.proofs.Places.{stands_two}
use Rattle.rox_theory.proofs.Constructions.{comment_bytes, instruction_bytes}
use Rattle.rox_theory.proofs.FailedReadings.{chars_refuse}
use Rattle.rox_faults.proofs.FaultRows.{behind}

-- The declaration begins as a processing instruction does.
pub declaration_bytes : (src : List ℕ) (i : ℕ) → at word.XmlDeclStart src i ≡ true → at word.PIStart src i ≡ true
declaration_bytes src i h =
    let fits = stands_fits (word_text word.XmlDeclStart) src i (omega arith) h in
    let one : byte src i ≡ 60 = subst (λ (k : ℕ). byte src k ≡ 60) (omega arith) (stands_reads (word_text word.XmlDeclStart) src i 0 h (omega arith)) in
    stands_two 60 63 src i (omega arith) one (stands_reads (word_text word.XmlDeclStart) src i 1 h (omega arith))

-- No comment is where an instruction does.
pub not_both : (src : List ℕ) (i : ℕ) → at word.CommentStart src i ≡ true → at word.PIStart src i ≡ true → ⊥
not_both src i c p = let a = comment_bytes src i c in let b = instruction_bytes src i p in absurd (omega arith)

-- A name that is required and is there.
pub name_stands : (src : List ℕ) (q n : ℕ) (f : Fault) → IsName src q n → IsMissing src q a_name f → ⊥
name_stands src q n f is (no_name none) = none n is

-- A qualified name.
pub qname_stands : (src : List ℕ) (q n : ℕ) (name : Name) (f : Fault) → IsQName src q name n → IsMissing src q a_qname f → ⊥
qname_stands src q n name f is (no_qname none) = none name n is

-- A byte.
pub byte_stands : (src : List ℕ) (b q : ℕ) (f : Fault) → 0 < b → byte src q ≡ b → IsMissing src q (a_byte b) f → ⊥
byte_stands src b q f some is p = grind (arith, within)

-- A fixed text.
pub word_stands : (src : List ℕ) (w : Expected) (q : ℕ) (f : Fault) → stands (expected_text w) src q ≡ true → IsMissing src q (a_text w) f → ⊥
word_stands src w q f is (other_text _ none) = true≢false (sym is ∙ none)

module _ (src : List ℕ) (utf8 : IsUtf8 src) where
  -- White space.
  pub space_stands : (p : ℕ) (f : Fault) → IsCharBoundary src p → p < spaces_end src p → IsMissing src p a_space f → ⊥
  space_stands p f cut some (none_of _ inside none) =
      true≢false (sym (begins_byte is_space (λ c h. space_ascii c h) src p utf8 cut (some_run is_space src p some)) ∙ none)
  space_stands p f cut some (none_left _ past) = let e = run_at_end is_space src p past in absurd (omega arith)

  -- Chars.
  pub chars_stand : (i e : ℕ) (f : Fault) → IsCharBoundary src i → IsCharBoundary src e → AreChars src i e → IsMissing src i (chars_to e) f → ⊥
  chars_stand i e f cut end are (no_char _ q c is below standing ill) = chars_refuse src i e q c utf8 cut end (let le = run_end_le is_char (take e src) i in omega arith) below are standing ill

  -- A text up to a fixed one.
  pub text_stands : (w : Expected) (s e q : ℕ) (t : DueItem) (f : Fault) → IsCharBoundary src s → IsCharBoundary src (mark_from (expected_text w) src s) → e ≡ mark_from (expected_text w) src s → AreChars src s e → stands (expected_text w) src e ≡ true
      → DueInText w src s q t → IsMissing src q t f → ⊥
  text_stands w s e q t f cut end is chars closes due.DueInText.its_chars lack = chars_stand s (mark_from (expected_text w) src s) f cut end (subst (λ (e : ℕ). AreChars src s e) is chars) lack
  text_stands w s e q t f cut end is chars closes (due.DueInText.its_end _) lack = word_stands src w (mark_from (expected_text w) src s) f (subst (λ (e : ℕ). stands (expected_text w) src e ≡ true) is closes) lack

  -- ---- comments and processing instructions

  -- In a comment.
  comment_apart : (i e j q : ℕ) (t : DueItem) (f : Fault) → IsComment src i e j → DueInText expected.CommentEnd src (i + 4) q t → IsMissing src q t f → ⊥
  comment_apart i e j q t f is due' lack = grind (arith, comment_parts, comment_ends)

  -- In an instruction: its name ends in one place.
  instruction_apart : (i n e j q : ℕ) (t : DueItem) (f : Fault) → IsPI src i n e j → DueInPI src i q t → IsMissing src q t f → ⊥
  instruction_apart i n e j q t f is due.DueInPI.its_target lack = name_stands src (i + 2) n f (pi_parts is).target lack
  instruction_apart i n e j q t f is (due.DueInPI.its_value m _ _ name value) lack =
      let one : i + 1 + 1 ≡ i + 2 = omega arith in
      let cut = subst (IsCharBoundary src) one (behind word.PIStart src i 1 63 utf8 (pi_parts is).opens (omega arith) refl (omega arith) (omega arith)) in
      let v = spaces_end src n in
      let at_value : IsCharBoundary src v = run_cut is_space src n utf8 (subst (IsCharBoundary src) (sym (pi_parts is).target.longest) (run_cut is_name_char src (i + 2) utf8 cut)) in
      grind (arith, text_stands, mark_from_cut, pi_parts)

  -- One of both begins where a fault of them is.
  pub misc_begins : (i : ℕ) (f : Fault) → InMisc src i f → (at word.CommentStart src i ≡ true) ⊎ (at word.PIStart src i ≡ true)
  misc_begins i f h = grind (arith, declaration_bytes)

  -- A fault of them is in none that is there.
  pub misc_apart : (i j : ℕ) (item : Item) (f : Fault) → IsMisc src i j item → InMisc src i f → ⊥
  misc_apart i j item f h k = grind (arith, comment_apart, comment_parts, comment_ends, not_both, declaration_bytes, pi_parts, instruction_apart)
