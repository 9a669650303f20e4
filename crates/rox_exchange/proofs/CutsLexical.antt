-- Names, references and the constructs that hold no others are in each source with the same front.
use Rattle.std.proofs.Common.{◌≡◌, ◌≢◌, ℕ, ◌+◌, ◌^◌, ◌<◌, ◌≤◌, Bool, false, List, [], take, refl, sym, ap, ◌∙◌, subst, arith, inl, inr, IsCharBoundary}
use Rattle.std.proofs.lemmas.Bool.{cases_Bool, cases_lt}
use Rattle.std.specs.Prelude.{codes}
use Rattle.rox_grammar.specs.declared.fault.Word.TheVariants as word
use Rattle.rox_grammar.specs.FixedTexts.{word_text, at}
use Rattle.rox_grammar.specs.Chars.{is_space, is_name_start, is_name_char, is_part_char}
use Rattle.rox_grammar.specs.Search.{mark_from}
use Rattle.rox_grammar.specs.Written.{Name}
use Rattle.rox_grammar.specs.Names.{byte, slice, spaces_end, IsName, IsNCName, IsQName, unprefixed, prefixed, colon_first}
use Rattle.rox_grammar.specs.References.{is_digit, is_hex_digit, number, character, predefined, IsNumber, IsReference, IsCharacter, decimal, hexadecimal, named}
use Rattle.rox_grammar.specs.Constructs.{AreChars, IsPI, IsCData, IsEq, IsEnd}
use Rattle.rox_grammar.proofs.AtPlace.{stands_reads}
use Rattle.rox_exchange.specs.Local.{Fronts}
use Rattle.rox_exchange.proofs.Cuts.{byte_cut, stands_cut, mark_from_cut, chars_cut, slice_cut}
use Rattle.rox_exchange.proofs.Fronts.{behind, run_cuts, begins_cut, bytes_end_cut}
use Rattle.rox_exchange.proofs.Order.{name_le, ncname_le, qname_le, cdata_le, pi_le, reference_lt}
use Rattle.rox_theory.proofs.Productions.{ncname_parts, ncname_made, number_parts, number_made, reference_parts, reference_made, pi_parts, pi_made, cdata_parts, cdata_made, end_parts, end_made}
use Rattle.rox_theory.proofs.Basics.{run_end_le}

module _ (src to : List ℕ) (m : ℕ) (f : Fronts src to m) where
  -- White space.
  pub space_cut : (i e : ℕ) → IsCharBoundary (take m src) i → e < m → e ≡ spaces_end src i → (e ≡ spaces_end to i) × IsCharBoundary (take m src) e
  space_cut i e cut below is = run_cuts src to m f is_space i e cut below is

  -- A byte that a place has, and one that it has not.
  pub has_byte : (b i : ℕ) → i < m → byte src i ≡ b → byte to i ≡ b
  has_byte b i below is = sym (byte_cut src to m f.same i below) ∙ is

  pub has_other : (b i : ℕ) → i < m → byte src i ≢ b → byte to i ≢ b
  has_other b i below differs = λ is. differs (byte_cut src to m f.same i below ∙ is)

  -- A name.
  pub name_cut : (i j : ℕ) → IsCharBoundary (take m src) i → j < m → IsName src i j → IsName to i j × IsCharBoundary (take m src) j
  name_cut i j cut below is = grind (arith, run_cuts src to m f is_name_char i j cut below is.longest, begins_cut, name_le)

  -- A name without colon.
  pub ncname_cut : (i j : ℕ) → IsCharBoundary (take m src) i → j < m → IsNCName src i j → IsNCName to i j × IsCharBoundary (take m src) j
  ncname_cut i j cut below is =
      let r = run_cuts src to m f is_part_char i j cut below (ncname_parts is).longest in
      let le = ncname_le src i j is in
      (ncname_made (record { starts = sym (begins_cut src to m f is_name_start i cut (omega arith)) ∙ (ncname_parts is).starts; no_colon = has_other 58 i (omega arith) (ncname_parts is).no_colon; longest = r.0 }), r.1)

  -- A name in a namespace.
  pub qname_cut : (i : ℕ) (name : Name) (j : ℕ) → IsCharBoundary (take m src) i → j < m → IsQName src i name j → IsQName to i name j × IsCharBoundary (take m src) j
  qname_cut i name j cut below (unprefixed _ _ n last) =
      let r = ncname_cut i j cut below n in
      let s = slice_cut src to m f.same i j (ncname_le src i j n) (omega arith) in
      (subst (λ (bs : List ℕ). IsQName to i (record { prefix = []; local = bs }) j) (sym s) (unprefixed i j r.0 (has_other 58 j below last)), r.1)
  qname_cut i name j cut below (prefixed _ k _ n colon rest last) =
      let le' = ncname_le src (k + 1) j rest in
      let t = ncname_cut (k + 1) j (behind src to m f 58 k (omega arith) colon (omega arith)) below rest in
      let s = slice_cut src to m f.same i k (ncname_le src i k n) (omega arith) in
      let u = slice_cut src to m f.same (k + 1) j le' (omega arith) in (
        subst (λ (bs : List ℕ). IsQName to i (record { prefix = bs; local = slice src (k + 1) j }) j) (sym s)
            (subst (λ (bs : List ℕ). IsQName to i (record { prefix = slice to i k; local = bs }) j) (sym u)
            (prefixed i k j (ncname_cut i k cut (omega arith) n).0 (has_byte 58 k (omega arith) colon) t.0 (has_other 58 j below last))),
        t.1,
      )
  qname_cut i name j cut below (colon_first _ _ colon n last) =
      let le = ncname_le src (i + 1) j n in
      let r = ncname_cut (i + 1) j (behind src to m f 58 i (omega arith) colon (omega arith)) below n in
      let s = slice_cut src to m f.same (i + 1) j le (omega arith) in
      (subst (λ (bs : List ℕ). IsQName to i (record { prefix = []; local = bs }) j) (sym s) (colon_first i j (has_byte 58 i (omega arith) colon) r.0 (has_other 58 j below last)), r.1)

  -- Eq.
  pub eq_cut : (i j : ℕ) → IsCharBoundary (take m src) i → j < m → IsEq src i j → IsEq to i j
  eq_cut i j cut below is =
      let le = run_end_le is_space src (spaces_end src i + 1) in
      let s = space_cut i (spaces_end src i) cut (omega arith) refl in
      let r = space_cut (spaces_end src i + 1) j (behind src to m f 61 (spaces_end src i) (omega arith) is.0 (omega arith)) below is.1 in
      (ap (byte to) (sym s.0) ∙ has_byte 61 (spaces_end src i) (omega arith) is.0, r.0 ∙ ap (λ (x : ℕ). spaces_end to (x + 1)) s.0)

  -- A number.
  pub number_cut : (base : ℕ) (p : ℕ → Bool) (d c j : ℕ) → j ≤ m → IsNumber base p src d c j → IsNumber base p to d c j
  number_cut base p d c j fits is =
      let e = (number_parts is).e in
      let some = (number_parts is).some in
      let next = (number_parts is).next in
      let s = slice_cut src to m f.same d e (omega arith) (omega arith) in
      number_made (record {
        e = e;
        end = bytes_end_cut src to m f p d e (number_parts is).end (omega arith);
        some = (number_parts is).some;
        closes = has_byte 59 e (omega arith) (number_parts is).closes;
        small = subst (λ (bs : List ℕ). number base bs < 2 ^ 32) s (number_parts is).small;
        is_character = (number_parts is).is_character ∙ ap (λ (bs : List ℕ). character (number base bs)) s;
        allowed = (number_parts is).allowed;
        next = (number_parts is).next;
      })

  -- A reference.
  pub reference_cut : (i n j : ℕ) → j ≤ m → IsReference src i n j → IsReference to i n j
  reference_cut i n j fits is =
      let next = (reference_parts is).next in
      let lt = reference_lt src i n j is in
      reference_made (record {
        opens = has_byte 38 i (omega arith) (reference_parts is).opens;
        name = (name_cut (i + 1) n (behind src to m f 38 i (omega arith) (reference_parts is).opens (omega arith)) (omega arith) (reference_parts is).name).0;
        closes = has_byte 59 n (omega arith) (reference_parts is).closes;
        next = (reference_parts is).next;
      })

  -- Its name.
  pub reference_same : (i n j : ℕ) → j ≤ m → IsReference src i n j → slice src (i + 1) n ≡ slice to (i + 1) n
  reference_same i n j fits is = grind (arith, reference_parts, slice_cut)

  -- A reference to a character.
  pub character_cut : (i c j : ℕ) → j ≤ m → IsCharacter src i c j → IsCharacter to i c j
  character_cut i c j fits (decimal opens is) =
      let some = (number_parts is).some in
      let next = (number_parts is).next in
      decimal (sym (stands_cut src to m f.same (codes "&#") i (omega arith)) ∙ opens) (number_cut 10 is_digit (i + 2) c j fits is)
  character_cut i c j fits (hexadecimal opens is) =
      let some = (number_parts is).some in
      let next = (number_parts is).next in
      hexadecimal (sym (stands_cut src to m f.same (codes "&#x") i (omega arith)) ∙ opens) (number_cut 16 is_hex_digit (i + 3) c j fits is)
  character_cut i c j fits (named n is known) =
      named n (reference_cut i n j fits is) (ap predefined (sym (reference_same i n j fits is)) ∙ known)

  -- No declaration begins where `?` comes so soon.
  undeclared : (i e : ℕ) → i + 2 ≤ e → e + 2 ≤ m → at word.XmlDeclStart src i ≡ false → byte to e ≡ 63 → at word.XmlDeclStart to i ≡ false
  undeclared i e le fits before close =
      elim (cases_lt m (i + 6)) as (λ s. at word.XmlDeclStart to i ≡ false) [
        | inr far ↦ (sym (stands_cut src to m f.same (word_text word.XmlDeclStart) i (omega arith)) ∙ before)
        | inl near ↦ elim (cases_Bool (at word.XmlDeclStart to i)) as (λ s. at word.XmlDeclStart to i ≡ false) [
          | inr out ↦ out
          | inl stands_there ↦ grind (arith, stands_reads (word_text word.XmlDeclStart) to i 2 stands_there (omega arith), stands_reads (word_text word.XmlDeclStart) to i 3 stands_there (omega arith))
        ]
      ]

  -- A processing instruction.
  pub pi_cut : (i n e j : ℕ) → j ≤ m → IsPI src i n e j → IsPI to i n e j × (spaces_end src n ≡ spaces_end to n)
  pi_cut i n e j fits is =
      let next = (pi_parts is).next in
      let le = pi_le src i n e j is in
      let le2 = run_end_le is_space src n in
      let question = stands_reads (word_text word.PIStart) src i 1 (pi_parts is).opens (omega arith) in
      let close = stands_reads (word_text word.PIEnd) src e 0 (pi_parts is).closes (omega arith) in
      let close' : byte to e ≡ 63 = has_byte 63 e (omega arith) (ap (byte src) (sym (omega arith)) ∙ close) in
      let one : i + 1 + 1 ≡ i + 2 = omega arith in
      let t = name_cut (i + 2) n (subst (IsCharBoundary (take m src)) one (behind src to m f 63 (i + 1) (omega arith) question (omega arith))) (omega arith) (pi_parts is).target in
      let s = space_cut n (spaces_end src n) t.1 (omega arith) refl in (
        pi_made (record {
          opens = sym (stands_cut src to m f.same (word_text word.PIStart) i (omega arith)) ∙ (pi_parts is).opens;
          no_declaration = undeclared i e (omega arith) (omega arith) (pi_parts is).no_declaration close';
          target = t.0;
          end = mark_from_cut src to m f.same (word_text word.PIEnd) (spaces_end src n) e (pi_parts is).end (omega arith) (omega arith) ∙ ap (mark_from (word_text word.PIEnd) to) s.0;
          chars = subst (λ (x : ℕ). AreChars to x e) s.0 (chars_cut src to m f.same (spaces_end src n) e (omega arith) (pi_parts is).chars);
          closes = sym (stands_cut src to m f.same (word_text word.PIEnd) e (omega arith)) ∙ (pi_parts is).closes;
          next = (pi_parts is).next;
        }),
        s.0,
      )

  -- A CDATA section.
  pub cdata_cut : (i e j : ℕ) → j ≤ m → IsCData src i e j → IsCData to i e j
  cdata_cut i e j fits is =
      let next = (cdata_parts is).next in
      let le = cdata_le src i e j is in
      cdata_made (record {
        opens = sym (stands_cut src to m f.same (word_text word.CDataStart) i (omega arith)) ∙ (cdata_parts is).opens;
        end = mark_from_cut src to m f.same (word_text word.CDataEnd) (i + 9) e (cdata_parts is).end (omega arith) (omega arith);
        chars = chars_cut src to m f.same (i + 9) e (omega arith) (cdata_parts is).chars;
        closes = sym (stands_cut src to m f.same (word_text word.CDataEnd) e (omega arith)) ∙ (cdata_parts is).closes;
        next = (cdata_parts is).next;
      })

  -- An end tag.
  pub end_cut : (i : ℕ) (name : Name) (n j : ℕ) → j ≤ m → IsEnd src i name n j → IsEnd to i name n j
  end_cut i name n j fits is =
      let next = (end_parts is).next in
      let le = qname_le src (i + 2) name n (end_parts is).is_name in
      let le' = run_end_le is_space src n in
      let slash = stands_reads (word_text word.EndTagStart) src i 1 (end_parts is).opens (omega arith) in
      let one : i + 1 + 1 ≡ i + 2 = omega arith in
      let t = qname_cut (i + 2) name n (subst (IsCharBoundary (take m src)) one (behind src to m f 47 (i + 1) (omega arith) slash (omega arith))) (omega arith) (end_parts is).is_name in
      let s = space_cut n (spaces_end src n) t.1 (omega arith) refl in
      grind (arith, end_made, stands_cut, has_byte)
