-- The same for a name, Eq and a literal, and for the declaration.
use Rattle.std.proofs.Common.{◌≡◌, ℕ, ◌+◌, ◌<◌, ◌⊎◌, true, List, length, refl, sym, ap, ◌∙◌, subst, arith, false, IsUtf8, IsCharBoundary}
use Rattle.rox_grammar.specs.declared.fault.Fault.{Fault}
use Rattle.rox_grammar.specs.declared.fault.Word.{Word}
use Rattle.rox_grammar.specs.declared.fault.Word.TheVariants as word
use Rattle.rox_grammar.specs.declared.fault.Expected.TheVariants as expected
use Rattle.rox_grammar.specs.Written.{Name}
use Rattle.rox_grammar.specs.Names.{byte, spaces_end, IsQName}
use Rattle.rox_grammar.specs.FixedTexts.{word_text, at}
use Rattle.rox_grammar.specs.Search.{stands}
use Rattle.rox_grammar.specs.Constructs.{IsEq, IsAttValue, IsPair, MayBePair, DeclarationTo, version, encoding, standalone, IsXmlDecl, xml_decl}
use Rattle.rox_grammar.specs.Due.{DueItem, a_byte, a_text, IsMissing, DueInPair, its_name, equals, opening, its_value, closing, value_end, DueInXmlDecl, its_version, in_pair, behind_pair, behind_standalone}
use Rattle.rox_faults.proofs.DueForms.{a_quote, a_space}
use Rattle.rox_grammar.specs.Due as due
use Rattle.rox_reading.specs.Markup.{pair_at, pair_if}
use Rattle.rox_theory.proofs.Basics.{within}
use Rattle.rox_theory.proofs.NameLemmas.{qname_complete}
use Rattle.rox_faults.proofs.NameSpans.{cut_behind}
use Rattle.rox_theory.proofs.LiteralLemmas.{literal_closes, literal_complete}
use Rattle.rox_theory.proofs.DeclarationLemmas.{IsFollowed, pair_complete, pair_cut, pair_if_complete}
use Rattle.rox_theory.proofs.FailedReadings.{ok_one}
use Rattle.rox_faults.proofs.FaultTags.{value_cut}
use Rattle.rox_faults.proofs.FaultApart.{qname_stands, byte_stands, space_stands, word_stands, chars_stand}

-- A qualified name is read in one way.
pub one_qname : (src : List ℕ) (i m n : ℕ) (x y : Name) → IsQName src i x m → IsQName src i y n → (x ≡ y) × (m ≡ n)
one_qname src i m n x y a b = grind (arith, qname_complete)

-- A quote that is required and is there.
pub quote_stands : (src : List ℕ) (i : ℕ) (f : Fault) → (byte src i ≡ 39) ⊎ (byte src i ≡ 34) → IsMissing src i a_quote f → ⊥
quote_stands src i f is k = grind (arith, within)

-- Where the value begins.
pub eq_one : (src : List ℕ) (m n v w : ℕ) → m ≡ n → IsEq src m v → IsEq src n w → v ≡ w
eq_one src m n v w same a b = a.1 ∙ ap (λ (k : ℕ). spaces_end src (spaces_end src k + 1)) same ∙ sym b.1

module _ (src : List ℕ) (utf8 : IsUtf8 src) where
  -- In a name, Eq and a literal.
  pub pair_apart : (i n v e j q : ℕ) (name : Name) (t : DueItem) (f : Fault) → IsQName src i name n → IsEq src n v → IsAttValue src v e j → DueInPair src i q t → IsMissing src q t f → ⊥
  pair_apart i n v e j q name t f named eq literal its_name lack = qname_stands src i n name f named lack
  pair_apart i n v e j q name t f named eq literal (equals name' m is) lack = grind (arith, one_qname, byte_stands)
  pair_apart i n v e j q name t f named eq literal (opening name' m w is eq') lack = grind (arith, one_qname, quote_stands)
  pair_apart i n v e j q name t f named eq literal (its_value name' m w is eq' quote) lack =
      let same : w ≡ v = eq_one src m n w v (one_qname src i m n name' name is named).1 eq' eq in
      let cut : IsCharBoundary src (v + 1) = cut_behind src v (byte src v) utf8 refl (omega arith) (omega arith) in
      let to_end : value_end src v ≡ e = literal_complete src v e j literal in
      grind (arith, chars_stand, value_cut)
  pair_apart i n v e j q name t f named eq literal (closing name' m w is eq' quote chars) lack =
      let same : w ≡ v = eq_one src m n w v (one_qname src i m n name' name is named).1 eq' eq in
      byte_stands src (byte src v) (value_end src v) f (omega arith) (ap (byte src) (literal_complete src v e j literal) ∙ literal_closes src v e j literal)
      (subst (λ (w : ℕ). IsMissing src (value_end src w) (a_byte (byte src w)) f) same lack)

  -- A pair ends in one place.
  one_pair : (i n v e j m w d k : ℕ) (name other : Name) → IsPair src i name n v e j → IsPair src i other m w d k → j ≡ k
  one_pair i n v e j m w d k name other a b =
      ap (λ (p : Unit {0} × ℕ). p.1) (ok_one (tt, j) (tt, k) (pair_at src i) (pair_complete src i n v e j name a) (pair_complete src i m w d k other b))

  -- And so does one with a gap.
  one_may : (w : Word) (i j k : ℕ) → MayBePair (word_text w) src i j → MayBePair (word_text w) src i k → j ≡ k
  one_may w i j k a b = ap (λ (p : Unit {0} × ℕ). p.1) (ok_one (tt, j) (tt, k) (pair_if w src i) (pair_if_complete w src i j utf8 a) (pair_if_complete w src i k utf8 b))

  -- White space that is required after a pair and is there.
  gap_stands : (i : ℕ) (f : Fault) → IsCharBoundary src i → IsFollowed src i → i < length src → at word.PIEnd src i ≡ false → IsMissing src i a_space f → ⊥
  gap_stands i f cut k inside no_end lack = grind (arith, space_stands)

  -- A pair that may be there is there, with its gap, if its word is.
  may_is : (w : Word) (i k : ℕ) → at w src i ≡ true → MayBePair (word_text w) src i k → (name : Name) × (n : ℕ) × (v : ℕ) × (e : ℕ) × (j : ℕ) × IsPair src i name n v e j × IsFollowed src j × (spaces_end src j ≡ k)
  may_is w i k here p = grind arith

  may_not : (w : Word) (i k : ℕ) → at w src i ≡ false → MayBePair (word_text w) src i k → k ≡ i
  may_not w i k fails p = grind arith

  -- The pair that is where one begins, and the gap after it: after the last one all white space before the end.
  pair_there : (i j p : ℕ) (text : List ℕ) → IsXmlDecl src i j → DeclarationTo src i text p → stands text src p ≡ true
      → (name : Name) × (n : ℕ) × (v : ℕ) × (e : ℕ) × (k : ℕ) × IsPair src p name n v e k × IsFollowed src k × (text ≡ word_text word.Standalone → at word.PIEnd src (spaces_end src k) ≡ true)
  pair_there i j p text (xml_decl e s opens (standalone v _ (encoding _ _ (version _) one) two) three closes) (version _) here =
      let m = may_is word.Version p v here one in (m.0, m.1, m.2, m.3, m.4, m.5, m.6, λ z. cc z)
  pair_there i j p text (xml_decl e s opens (standalone v _ (encoding _ _ (version _) one) two) three closes) (encoding q _ (version _) may) here =
      let same : v ≡ p = one_may word.Version q v p one may in
      let m = may_is word.Encoding p e here (subst (λ (v : ℕ). MayBePair (word_text word.Encoding) src v e) same two) in (m.0, m.1, m.2, m.3, m.4, m.5, m.6, λ z. cc z)
  pair_there i j p text (xml_decl e s opens (standalone v _ (encoding _ _ (version _) one) two) three closes) (standalone w _ (encoding q _ (version _) may) may') here =
      let same' : e ≡ p = one_may word.Encoding w e p (subst (λ (v : ℕ). MayBePair (word_text word.Encoding) src v e) (one_may word.Version q v w one may) two) may' in
      let m = may_is word.Standalone p s here (subst (λ (e : ℕ). MayBePair (word_text word.Standalone) src e s) same' three) in (m.0, m.1, m.2, m.3, m.4, m.5, m.6, λ z. subst (λ (l : ℕ). at word.PIEnd src l ≡ true) (sym m.7) closes)

  -- Where the last one begins.
  last_begins : (i p q : ℕ) → DeclarationTo src i (word_text word.Standalone) p → DeclarationTo src i (word_text word.Standalone) q → p ≡ q
  last_begins i p q (standalone v _ (encoding a _ (version _) one) two) (standalone w _ (encoding b _ (version _) may) may') =
      one_may word.Encoding w p q (subst (λ (v : ℕ). MayBePair (word_text word.Encoding) src v p) (one_may word.Version a v w one may) two) may'

  -- In the declaration: rows 21 to 25.
  pub declaration_apart : (i j q : ℕ) (t : DueItem) (f : Fault) → IsXmlDecl src i j → DueInXmlDecl src i q t → IsMissing src q t f → ⊥
  declaration_apart i j q t f (xml_decl e s opens (standalone v _ (encoding _ _ (version here) one) two) three closes) its_version lack = grind (arith, word_stands)
  declaration_apart i j q t f is (in_pair text p _ _ to here due') lack =
      let there = pair_there i j p text is to here in
      let x = there.5 in
      pair_apart p there.1 there.2 there.3 there.4 q there.0 t f x.0 x.1 x.2 due' lack
  declaration_apart i j q t f is (behind_pair text p pair to here other inside no_end) lack =
      let there = pair_there i j p text is to here in
      let same : there.4 ≡ pair.end = one_pair p there.1 there.2 there.3 there.4 pair.name_end pair.first_quote pair.last_quote pair.end there.0 pair.name there.5 pair.is_written in
      let cut = pair_cut src p pair.name_end pair.first_quote pair.last_quote pair.end pair.name utf8 pair.is_written in
      gap_stands pair.end f cut (subst (IsFollowed src) same there.6) inside no_end lack
  declaration_apart i j q t f is (behind_standalone p pair to here) lack =
      let there = pair_there i j p (word_text word.Standalone) is to here in
      let same : there.4 ≡ pair.end = one_pair p there.1 there.2 there.3 there.4 pair.name_end pair.first_quote pair.last_quote pair.end there.0 pair.name there.5 pair.is_written in
      word_stands src expected.PIEnd (spaces_end src there.4) f (there.7 refl) (subst (λ (l : ℕ). IsMissing src (spaces_end src l) (a_text expected.PIEnd) f) (sym same) lack)
  declaration_apart i j q t f (xml_decl e s opens to three closes) (due.DueInXmlDecl.its_end _ to' none) lack =
      let last : s ≡ q = may_not word.Standalone q s none (subst (λ (e : ℕ). MayBePair (word_text word.Standalone) src e s) (last_begins i e q to to') three) in
      word_stands src expected.PIEnd s f closes (subst (λ (l : ℕ). IsMissing src l (a_text expected.PIEnd) f) (sym last) lack)
