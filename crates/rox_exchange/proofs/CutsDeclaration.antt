-- A declaration is in each source with the same front. It ends in `>`, and no word in it but the last has that byte.
use Rattle.std.proofs.Common.{◌≡◌, ◌≢◌, ℕ, zero, suc, ◌+◌, ◌-◌, ◌<◌, ◌≤◌, ◌==◌, ◌&&◌, Bool, true, List, [], ◌∷◌, take, drop, length, get_or, refl, sym, ap, ◌∙◌, subst, arith, get_or-drop, IsCharBoundary}
use Rattle.std.specs.List.{starts_with}
use Rattle.rox_grammar.specs.declared.fault.Word.{Word}
use Rattle.rox_grammar.specs.declared.fault.Word.TheVariants as word
use Rattle.rox_grammar.specs.FixedTexts.{word_text, at}
use Rattle.rox_grammar.specs.Search.{stands}
use Rattle.rox_grammar.specs.Chars.{is_space}
use Rattle.rox_grammar.specs.Written.{Name}
use Rattle.rox_grammar.specs.Names.{byte, spaces_end}
use Rattle.rox_grammar.specs.Constructs.{IsPair, MayBePair, is_pair, no_pair, version, encoding, standalone, IsXmlDecl, xml_decl}
use Rattle.rox_grammar.proofs.AtPlace.{stands_reads}
use Rattle.rox_theory.proofs.Basics.{within as byte_within, run_end_le}
use Rattle.rox_theory.proofs.DeclarationLemmas.{IsFollowed}
use Rattle.rox_exchange.specs.Local.{Fronts}
use Rattle.rox_exchange.proofs.Cuts.{heads, fronts, stands_cut}
use Rattle.rox_exchange.proofs.CutsLexical.{space_cut}
use Rattle.rox_exchange.proofs.CutsTags.{pair_cut}
use Rattle.rox_exchange.proofs.Fronts.{behind}
use Rattle.rox_exchange.proofs.Order.{qname_le, eq_lt, literal_lt}

-- The byte is none of these.
abbrev pub IsMissing : ℕ → List ℕ → Type 0
IsMissing c [] = Unit {0}
IsMissing c (b ∷ bs) = (b ≢ c) × IsMissing c bs

-- Byte by byte.
starts_on : (x w : ℕ) (xs ws : List ℕ) → starts_with ◌==◌ (x ∷ xs) (w ∷ ws) ≡ ((w == x) && starts_with ◌==◌ xs ws)
starts_on x w xs ws = refl

-- A text without a byte begins one list as it begins another that is the same up to that byte.
starts_before : (c : ℕ) (mark : List ℕ) → 0 < c → IsMissing c mark → (n k : ℕ) (xs ys : List ℕ) → take n xs ≡ take n ys → k < n → get_or xs k 0 ≡ c → starts_with ◌==◌ xs mark ≡ starts_with ◌==◌ ys mark
starts_before c [] some none n k xs ys same below is = refl
starts_before c (w ∷ ws) some (no_end, none) zero k xs ys same below is = absurd (omega arith)
starts_before c (w ∷ ws) some (no_end, none) (suc n) k [] ys same below is = (let z : 0 ≡ c = is in absurd (omega arith))
starts_before c (w ∷ ws) some (no_end, none) (suc n) k (x ∷ xs) [] same below is = cc same
starts_before c (w ∷ ws) some (no_end, none) (suc n) zero (x ∷ xs) (y ∷ ys) same below is = grind arith
starts_before c (w ∷ ws) some (no_end, none) (suc n) (suc k) (x ∷ xs) (y ∷ ys) same below is =
    let both = heads n x y xs ys same in
    let more = starts_before c ws some none n k xs ys both.1 (omega arith) is in
    starts_on x w xs ws ∙ ap (λ (b : Bool). (w == x) && b) more ∙ ap (λ (z : ℕ). (w == z) && starts_with ◌==◌ ys ws) both.0 ∙ sym (starts_on y w ys ws)

lacks_version : IsMissing 62 (word_text word.Version)
lacks_version = ((λ e. omega arith), ((λ e. omega arith), ((λ e. omega arith), ((λ e. omega arith), ((λ e. omega arith), ((λ e. omega arith), ((λ e. omega arith), tt)))))))

lacks_encoding : IsMissing 62 (word_text word.Encoding)
lacks_encoding = ((λ e. omega arith), ((λ e. omega arith), ((λ e. omega arith), ((λ e. omega arith), ((λ e. omega arith), ((λ e. omega arith), ((λ e. omega arith), ((λ e. omega arith), tt))))))))

lacks_standalone : IsMissing 62 (word_text word.Standalone)
lacks_standalone = ((λ e. omega arith), ((λ e. omega arith), ((λ e. omega arith), ((λ e. omega arith), ((λ e. omega arith), ((λ e. omega arith), ((λ e. omega arith), ((λ e. omega arith), ((λ e. omega arith), ((λ e. omega arith), tt))))))))))

module _ (src to : List ℕ) (m : ℕ) (f : Fronts src to m) where
  -- A fixed text that lacks a byte, in front of that byte.
  pub word_cut : (c : ℕ) (mark : List ℕ) (i q : ℕ) → 0 < c → IsMissing c mark → i ≤ q → q < m → byte src q ≡ c → stands mark src i ≡ stands mark to i
  unfolding stands
  word_cut c mark i q some none le below is =
      starts_before c mark some none (m - i) (q - i) (drop i src) (drop i to) (fronts src to m f.same i (omega arith)) (omega arith)
      (get_or-drop i src (q - i) 0 ∙ ap (byte src) (omega arith) ∙ is)

  pair_lt : (i n v e j : ℕ) (name : Name) → IsPair src i name n v e j → i < j
  pair_lt i n v e j name (is_name, eq, literal) = omega (arith, qname_le src i name n is_name, eq_lt src n v eq, literal_lt src v e j literal)

  may_le : (w : Word) (i j : ℕ) → MayBePair (word_text w) src i j → i ≤ j
  may_le w i j d = grind (arith, pair_lt, run_end_le)

  -- Where `>` is at q, and white space or the end of the declaration is left before it.
  module _ (q : ℕ) (below : q < m) (is_end : byte src q ≡ 62) (inside : q < length src) where
    gap_cut : (i : ℕ) → i ≤ spaces_end src i → spaces_end src i + 1 ≤ q → spaces_end src i ≡ spaces_end to i → IsFollowed src i → IsFollowed to i
    gap_cut i on le same e = grind (arith, stands_cut)

    may_cut : (w : Word) (i j : ℕ) → IsMissing 62 (word_text w) → IsCharBoundary (take m src) i → j + 1 ≤ q → MayBePair (word_text w) src i j → MayBePair (word_text w) to i j × IsCharBoundary (take m src) j
    may_cut w i j lacks cut le (is_pair name n v e k here is gap) =
        let lt = pair_lt i n v e k name is in
        let on = run_end_le is_space src k in
        let p = pair_cut src to m f i n v e k name cut (omega arith) is in
        let s = space_cut src to m f k (spaces_end src k) p.1 (omega arith) refl in
        let g = gap_cut k on le s.0 gap in
        (subst (MayBePair (word_text w) to i) (sym s.0) (is_pair name n v e k (sym (word_cut 62 (word_text w) i q (omega arith) lacks (omega arith) below is_end) ∙ here) p.0 g), s.1)
    may_cut w i j lacks cut le (no_pair none) =
        (no_pair (sym (word_cut 62 (word_text w) i q (omega arith) lacks (omega arith) below is_end) ∙ none), cut)

  -- The first and the last byte of the declaration.
  pub declaration_cut : (i j : ℕ) → j ≤ m → IsXmlDecl src i j → IsXmlDecl to i j
  declaration_cut i j fits (xml_decl e p opens (standalone v _ (encoding _ _ (version here) first) second) third closes) =
      let le_v = may_le word.Version (spaces_end src (i + 5)) v first in
      let le_e = may_le word.Encoding v e second in
      let le_s = may_le word.Standalone e p third in
      let sp = run_end_le is_space src (i + 5) in
      let q = p + 1 in
      let is_end : byte src q ≡ 62 = stands_reads (word_text word.PIEnd) src p 1 closes (omega arith) in
      let inside : q < length src = byte_within src q (λ z. omega arith) in
      let l : byte src (i + 4) ≡ 108 = stands_reads (word_text word.XmlDeclStart) src i 4 opens (omega arith) in
      let start : IsCharBoundary (take m src) (i + 5) = subst (IsCharBoundary (take m src)) (omega arith) (behind src to m f 108 (i + 4) (omega arith) l (omega arith)) in
      let white = space_cut src to m f (i + 5) (spaces_end src (i + 5)) start (omega arith) refl in
      let one = may_cut q (omega arith) is_end inside word.Version (spaces_end src (i + 5)) v lacks_version white.1 (omega arith) first in
      let two = may_cut q (omega arith) is_end inside word.Encoding v e lacks_encoding one.1 (omega arith) second in
      let three = may_cut q (omega arith) is_end inside word.Standalone e p lacks_standalone two.1 (omega arith) third in
      let there = sym (word_cut 62 (word_text word.Version) (spaces_end src (i + 5)) q (omega arith) lacks_version (omega arith) (omega arith) is_end) ∙ here in
      let to_version = version (subst (λ (k : ℕ). at word.Version to k ≡ true) white.0 there) in
      let to_encoding = encoding (spaces_end to (i + 5)) v to_version (subst (λ (k : ℕ). MayBePair (word_text word.Version) to k v) white.0 one.0) in
      xml_decl e p (sym (stands_cut src to m f.same (word_text word.XmlDeclStart) i (omega arith)) ∙ opens) (standalone v e to_encoding two.0) three.0
      (sym (stands_cut src to m f.same (word_text word.PIEnd) p (omega arith)) ∙ closes)
