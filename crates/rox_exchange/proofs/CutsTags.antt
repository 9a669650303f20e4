-- Character data, values, attributes and tags are in each source with the same front.
use Rattle.std.proofs.Common.{◌≡◌, ◌≢◌, ℕ, ◌+◌, ◌<◌, ◌≤◌, ◌⊎◌, ◌==◌, Bool, true, false, List, ◌∷◌, take, refl, sym, ap, ◌∙◌, subst, arith, inl, inr, IsCharBoundary, eqb-true}
use Rattle.std.proofs.lemmas.Grind.{common_steps}
use Rattle.rox_grammar.specs.Chars.{is_space}
use Rattle.rox_grammar.specs.Written.{Name, Attribute, Tag}
use Rattle.rox_grammar.specs.Names.{byte, spaces_end}
use Rattle.rox_grammar.specs.References.{predefined, entity_reference}
use Rattle.rox_grammar.specs.Constructs.{IsAttValue, IsPair}
use Rattle.rox_grammar.specs.Content.{Inclusion, DataByte, literal, Part, part_ends, as_written, from_reference, Value, value_ends, line_end, white, other, a_character, an_entity, is_verbatim_value, IsAttribute, attribute, Attributes, no_more, one_more, TagEnds, opened, closed, IsTag, start_tag}
use Rattle.rox_exchange.specs.Local.{Fronts}
use Rattle.rox_exchange.proofs.Cuts.{byte_cut, slice_cut, literal_cut}
use Rattle.rox_exchange.proofs.Fronts.{behind}
use Rattle.rox_exchange.proofs.CutsLexical.{space_cut, has_byte, has_other, qname_cut, eq_cut, reference_cut, reference_same, character_cut}
use Rattle.rox_exchange.proofs.Order.{qname_le, eq_lt, literal_lt, attribute_lt, attributes_le, tag_ends_lt}
use Rattle.rox_theory.proofs.Basics.{run_end_le}
use Rattle.rox_theory.proofs.LiteralLemmas.{from_here}

module _ (src to : List ℕ) (m : ℕ) (f : Fronts src to m) where
  -- A part.
  pub part_cut : (main : Bool) (j i : ℕ) (ss : List DataByte) → j ≤ m → Part main src j i ss → Part main to j i ss
  part_cut main j i ss fits part_ends = part_ends
  part_cut main j i ss fits (as_written _ rest lt no_amp is) =
      subst (λ (b : ℕ). Part main to j i (literal b ∷ rest)) (sym (byte_cut src to m f.same i (omega arith)))
      (as_written i rest lt (has_other src to m f 38 i (omega arith) no_amp) (part_cut main j (i + 1) rest fits is))
  part_cut main j i ss fits (from_reference _ n c rest is le more) =
      from_reference i n c rest (character_cut src to m f i c n (omega arith) is) le (part_cut main j n rest fits more)

  -- A value.
  pub value_cut : (main : Bool) (Includes : Inclusion) (j i b c : ℕ) (v : List ℕ) → j ≤ m → Value main Includes src j i b c v → Value main Includes to j i b c v
  value_cut main Includes j i b c v fits (value_ends _) = value_ends b
  value_cut main Includes j i b c v fits (line_end _ _ _ _ lt cr lf more) =
      line_end i b c v lt (has_byte src to m f 13 i (omega arith) cr) (has_byte src to m f 10 (i + 1) (omega arith) lf) (value_cut main Includes j (i + 1) b c v fits more)
  value_cut main Includes j i b c v fits (white _ _ _ w lt is more) =
      white i b c w lt (is_white lt is) (value_cut main Includes j (i + 1) b c w fits more)
    where
      is_white : i < j → (byte src i ≡ 9) ⊎ ((byte src i ≡ 10) ⊎ ((byte src i ≡ 13) × ((j ≡ i + 1) ⊎ (byte src (i + 1) ≢ 10))))
          → (byte to i ≡ 9) ⊎ ((byte to i ≡ 10) ⊎ ((byte to i ≡ 13) × ((j ≡ i + 1) ⊎ (byte to (i + 1) ≢ 10))))
      is_white lt (inl tab) = inl (has_byte src to m f 9 i (omega arith) tab)
      is_white lt (inr (inl line)) = inr (inl (has_byte src to m f 10 i (omega arith) line))
      is_white lt (inr (inr (cr, inl last))) = inr (inr (has_byte src to m f 13 i (omega arith) cr, inl last))
      is_white lt (inr (inr (cr, inr more))) =
          inr (grind (arith, common_steps))
  value_cut main Includes j i b c v fits (other _ _ _ w lt x₁ x₂ x₃ x₄ x₅ more) =
      let n : (b : ℕ) → byte src i ≢ b → byte to i ≢ b = λ b. has_other src to m f b i (omega arith) in
      subst (λ (x : ℕ). Value main Includes to j i b c (x ∷ w)) (sym (byte_cut src to m f.same i (omega arith)))
      (other i b c w lt (n 38 x₁) (n 9 x₂) (n 10 x₃) (n 13 x₄) (n 60 x₅) (value_cut main Includes j (i + 1) b c w fits more))
  value_cut main Includes j i b c v fits (a_character _ n x _ _ w is le allowed more) =
      a_character i n x b c w (character_cut src to m f i x n (omega arith) is) le allowed (value_cut main Includes j n b c w fits more)
  value_cut main Includes j i b c v fits (an_entity _ p _ d _ _ u w (entity_reference n is name) le opens more) =
      let same = reference_same src to m f i n p (omega arith) is in
      an_entity i p b d c _ u w (entity_reference n (reference_cut src to m f i n p (omega arith) is) (ap predefined (sym same) ∙ name)) le
      (subst (λ (bs : List ℕ). Includes.value bs b u d) same opens)
      (value_cut main Includes j p d c w fits more)

  -- A character begins after a literal.
  pub behind_literal : (i e j : ℕ) → j ≤ m → IsAttValue src i e j → IsCharBoundary (take m src) j
  behind_literal i e j fits is =
      let q = from_here (λ c. c == byte src i) src (i + 1) (omega arith) in
      let same : byte src e ≡ byte src i = eqb-true _ _ (subst (λ (x : ℕ). (byte src x == byte src i) ≡ true) (sym is.0.1) q) in
      let small : byte src i < 128 = elim is.0.0 as (λ s. byte src i < 128) [ inl one ↦ omega arith | inr two ↦ omega arith ] in
      subst (IsCharBoundary (take m src)) (sym is.0.3) (behind src to m f (byte src i) e (omega arith) same small)

  -- A pair ends in its quote.
  pub pair_cut : (i n v e j : ℕ) (name : Name) → IsCharBoundary (take m src) i → j ≤ m → IsPair src i name n v e j → IsPair to i name n v e j × IsCharBoundary (take m src) j
  pair_cut i n v e j name cut fits (is_name, eq, text) =
      let b = eq_lt src n v eq in
      let c = literal_lt src v e j text in
      let named = qname_cut src to m f i name n cut (omega arith) is_name in
      ((named.0, eq_cut src to m f n v named.1 (omega arith) eq, literal_cut src to m f.same v e j fits text), behind_literal v e j fits text)

  -- An attribute, and a character begins after it.
  pub attribute_cut : (main : Bool) (Includes : Inclusion) (i j b c : ℕ) (a : Attribute) → IsCharBoundary (take m src) i → j ≤ m → IsAttribute main Includes src i j b c a
      → IsAttribute main Includes to i j b c a × IsCharBoundary (take m src) j
  attribute_cut main Includes i j b c a cut fits (attribute n v e name value is read) =
      let lt = literal_lt src v e j is.2 in
      let there = pair_cut i n v e j name cut fits is in
      let same = slice_cut src to m f.same (v + 1) e (omega arith) (omega arith) in
      let of : Bool → Attribute = λ x. record { start = i; name_end = n; value_start = v + 1; end = j; name = name; value = value; borrowed = x } in
      let one = attribute n v e name value there.0 (value_cut main Includes e (v + 1) b c value (omega arith) read) in
      (subst (λ (x : Bool). IsAttribute main Includes to i j b c (of x)) (ap is_verbatim_value (sym same)) one, there.1)

  -- Attributes.
  pub attributes_cut : (main : Bool) (Includes : Inclusion) (i j b c : ℕ) (as' : List Attribute) → IsCharBoundary (take m src) i → j ≤ m → Attributes main Includes src i j b c as'
      → Attributes main Includes to i j b c as' × IsCharBoundary (take m src) j
  attributes_cut main Includes i j b c as' cut fits (no_more _ _) = (no_more i b, cut)
  attributes_cut main Includes i j b c as' cut fits (one_more _ n _ _ d _ a rest spaces is more) =
      let lt = attribute_lt src main Includes (spaces_end src i) n b d a is in
      let le = attributes_le src main Includes n j d c rest more in
      let s = space_cut src to m f i (spaces_end src i) cut (omega arith) refl in
      let one = attribute_cut main Includes (spaces_end src i) n b d a s.1 (omega arith) is in
      let others = attributes_cut main Includes n j d c rest one.1 fits more in
      (one_more i n j b d c a rest (omega arith) (subst (λ (x : ℕ). IsAttribute main Includes to x n b d a) s.0 one.0) others.0, others.1)

  -- The end of a tag.
  pub tag_ends_cut : (i : ℕ) (is_empty : Bool) (j : ℕ) → IsCharBoundary (take m src) i → j ≤ m → TagEnds src i is_empty j → TagEnds to i is_empty j
  tag_ends_cut i is_empty j cut fits (opened _ close) =
      let same = (space_cut src to m f i (spaces_end src i) cut (omega arith) refl).0 in
      subst (λ (x : ℕ). TagEnds to i false (x + 1)) (sym same)
      (opened i (ap (byte to) (sym same) ∙ has_byte src to m f 62 (spaces_end src i) (omega arith) close))
  tag_ends_cut i is_empty j cut fits (closed _ slash close) =
      let same = (space_cut src to m f i (spaces_end src i) cut (omega arith) refl).0 in
      subst (λ (x : ℕ). TagEnds to i true (x + 2)) (sym same)
      (closed i (ap (byte to) (sym same) ∙ has_byte src to m f 47 (spaces_end src i) (omega arith) slash)
      (ap (λ (x : ℕ). byte to (x + 1)) (sym same) ∙ has_byte src to m f 62 (spaces_end src i + 1) (omega arith) close))

  -- A tag.
  pub tag_cut : (main : Bool) (Includes : Inclusion) (i j b c : ℕ) (is_empty : Bool) (t : Tag) → j ≤ m → IsTag main Includes src i j b c is_empty t → IsTag main Includes to i j b c is_empty t
  tag_cut main Includes i j b c is_empty _ fits (start_tag n last name written begin is_name list end) =
      let le = qname_le src (i + 1) name n is_name in
      let le' = attributes_le src main Includes n last b c written list in
      let lt = tag_ends_lt src last is_empty j end in
      let lt' = run_end_le is_space src last in
      let q = qname_cut src to m f (i + 1) name n (behind src to m f 60 i (omega arith) begin (omega arith)) (omega arith) is_name in
      let a = attributes_cut main Includes n last b c written q.1 (omega arith) list in
      start_tag n last name written (has_byte src to m f 60 i (omega arith) begin) q.0 a.0 (tag_ends_cut last is_empty j a.1 fits end)
