-- Character data, values, attributes and tags stand wherever the same bytes follow.
use Rattle.std.proofs.Common.{◌≡◌, ◌≢◌, ℕ, ◌+◌, ◌<◌, ◌⊎◌, Bool, true, false, List, [], ◌∷◌, map, refl, sym, ap, ◌∙◌, subst, arith, inl, inr}
use Rattle.rox_grammar.specs.Written.{Attribute, Tag, namespace_decls_of, plain_attributes_of}
use Rattle.rox_grammar.specs.Names.{byte, spaces_end}
use Rattle.rox_grammar.specs.References.{predefined, entity_reference}
use Rattle.rox_grammar.specs.Content.{Inclusion, DataByte, literal, Part, part_ends, as_written, from_reference, Value, value_ends, line_end, white, other, a_character, an_entity, is_verbatim_value, IsAttribute, Attributes, no_more, one_more, TagEnds, opened, closed, IsTag, start_tag}
use Rattle.rox_grammar.proofs.TagParts.{tag_of}
use Rattle.rox_grammar.specs.Exchange.{Move, moved}
use Rattle.rox_theory.proofs.AttributeParts.{parts_of, from_parts}
use Rattle.rox_exchange.specs.Local.{Follows, moved_written, moved_tag}
use Rattle.rox_exchange.proofs.Follows.{on, lands, from, byte_moves, slice_moves}
use Rattle.rox_exchange.proofs.MovesLexical.{space_end, byte_is, byte_not, qname_moves, eq_moves, reference_moves, reference_name, character_moves, literal_moves}
use Rattle.rox_exchange.proofs.Order.{qname_le, eq_lt, literal_lt, character_lt, reference_lt, attribute_lt, attributes_le}
use Rattle.rox_theory.proofs.Productions.{reference_parts}

-- Attributes that move declare what they declared.
pub declarations_move : (m : Move) (as' : List Attribute) → namespace_decls_of (map (moved_written m) as') ≡ namespace_decls_of as'
declarations_move m [] = refl
declarations_move m (a ∷ as') = grind (arith, declarations_move m as')

-- And the others are the others.
pub attributes_move : (m : Move) (as' : List Attribute) → plain_attributes_of (map (moved_written m) as') ≡ map (moved_written m) (plain_attributes_of as')
attributes_move m [] = refl
attributes_move m (a ∷ as') = grind (arith, attributes_move m as')

module _ (m : Move) (src to : List ℕ) where
  -- A part.
  pub part_moves : (main : Bool) (j i k : ℕ) (ss : List DataByte) → Follows m src i to k → Part main src j i ss → Part main to (moved m j) k ss
  part_moves main j i k ss f part_ends = subst (λ (x : ℕ). Part main to (moved m i) x []) (lands m src to i k f) part_ends
  part_moves main j i k ss f (as_written _ rest lt no_amp is) =
      subst (λ (b : ℕ). Part main to (moved m j) k (literal b ∷ rest)) (sym (byte_moves m src to i k f))
      (as_written k rest (omega arith) (byte_not m src to 38 i k f no_amp) (part_moves main j (i + 1) (k + 1) rest (on m src to i k 1 f) is))
  part_moves main j i k ss f (from_reference _ n c rest is le more) =
      let lt = character_lt src i c n is in
      from_reference k (moved m n) c rest (character_moves m src to i k c n f is) (omega arith) (part_moves main j n (moved m n) rest (from m src to i k n (omega arith) f) more)

  -- A value.
  pub value_moves : (main : Bool) (Includes : Inclusion) (j i k b c : ℕ) (v : List ℕ) → Follows m src i to k → Value main Includes src j i b c v → Value main Includes to (moved m j) k b c v
  value_moves main Includes j i k b c v f (value_ends _) = subst (λ (x : ℕ). Value main Includes to (moved m i) x b b []) (lands m src to i k f) (value_ends b)
  value_moves main Includes j i k b c v f (line_end _ _ _ _ lt cr lf more) =
      let g = on m src to i k 1 f in
      line_end k b c v (omega arith) (byte_is m src to 13 i k f cr) (byte_is m src to 10 (i + 1) (k + 1) g lf) (value_moves main Includes j (i + 1) (k + 1) b c v g more)
  value_moves main Includes j i k b c v f (white _ _ _ w lt is more) =
      white k b c w (omega arith) (is_white i k f lt is) (value_moves main Includes j (i + 1) (k + 1) b c w (on m src to i k 1 f) more)
    where
      is_white : (i k : ℕ) → Follows m src i to k → i < j → (byte src i ≡ 9) ⊎ ((byte src i ≡ 10) ⊎ ((byte src i ≡ 13) × ((j ≡ i + 1) ⊎ (byte src (i + 1) ≢ 10))))
          → (byte to k ≡ 9) ⊎ ((byte to k ≡ 10) ⊎ ((byte to k ≡ 13) × ((moved m j ≡ k + 1) ⊎ (byte to (k + 1) ≢ 10))))
      is_white i k f lt (inl tab) = inl (byte_is m src to 9 i k f tab)
      is_white i k f lt (inr (inl line)) = inr (inl (byte_is m src to 10 i k f line))
      is_white i k f lt (inr (inr (cr, inl last))) = let at = f.at in inr (inr (byte_is m src to 13 i k f cr, inl (omega arith)))
      is_white i k f lt (inr (inr (cr, inr more))) = inr (inr (byte_is m src to 13 i k f cr, inr (byte_not m src to 10 (i + 1) (k + 1) (on m src to i k 1 f) more)))
  value_moves main Includes j i k b c v f (other _ _ _ w lt x₁ x₂ x₃ x₄ x₅ more) =
      let n : (b : ℕ) → byte src i ≢ b → byte to k ≢ b = λ b. byte_not m src to b i k f in
      subst (λ (x : ℕ). Value main Includes to (moved m j) k b c (x ∷ w)) (sym (byte_moves m src to i k f))
      (other k b c w (omega arith) (n 38 x₁) (n 9 x₂) (n 10 x₃) (n 13 x₄) (n 60 x₅) (value_moves main Includes j (i + 1) (k + 1) b c w (on m src to i k 1 f) more))
  value_moves main Includes j i k b c v f (a_character _ n x _ _ w is le allowed more) =
      let lt = character_lt src i x n is in
      a_character k (moved m n) x b c w (character_moves m src to i k x n f is) (omega arith) allowed (value_moves main Includes j n (moved m n) b c w (from m src to i k n (omega arith) f) more)
  value_moves main Includes j i k b c v f (an_entity _ p _ d _ _ u w (entity_reference n is name) le opens more) =
      let next = (reference_parts is).next in
      let lt = reference_lt src i n p is in
      let same = reference_name m src to i k n p f is in
      an_entity k (moved m p) b d c _ u w (entity_reference (moved m n) (reference_moves m src to i k n p f is) (ap predefined (sym same) ∙ name)) (omega arith)
      (subst (λ (bs : List ℕ). Includes.value bs b u d) same opens)
      (value_moves main Includes j p (moved m p) d c w (from m src to i k p (omega arith) f) more)

  -- An attribute.
  pub attribute_moves : (main : Bool) (Includes : Inclusion) (i k j b c : ℕ) (a : Attribute) → Follows m src i to k → IsAttribute main Includes src i j b c a → IsAttribute main Includes to k (moved m j) b c (moved_written m a)
  attribute_moves main Includes i k j b c a f there =
      let is = parts_of main Includes src i j b c a there in
      let n = qname_le src i a.name a.name_end is.is_name in
      let v = eq_lt src a.name_end is.v is.eq in
      let e = literal_lt src is.v is.e j is.literal in
      let g = from m src to i k a.name_end n f in
      let h = from m src to i k is.v (omega arith) f in
      let h' = on m src to is.v (moved m is.v) 1 h in
      from_parts main Includes to k (moved m j) b c (moved_written m a)
      (record {
        starts = omega arith;
        is_name = qname_moves m src to i k a.name a.name_end f is.is_name;
        v = moved m is.v;
        eq = eq_moves m src to a.name_end (moved m a.name_end) is.v g is.eq;
        e = moved m is.e;
        literal = literal_moves m src to is.v (moved m is.v) is.e j h is.literal;
        value_start = omega arith;
        end = ap (moved m) is.end;
        value = value_moves main Includes is.e (is.v + 1) (moved m is.v + 1) b c a.value h' is.value;
        borrowed = is.borrowed ∙ ap is_verbatim_value (slice_moves m src to (is.v + 1) (moved m is.v + 1) is.e (omega arith) h');
      })

  -- Attributes.
  pub attributes_go : (main : Bool) (Includes : Inclusion) (i k j b c : ℕ) (as' : List Attribute) → Follows m src i to k → Attributes main Includes src i j b c as' → Attributes main Includes to k (moved m j) b c (map (moved_written m) as')
  attributes_go main Includes i k j b c as' f (no_more _ _) = subst (λ (x : ℕ). Attributes main Includes to k x b b []) (sym (lands m src to i k f)) (no_more k b)
  attributes_go main Includes i k j b c as' f (one_more _ n _ _ d _ a rest spaces is more) =
      let s = space_end m src to i k f in
      let lt = attribute_lt src main Includes (spaces_end src i) n b d a is in
      one_more k (moved m n) (moved m j) b d c (moved_written m a) (map (moved_written m) rest) (omega arith)
      (attribute_moves main Includes (spaces_end src i) (spaces_end to k) n b d a s is)
      (attributes_go main Includes n (moved m n) j d c rest (from m src to i k n (omega arith) f) more)

  -- The end of a tag.
  pub tag_ends_move : (i k : ℕ) (is_empty : Bool) (j : ℕ) → Follows m src i to k → TagEnds src i is_empty j → TagEnds to k is_empty (moved m j)
  tag_ends_move i k is_empty j f (opened _ close) =
      let s = space_end m src to i k f in
      subst (λ (x : ℕ). TagEnds to k false x) (omega arith) (opened k (byte_is m src to 62 (spaces_end src i) (spaces_end to k) s close))
  tag_ends_move i k is_empty j f (closed _ slash close) =
      let s = space_end m src to i k f in
      subst (λ (x : ℕ). TagEnds to k true x) (omega arith)
      (closed k (byte_is m src to 47 (spaces_end src i) (spaces_end to k) s slash) (byte_is m src to 62 (spaces_end src i + 1) (spaces_end to k + 1) (on m src to (spaces_end src i) (spaces_end to k) 1 s) close))

  -- A tag.
  pub tag_moves : (main : Bool) (Includes : Inclusion) (i k j b c : ℕ) (is_empty : Bool) (t : Tag) → Follows m src i to k → IsTag main Includes src i j b c is_empty t → IsTag main Includes to k (moved m j) b c is_empty (moved_tag m t)
  tag_moves main Includes i k j b c is_empty _ f (start_tag n last name written begin is_name list end) =
      let q = qname_le src (i + 1) name n is_name in
      let a = attributes_le src main Includes n last b c written list in
      tag_of (record {
        begins = byte_is m src to 60 i k f begin;
        is_name = qname_moves m src to (i + 1) (k + 1) name n (on m src to i k 1 f) is_name;
        written = map (moved_written m) written;
        last = moved m last;
        attributes = attributes_go main Includes n (moved m n) last b c written (from m src to i k n (omega arith) f) list;
        ends = tag_ends_move last (moved m last) is_empty j (from m src to i k last (omega arith) f) end;
        declares = sym (declarations_move m written);
        has = sym (attributes_move m written);
      })
