-- At most one start tag is at a place, whatever the limits are, where as many texts may be opened.
use Rattle.std.proofs.Common.{◌≡◌, ℕ, ◌<◌, Bool, List, Ok, refl, sym, ap, subst, arith, IsUtf8}
use Rattle.rox_grammar.specs.Written.{Attribute, Tag}
use Rattle.rox_grammar.specs.Names.{spaces_end}
use Rattle.rox_grammar.specs.Content.{Inclusion, IsAttribute, Attributes, no_more, one_more, TagEnds, IsTag, start_tag}
use Rattle.rox_reading.specs.Markup.{RawAttribute, TagItem, more, opened, closed, tag_item_at}
use Rattle.rox_reading.specs.Tags.{Values}
use Rattle.rox_theory.specs.Openers.{AgreesValue}
use Rattle.rox_theory.proofs.FailedReadings.{ok_one}
use Rattle.rox_theory.proofs.NameLemmas.{qname_complete}
use Rattle.rox_theory.proofs.AttributeLemmas.{AttributeReads, attribute_complete, more_complete, end_complete}

-- The attribute of a turn, or another.
raw_of : RawAttribute → TagItem → RawAttribute
raw_of raw (more r) = r
raw_of raw opened = raw
raw_of raw closed = raw

-- A turn holds one attribute.
pub same_more : (r s : RawAttribute) → more r ≡ more s → r ≡ s
unfolding raw_of
same_more r s e = ap (raw_of r) e

module _ (context : Values) (O : Inclusion) (agrees : AgreesValue context.entities O context.opener) (src : List ℕ) (utf8 : IsUtf8 src) where
  abbrev pub Reads : ℕ → ℕ → ℕ → ℕ → Attribute → Type 0
  Reads i j b c a = AttributeReads context O agrees src utf8 i j b c a

  -- A turn of a tag that is an attribute.
  pub turn_is : (i j b c : ℕ) (a : Attribute) → IsAttribute context.main O src (spaces_end src i) j b c a → (spaces : i < spaces_end src i)
      → (r : Reads (spaces_end src i) j b c a) × (tag_item_at src i ≡ Ok (more r.0, j))
  turn_is i j b c a is spaces =
      let r = attribute_complete context O agrees src utf8 (spaces_end src i) j b c a is in
      (r, more_complete src i j r.0 spaces r.2)

  -- An attribute is read in one way.
  pub one_attribute : (j k i b c d : ℕ) (a e : Attribute) → (r : Reads i j b c a) → (s : Reads i k b d e) → r.0 ≡ s.0 → (a ≡ e) × (c ≡ d)
  one_attribute j k i b c d a e r s same = grind arith

  -- The attributes, and the end of their tag.
  one_list : (i l m j k b c d : ℕ) (as' bs : List Attribute) (x y : Bool) → Attributes context.main O src i l b c as' → Attributes context.main O src i m b d bs → TagEnds src l x j → TagEnds src m y k
      → (as' ≡ bs) × (j ≡ k) × (x ≡ y) × (c ≡ d)
  one_list i l m j k b c d as' bs x y (no_more _ _) (no_more _ _) end end' = grind (arith, end_complete)
  one_list i l m j k b c d as' bs x y (no_more _ _) (one_more _ n _ _ f _ a rest spaces is others) end end' = grind (arith, turn_is, end_complete)
  one_list i l m j k b c d as' bs x y (one_more _ n _ _ f _ a rest spaces is others) (no_more _ _) end end' = grind (arith, turn_is, end_complete)
  one_list i l m j k b c d as' bs x y (one_more _ n _ _ f _ a rest spaces is others) (one_more _ o _ _ g _ a' rest' spaces' is' others') end end' =
      let turn = turn_is i n b f a is spaces in
      let turn' = turn_is i o b g a' is' spaces' in
      let same = ok_one (more turn.0.0, n) (more turn'.0.0, o) (tag_item_at src i) turn.1 turn'.1 in
      let one = one_attribute n o (spaces_end src i) b f g a a' turn.0 turn'.0 (same_more turn.0.0 turn'.0.0 (ap (λ (p : TagItem × ℕ). p.0) same)) in
      let at : o ≡ n = sym (ap (λ (p : TagItem × ℕ). p.1) same) in
      let others'' : Attributes context.main O src n m f d rest' = subst (λ (p : ℕ). Attributes context.main O src p m f d rest') at (subst (λ (f : ℕ). Attributes context.main O src o m f d rest') (sym one.1) others') in
      let next = one_list n l m j k f c d rest rest' x y others others'' end end' in
      (rw (one.0, next.0) refl, next.1, next.2, next.3)

  -- A tag is read in one way, and as many texts may be opened after it.
  pub tag_once : (i j k b c d : ℕ) (s t : Tag) (x y : Bool) → IsTag context.main O src i j b c x s → IsTag context.main O src i k b d y t → (j ≡ k) × (c ≡ d) × (x ≡ y) × (s ≡ t)
  tag_once i j k b c d _ _ x y (start_tag n last name written begin is_name list end) (start_tag n' last' name' written' begin' is_name' list' end') = grind (arith, qname_complete, one_list)

  pub one_tag : (i j k b c d : ℕ) (s t : Tag) (x y : Bool) → IsTag context.main O src i j b c x s → IsTag context.main O src i k b d y t → (j ≡ k) × (s ≡ t) × (x ≡ y)
  one_tag i j k b c d s t x y p q = let once = tag_once i j k b c d s t x y p q in (once.0, once.3, once.2)
