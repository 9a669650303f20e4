-- How large what a reference opens can be, by the number of texts that are opened.
use Rattle.std.proofs.Common.{arith, subst, sym, ◌∙◌, length-append}
use Rattle.std.specs.Prelude.{◌≡◌, ◌==◌, ℕ, zero, suc, ◌+◌, ◌-◌, ◌*◌, ◌≤◌, not, max, Bool, true, false, List, [], ◌∷◌, Some, length, if◌then◌else◌, bytes_eq}
use Rattle.std.specs.List.{list_any}
use Rattle.rox_grammar.specs.Forest.{Forest, Nil}
use Rattle.rox_grammar.specs.Written.{Item, Text, Attribute, Tag, leaf, merge}
use Rattle.rox_grammar.specs.Names.{slice, spaces_end}
use Rattle.rox_grammar.specs.References.{entity_reference}
use Rattle.rox_grammar.specs.Content.{Inclusion, DataByte, line_ends, literals, is_verbatim, piece, value_bytes, last_part, then_entity, Value, value_ends, line_end, white, other, a_character, an_entity, Attributes, no_more, one_more, attribute, IsTag, IsMisc, IsElement, empty, nest, Content, ends, run, cdata, misc, node, start_tag}
use Rattle.rox_grammar.proofs.RunParts.{Parts}
use Rattle.rox_grammar.specs.Entities.{Replacement, Entity, text_of}
use Rattle.rox_grammar.specs.Expansion.{Counts, longest}
use Rattle.rox_grammar.proofs.FirstEntity.{text_of_first}
use Rattle.rox_theory.proofs.Onward.{ends_shorten, signs_length, slice_short, reference_onward, value_char, part_bytes, qname_onward, eq_onward, tag_end_onward, end_onward, misc_onward, section_onward}
use Rattle.rox_theory.proofs.Measures.{Measure, most_of, fewer}

module _ (of : Forest Item → ℕ) (is_measure : Measure of) where
  -- The text of a part.
  pub piece_most : (i j : ℕ) (borrowed : Bool) (ss : List DataByte) → of (piece i j borrowed ss) ≤ length ss
  piece_most i j borrowed [] = let h = is_measure.none in omega (arith, h)
  piece_most i j borrowed (s ∷ ss) = is_measure.text i j (line_ends (s ∷ ss)) borrowed (length (s ∷ ss)) (omega arith) (ends_shorten (s ∷ ss))

  -- A section's, of so many bytes.
  pub section_most : (src : List ℕ) (i e j : ℕ) (borrowed : Bool) → i + 9 ≤ e → of (leaf (Text i j (line_ends (literals (slice src (i + 9) e))) borrowed)) + i ≤ e
  section_most src i e j borrowed h =
      let a = ends_shorten (literals (slice src (i + 9) e)) in
      let s = signs_length false (slice src (i + 9) e) in
      let t = is_measure.text i j (line_ends (literals (slice src (i + 9) e))) borrowed (e - i) (omega (arith, h)) (omega (arith, h, a, s, (slice_short src (i + 9) e))) in
      omega (arith, t, h)

  pub misc_most : (src : List ℕ) (i j : ℕ) (item : Item) → IsMisc src i j item → of (leaf item) + i ≤ j
  misc_most src i j item h = grind (arith, misc_onward)

-- No text opens more than this for each opening, where r is the length of the longest.
pub record Weighs (of : Forest Item → ℕ) (O : Inclusion) (r : ℕ) : Type 0 where
  pub content : (name : List ℕ) (b : ℕ) (items : Forest Item) (c : ℕ) → O.content name b items c → of items + b * r ≤ c * r
  pub value : (name : List ℕ) (b : ℕ) (v : List ℕ) (c : ℕ) → O.value name b v c → length v + b * r ≤ c * r

module _ (of : Forest Item → ℕ) (is_measure : Measure of) (main : Bool) (O : Inclusion) (r : ℕ) (weighs : Weighs of O r) (src : List ℕ) where
  parts_weigh : (start stop i b c : ℕ) (items : Forest Item) → Parts main O src start stop i b c items → of items + i + b * r ≤ stop + c * r
  parts_weigh start stop i b c items (last_part _ _ ss part) = grind (arith, part_bytes main src stop i ss part, piece_most of is_measure start stop (is_verbatim (slice src start stop)) ss)
  parts_weigh start stop i b d items (then_entity _ p j _ c _ _ ss front more part (entity_reference n reference name) opens rest) = grind (arith, part_bytes main src p i ss part, piece_most of is_measure start stop false ss, reference_onward src p n j reference, parts_weigh start stop j c d more rest)

  value_weighs : (j i b c : ℕ) (v : List ℕ) → Value main O src j i b c v → length v + i + b * r ≤ j + c * r
  value_weighs j i b c v (value_ends _) = omega arith
  value_weighs j i b c v (line_end _ _ _ _ more cr lf rest) = let h = value_weighs j (i + 1) b c v rest in omega (arith, h)
  value_weighs j i b c v (white _ _ _ w more is rest) = let h = value_weighs j (i + 1) b c w rest in omega (arith, h)
  value_weighs j i b c v (other _ _ _ w more x₁ x₂ x₃ x₄ x₅ rest) = let h = value_weighs j (i + 1) b c w rest in omega (arith, h)
  value_weighs j i b c v (a_character _ n z _ _ w is within allowed rest) = grind (arith, value_weighs j n b c w rest, value_char main src i z n is, length-append (value_bytes main z) w)
  value_weighs j i b d v (an_entity _ k _ c _ _ u w (entity_reference n is name) within opens rest) = grind (arith, value_weighs j k c d w rest, reference_onward src i n k is, length-append u w)

  attributes_weigh : (i k b c : ℕ) (as' : List Attribute) → Attributes main O src i k b c as' → most_of as' + i + b * r ≤ k + c * r
  attributes_weigh i k b c as' (no_more _ _) = omega arith
  attributes_weigh i k b d as' (one_more _ j _ _ c _ _ rest spaces (attribute m v e name value is read) more) = grind (arith, value_weighs e (v + 1) b c value read, qname_onward src (spaces_end src i) m name is.0, eq_onward src m v is.1, attributes_weigh j k c d rest more)

  tag_weighs : (i j b c : ℕ) (is_empty : Bool) (t : Tag) → IsTag main O src i j b c is_empty t → 1 + most_of t.attributes + i + b * r ≤ j + c * r
  tag_weighs i j b c is_empty _ (start_tag n last name written begin is_name list end) = grind (arith, attributes_weigh, qname_onward, tag_end_onward, fewer)

  mutual
    element_weighs : (i j b c : ℕ) (one : Forest Item) → IsElement main O src i j b c one → of one + i + b * r ≤ j + c * r
    element_weighs i j b c one (empty _ _ _ _ t is) =
        let h = tag_weighs i j b c true t is in
        let g = is_measure.element i j t Nil in
        let z = is_measure.none in
        omega (arith, h, g, z)
    element_weighs i j b d one (nest _ k m p _ _ c _ t kids is inner end) =
        let h = tag_weighs i k b c false t is in
        let x = content_weighs k m c d kids inner in
        let e = end_onward src m t.name p j end in
        let g = is_measure.merged kids in
        let u = is_measure.element i j t (merge kids) in
        omega (arith, h, x, e, g, u)

    pub content_weighs : (i l b c : ℕ) (items : Forest Item) → Content main O src i l b c items → of items + i + b * r ≤ l + c * r
    content_weighs i l b c items (ends _ _) = let h = is_measure.none in omega (arith, h)
    content_weighs i l b d items (run _ j _ _ c _ front more is parts rest) =
        let x = parts_weigh i j i b c front parts in
        let y = content_weighs j l c d more rest in
        let e = is_measure.joined front more in
        omega (arith, x, y, e)
    content_weighs i l b c items (cdata _ e j _ _ _ more is rest) =
        let y = content_weighs j l b c more rest in
        let h = section_onward src i e j is in
        let t = section_most of is_measure src i e j (not (list_any (λ b. b == 13) (slice src (i + 9) e))) h.0 in
        let f = is_measure.joined (leaf (Text i j (line_ends (literals (slice src (i + 9) e))) (not (list_any (λ b. b == 13) (slice src (i + 9) e))))) more in
        omega (arith, y, h.1, t, f)
    content_weighs i l b c items (misc _ j _ _ _ item more is rest) =
        let y = content_weighs j l b c more rest in
        let h = misc_most of is_measure src i j item is in
        let f = is_measure.joined (leaf item) more in
        omega (arith, y, h, f)
    content_weighs i l b d items (node _ j _ _ c _ one more is rest) =
        let x = element_weighs i j b c one is in
        let y = content_weighs j l c d more rest in
        let e = is_measure.joined one more in
        omega (arith, x, y, e)

-- ---- what a reference opens

longest_is : (es : List Entity) (name : List ℕ) (t : Replacement) → text_of es name ≡ Some t → length t.source - t.start ≤ longest es
longest_is [] name t h = cc h
longest_is (e ∷ es) name t h = at_test (bytes_eq e.name name) (longest_is es name t) (sym (text_of_first e es name) ∙ h)
  where
    at_test : (b : Bool) → (text_of es name ≡ Some t → length t.source - t.start ≤ longest es) → (if b then Some e.text else text_of es name) ≡ Some t → length t.source - t.start ≤ max (length e.text.source - e.text.start) (longest es)
    at_test true more h = let same : e.text ≡ t = cc h in subst (λ (x : Replacement). length x.source - x.start ≤ max (length e.text.source - e.text.start) (longest es)) same (omega arith)
    at_test false more h = let k = more h in omega (arith, k)

pub more_times : (b r : ℕ) → (b + 1) * r ≡ b * r + r
more_times b r = omega arith

-- Within replacement texts: as much as the longest text has bytes, for each that is opened.
pub counts_weigh : (of : Forest Item → ℕ) → Measure of → (es : List Entity) (d : ℕ) → Weighs of (Counts es d) (longest es)
counts_weigh of is_measure es zero = record { content = λ name b items c h. absurd h; value = λ name b v c h. absurd h }
counts_weigh of is_measure es (suc d) =
    let inner = counts_weigh of is_measure es d in
    record {
      content = λ name b items c (t, found, is).
          let x = content_weighs of is_measure false (Counts es d) (longest es) inner t.source t.start (length t.source) (b + 1) c items is in
          omega (arith, x, (longest_is es name t found), (more_times b (longest es)));
      value = λ name b v c (t, found, chars, is). grind (arith, value_weighs of is_measure false (Counts es d) (longest es) inner t.source (length t.source) t.start (b + 1) c v is, longest_is es name t found);
    }
