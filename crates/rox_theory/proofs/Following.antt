-- What one opener opens, another does; so it is known how many replacement texts a reference opens, and that a text in which no
-- entity is declared opens none.
use Rattle.std.proofs.Common.{arith, ◌∙◌}
use Rattle.std.specs.Prelude.{◌≡◌, ℕ, zero, suc, ◌+◌, ◌≤◌, Bool, true, false, List, [], length, refl}
use Rattle.rox_grammar.specs.Forest.{Forest}
use Rattle.rox_grammar.specs.Written.{Item, Attribute, Tag}
use Rattle.rox_grammar.specs.References.{entity_reference}
use Rattle.rox_grammar.specs.Content.{Inclusion, last_part, then_entity, Value, value_ends, line_end, white, other, a_character, an_entity, Attributes, no_more, one_more, attribute, IsTag, IsElement, empty, nest, Content, ends, run, cdata, misc, node, start_tag}
use Rattle.rox_grammar.proofs.RunParts.{Parts}
use Rattle.rox_grammar.specs.Entities.{Entity, Includes, most_deep, no_entities, included_in_main}
use Rattle.rox_grammar.specs.Expansion.{Counts}

-- What the one opens the other does, and the openings that the one takes the other counts.
pub record Follows (O P : Inclusion) : Type 0 where
  pub content : (name : List ℕ) (b : ℕ) (items : Forest Item) (c : ℕ) → O.content name b items c → (m : ℕ) → (n : ℕ) × P.content name m items n × (m + b ≡ n + c)
  pub value : (name : List ℕ) (b : ℕ) (v : List ℕ) (c : ℕ) → O.value name b v c → (m : ℕ) → (n : ℕ) × P.value name m v n × (m + b ≡ n + c)

module _ (main : Bool) (O P : Inclusion) (follows : Follows O P) (src : List ℕ) where
  parts_count : (start stop i b c : ℕ) (items : Forest Item) → Parts main O src start stop i b c items → (m : ℕ) → (n : ℕ) × Parts main P src start stop i m n items × (m + b ≡ n + c)
  parts_count start stop i b c items (last_part _ _ ss part) m = (m, last_part i m ss part, refl)
  parts_count start stop i b d items (then_entity _ p j _ c _ _ ss front more part (entity_reference n reference name) opened rest) m =
      let x = follows.content _ b front c opened m in
      let y = parts_count start stop j c d more rest x.0 in
      (y.0, then_entity i p j m x.0 y.0 _ ss front more part (entity_reference n reference name) x.1 y.1, x.2 ∙ y.2)

  value_count : (j i b c : ℕ) (v : List ℕ) → Value main O src j i b c v → (m : ℕ) → (n : ℕ) × Value main P src j i m n v × (m + b ≡ n + c)
  value_count j i b c v (value_ends _) m = (m, value_ends m, refl)
  value_count j i b c v (line_end _ _ _ _ more cr lf rest) m = let x = value_count j (i + 1) b c v rest m in (x.0, line_end i m x.0 v more cr lf x.1, x.2)
  value_count j i b c v (white _ _ _ w more is rest) m = let x = value_count j (i + 1) b c w rest m in (x.0, white i m x.0 w more is x.1, x.2)
  value_count j i b c v (other _ _ _ w more x₁ x₂ x₃ x₄ x₅ rest) m = let x = value_count j (i + 1) b c w rest m in (x.0, other i m x.0 w more x₁ x₂ x₃ x₄ x₅ x.1, x.2)
  value_count j i b c v (a_character _ n z _ _ w is within allowed rest) m = let x = value_count j n b c w rest m in (x.0, a_character i n z m x.0 w is within allowed x.1, x.2)
  value_count j i b d v (an_entity _ k _ c _ _ u w (entity_reference n is name) within opened rest) m =
      let x = follows.value _ b u c opened m in
      let y = value_count j k c d w rest x.0 in
      (y.0, an_entity i k m x.0 y.0 _ u w (entity_reference n is name) within x.1 y.1, x.2 ∙ y.2)

  attributes_count : (i k b c : ℕ) (as' : List Attribute) → Attributes main O src i k b c as' → (m : ℕ) → (n : ℕ) × Attributes main P src i k m n as' × (m + b ≡ n + c)
  attributes_count i k b c as' (no_more _ _) m = (m, no_more i m, refl)
  attributes_count i k b d as' (one_more _ j _ _ c _ _ rest spaces (attribute n v e name value is read) more) m =
      let x = value_count e (v + 1) b c value read m in
      let y = attributes_count j k c d rest more x.0 in (
        y.0,
        one_more i j k m x.0 y.0 _ rest spaces (attribute n v e name value is x.1) y.1,
        x.2 ∙ y.2,
      )

  tag_count : (i j b c : ℕ) (is_empty : Bool) (t : Tag) → IsTag main O src i j b c is_empty t → (m : ℕ) → (n : ℕ) × IsTag main P src i j m n is_empty t × (m + b ≡ n + c)
  tag_count i j b c is_empty _ (start_tag n last name written begin is_name list end) m =
      let x = attributes_count n last b c written list m in (x.0, start_tag n last name written begin is_name x.1 end, x.2)

  mutual
    pub element_count : (i j b c : ℕ) (one : Forest Item) → IsElement main O src i j b c one → (m : ℕ) → (n : ℕ) × IsElement main P src i j m n one × (m + b ≡ n + c)
    element_count i j b c one (empty _ _ _ _ t is) m = let x = tag_count i j b c true t is m in (x.0, empty i j m x.0 t x.1, x.2)
    element_count i j b d one (nest _ k l p _ _ c _ t kids is inner end) m =
        let x = tag_count i k b c false t is m in
        let y = content_count k l c d kids inner x.0 in
        (y.0, nest i k l p j m x.0 y.0 t kids x.1 y.1 end, x.2 ∙ y.2)

    pub content_count : (i l b c : ℕ) (items : Forest Item) → Content main O src i l b c items → (m : ℕ) → (n : ℕ) × Content main P src i l m n items × (m + b ≡ n + c)
    content_count i l b c items (ends _ _) m = (m, ends i m, refl)
    content_count i l b d items (run _ j _ _ c _ front more is parts rest) m =
        let x = parts_count i j i b c front parts m in
        let y = content_count j l c d more rest x.0 in
        (y.0, run i j l m x.0 y.0 front more is x.1 y.1, x.2 ∙ y.2)
    content_count i l b c items (cdata _ e j _ _ _ more is rest) m = let x = content_count j l b c more rest m in (x.0, cdata i e j l m x.0 more is x.1, x.2)
    content_count i l b c items (misc _ j _ _ _ item more is rest) m = let x = content_count j l b c more rest m in (x.0, misc i j l m x.0 item more is x.1, x.2)
    content_count i l b d items (node _ j _ _ c _ one more is rest) m =
        let x = element_count i j b c one is m in
        let y = content_count j l c d more rest x.0 in
        (y.0, node i j l m x.0 y.0 one more x.1 y.1, x.2 ∙ y.2)

-- Within replacement texts, at most so many within one another.
pub follows_within : (es : List Entity) (d : ℕ) → Follows (Includes es d false) (Counts es d)
follows_within es zero = record { content = λ name b items c h. absurd h; value = λ name b v c h. absurd h }
follows_within es (suc d) =
    let inner = follows_within es d in
    record {
      content = λ name b items c (t, r, l, found, (before, after), is) m.
          let x = content_count false (Includes es d false) (Counts es d) inner t.source t.start (length t.source) r l items is (m + 1) in
          (x.0, (t, found, x.1), omega (arith, x.2, before, after));
      value = λ name b v c (t, r, l, found, (before, after), chars, is) m. grind (arith, value_count false (Includes es d false) (Counts es d) inner t.source (length t.source) t.start r l v is (m + 1));
    }

-- A reference outside replacement texts opens at most 256 of them, at most ten within one another.
pub few_opened : (es : List Entity) (name : List ℕ) (b c : ℕ) (items : Forest Item) → (Includes es most_deep true).content name b items c
    → (n : ℕ) × (Counts es most_deep).content name 0 items n × (n ≤ 256)
few_opened es name b c items (t, r, l, found, (all, same), is) =
    let x = content_count false (Includes es 9 false) (Counts es 9) (follows_within es 9) t.source t.start (length t.source) r l items is 1 in
    (x.0, (t, found, x.1), omega (arith, x.2, all))

-- So does one in a value.
pub few_opened_in_value : (es : List Entity) (name : List ℕ) (b c : ℕ) (v : List ℕ) → (Includes es most_deep true).value name b v c
    → (n : ℕ) × (Counts es most_deep).value name 0 v n × (n ≤ 256)
few_opened_in_value es name b c v (t, r, l, found, (all, same), chars, is) = grind (arith, value_count false (Includes es 9 false) (Counts es 9) (follows_within es 9) t.source (length t.source) t.start r l v is 1)

-- ---- where nothing is declared

-- Where nothing is declared nothing is opened.
pub follows_nothing : (d : ℕ) (main : Bool) → Follows (Includes [] d main) no_entities
follows_nothing d main = grind arith

pub element_without : (src : List ℕ) (i j b c : ℕ) (one : Forest Item) → IsElement true (included_in_main []) src i j b c one → (n : ℕ) × IsElement true no_entities src i j b n one
element_without src i j b c one is = let x = element_count true (included_in_main []) no_entities (follows_nothing most_deep true) src i j b c one is b in (x.0, x.1)

-- And the other way round.
pub follows_any : (O : Inclusion) → Follows no_entities O
follows_any O = record { content = λ name b items c h. absurd h; value = λ name b v c h. absurd h }

-- Where nothing is opened the openings that are left are any.

pub value_free : (main : Bool) (src : List ℕ) (j i b c : ℕ) (v : List ℕ) → Value main no_entities src j i b c v → (d : ℕ) → Value main no_entities src j i d d v
value_free main src j i b c v (value_ends _) d = value_ends d
value_free main src j i b c v (line_end _ _ _ _ more cr lf rest) d = line_end i d d v more cr lf (value_free main src j (i + 1) b c v rest d)
value_free main src j i b c v (white _ _ _ w more is rest) d = white i d d w more is (value_free main src j (i + 1) b c w rest d)
value_free main src j i b c v (other _ _ _ w more x₁ x₂ x₃ x₄ x₅ rest) d = other i d d w more x₁ x₂ x₃ x₄ x₅ (value_free main src j (i + 1) b c w rest d)
value_free main src j i b c v (a_character _ n x _ _ w is within allowed rest) d = a_character i n x d d w is within allowed (value_free main src j n b c w rest d)
value_free main src j i b c v (an_entity _ k _ e _ _ u w (entity_reference n is name) within opens rest) d = absurd opens

attributes_free : (main : Bool) (src : List ℕ) (i k b c : ℕ) (as' : List Attribute) → Attributes main no_entities src i k b c as' → (d : ℕ) → Attributes main no_entities src i k d d as'
attributes_free main src i k b c as' (no_more _ _) d = no_more i d
attributes_free main src i k b c as' (one_more _ j _ _ l _ _ rest spaces (attribute n v e name value is read) more) d =
    one_more i j k d d d _ rest spaces (attribute n v e name value is (value_free main src e (v + 1) b l value read d)) (attributes_free main src j k l c rest more d)

pub tag_free : (main : Bool) (src : List ℕ) (i j b c : ℕ) (is_empty : Bool) (t : Tag) → IsTag main no_entities src i j b c is_empty t → (d : ℕ) → IsTag main no_entities src i j d d is_empty t
tag_free main src i j b c is_empty _ (start_tag n last name written begin is_name list end) d = start_tag n last name written begin is_name (attributes_free main src n last b c written list d) end
