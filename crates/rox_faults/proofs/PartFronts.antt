-- What is read of a run or of a value up to a reference is a front of it: so where it is read whole, the reference opens a text there.
use Rattle.std.proofs.Common.{◌≡◌, ◌≢◌, ℕ, ◌+◌, ◌<◌, ◌≤◌, ◌⊎◌, Bool, List, refl, sym, subst, arith, inl, inr}
use Rattle.std.specs.Prelude.{Some, None}
use Rattle.rox_grammar.specs.Forest.{Forest, join}
use Rattle.rox_grammar.specs.Written.{Item}
use Rattle.rox_grammar.specs.Names.{byte, slice}
use Rattle.rox_grammar.specs.References.{IsReference, IsCharacter, predefined, entity_reference}
use Rattle.rox_grammar.specs.Content.{Inclusion, last_part, then_entity, Value, value_ends, line_end, white, other, a_character, an_entity}
use Rattle.rox_grammar.proofs.RunParts.{Parts, PartsTo}
use Rattle.rox_grammar.specs.Entities.{Replacement, Entity, text_of}
use Rattle.rox_grammar.specs.ContentPoints.{RefersTo}
use Rattle.rox_reading.proofs.Forests.{join_assoc}
use Rattle.rox_theory.proofs.Productions.{reference_parts}
use Rattle.rox_theory.proofs.ReferenceLemmas.{character_opens, reference_opens}
use Rattle.rox_theory.proofs.PartLemmas.{part_le}
use Rattle.rox_theory.proofs.PartOnce.{no_entity_here, character_ends, entity_ends, part_once, parts_le, OpensOnce}

-- ---- references

-- `RefersTo` with the end of the name.
abbrev pub ToEntity : List Entity → List ℕ → (p j : ℕ) → Replacement → Type 0
ToEntity es src p j t = (n : ℕ) × IsReference src p n j × (predefined (slice src (p + 1) n) ≡ None) × (text_of es (slice src (p + 1) n) ≡ Some t)

pub to_entity : (es : List Entity) (src : List ℕ) (p j : ℕ) (t : Replacement) → RefersTo es src p j t → ToEntity es src p j t
to_entity es src p j t (_, entity_reference n is none, found) = (n, is, none, found)

-- ---- runs

module _ (main : Bool) (O : Inclusion) (once : OpensOnce O) (src : List ℕ) (start stop : ℕ) where
  -- What is read does not go back.
  parts_to_le : (p i b c : ℕ) (front : Forest Item) → PartsTo main O src start stop i p b c front → i ≤ p
  parts_to_le p i b c front (last_part _ _ ss part) = part_le main src p i ss part
  parts_to_le p i b d front (then_entity _ q j _ c _ _ ss one more part (entity_reference n r none) opens to) = grind (arith, parts_to_le p j c d more to, part_le, reference_opens)

  -- The reference at p opens these items there, after those in front.
  pub record OpenedThere (p n j c d : ℕ) (front items : Forest Item) : Type 0 where
    pub opened : Forest Item
    pub openings_left : ℕ
    pub rest : Forest Item
    pub opens : O.content (slice src (p + 1) n) c opened openings_left
    pub parts : Parts main O src start stop j openings_left d rest
    pub all : items ≡ join front (join opened rest)

  pub parts_front : (p i n j b c d : ℕ) (front items : Forest Item) → PartsTo main O src start stop i p b c front → Parts main O src start stop i b d items → p < stop → IsReference src p n j
      → predefined (slice src (p + 1) n) ≡ None → OpenedThere p n j c d front items
  parts_front p i n j b c d front items (last_part _ _ ss part) (last_part _ _ rs part') below r none =
      let same = part_once main src stop p stop i ss rs part part' (inr (n, j, r, none)) (inl refl) (omega arith) (omega arith) in absurd (omega (arith, same.0))
  parts_front p i n j b c d front items (last_part _ _ ss part) (then_entity _ q k _ e _ _ rs one more part' (entity_reference m r' none') opens rest) below r none =
      let inside : q ≤ stop = omega (arith, reference_opens src q m k r', parts_le main O src start stop k e d more rest) in
      let same = part_once main src stop p q i ss rs part part' (inr (n, j, r, none)) (inr (m, k, r', none')) (omega arith) inside in
      let ends = entity_ends src p m n k j (subst (λ (q : ℕ). IsReference src q m k) (sym same.0) r') r in
      grind arith
  parts_front p i n j b c d front items (then_entity _ q k _ e _ _ ss one more part (entity_reference m r' none') opens to) (last_part _ _ rs part') below r none =
      let le = parts_to_le p k e c more to in
      let some = reference_opens src q m k r' in
      let same = part_once main src stop q stop i ss rs part part' (inr (m, k, r', none')) (inl refl) (omega arith) (omega arith) in
      absurd (omega (arith, same.0))
  parts_front p i n j b c d front items (then_entity _ q k _ e _ _ ss one more part (entity_reference m r' none') opens to) (then_entity _ q' k' _ e' _ _ rs one' more' part' (entity_reference m' r'' none'') opens' rest) below r none =
      let le = parts_to_le p k e c more to in
      let some = reference_opens src q m k r' in
      let inside : q' ≤ stop = omega (arith, reference_opens src q' m' k' r'', parts_le main O src start stop k' e' d more' rest) in
      let same = part_once main src stop q q' i ss rs part part' (inr (m, k, r', none')) (inr (m', k', r'', none'')) (omega arith) inside in
      let ends = entity_ends src q m' m k' k (subst (λ (q : ℕ). IsReference src q m' k') (sym same.0) r'') r' in
      let opens'' : O.content (slice src (q + 1) m) b one' e' = subst (λ (m : ℕ). O.content (slice src (q + 1) m) b one' e') ends.0 (subst (λ (q : ℕ). O.content (slice src (q + 1) m') b one' e') (sym same.0) opens') in
      let text = once (slice src (q + 1) m) b e' e one' one opens'' opens in
      let rest' : Parts main O src start stop k e d more' = subst (λ (e : ℕ). Parts main O src start stop k e d more') text.1 (subst (λ (k : ℕ). Parts main O src start stop k e' d more') ends.1 rest) in
      let next = parts_front p k n j e c d more more' to rest' below r none in
      grind (arith, join_assoc)

-- ---- values

-- As many texts may be opened after what a reference opens in a value.
abbrev pub SpendsOnce : Inclusion → Type 0
SpendsOnce O = (name : List ℕ) (b c d : ℕ) (v w : List ℕ) → O.value name b v c → O.value name b w d → c ≡ d

-- A value is read from i up to p: the references to entities in it, and the openings that are left before them and after.
data ValueTo (O : Inclusion) (src : List ℕ) : ℕ → ℕ → ℕ → ℕ → Type 0 where
  over_none : (i b : ℕ) → ValueTo O src i i b b
  over_byte : (i p b c : ℕ) → byte src i ≢ 38 → ValueTo O src (i + 1) p b c → ValueTo O src i p b c
  over_character : (i n x p b c : ℕ) → IsCharacter src i x n → ValueTo O src n p b c → ValueTo O src i p b c
  over_entity : (i n j p b c d : ℕ) (w : List ℕ) → IsReference src i n j → predefined (slice src (i + 1) n) ≡ None → O.value (slice src (i + 1) n) b w c
      → ValueTo O src j p c d → ValueTo O src i p b d

module _ (main : Bool) (O : Inclusion) (src : List ℕ) where
  value_to_le : (i p b c : ℕ) → ValueTo O src i p b c → i ≤ p
  value_to_le i p b c (over_none _ _) = omega arith
  value_to_le i p b c (over_byte _ _ _ _ no_amp to) = let le = value_to_le (i + 1) p b c to in omega arith
  value_to_le i p b c (over_character _ n x _ _ _ is to) = omega (arith, character_opens src i x n is, value_to_le n p b c to)
  value_to_le i p b d (over_entity _ n j _ _ c _ w r none opens to) = omega (arith, reference_opens src i n j r, value_to_le j p c d to)

  -- White space is not `&`.
  white_no_amp : (stop i : ℕ) → (byte src i ≡ 9) ⊎ ((byte src i ≡ 10) ⊎ ((byte src i ≡ 13) × ((stop ≡ i + 1) ⊎ (byte src (i + 1) ≢ 10)))) → byte src i ≢ 38
  white_no_amp stop i h amp = omega arith

  -- What is there in a value up to p.
  value_to : (p i b c : ℕ) (v : List ℕ) → Value main O src p i b c v → ValueTo O src i p b c
  value_to p i b c v (value_ends _) = over_none i b
  value_to p i b c v (line_end _ _ _ _ more cr lf rest) = over_byte i p b c (λ amp. absurd (omega arith)) (value_to p (i + 1) b c v rest)
  value_to p i b c v (white _ _ _ w more is rest) = over_byte i p b c (white_no_amp p i is) (value_to p (i + 1) b c w rest)
  value_to p i b c v (other _ _ _ w more no_amp x₁ x₂ x₃ x₄ rest) = over_byte i p b c no_amp (value_to p (i + 1) b c w rest)
  value_to p i b c v (a_character _ n x _ _ w is less allowed rest) = over_character i n x p b c is (value_to p n b c w rest)
  value_to p i b d v (an_entity _ k _ c _ _ u w (entity_reference n r none) less opens rest) = over_entity i n k p b c d u r none opens (value_to p k c d w rest)

  -- A value does not go back.
  pub value_from : (i p b c : ℕ) (v : List ℕ) → Value main O src p i b c v → i ≤ p
  value_from i p b c v value = value_to_le i p b c (value_to p i b c v value)

module _ (main : Bool) (O : Inclusion) (once : SpendsOnce O) (src : List ℕ) where
  -- What the reference at p opens there.
  abbrev pub OpensThere : (p n c : ℕ) → Type 0
  OpensThere p n c = (w : List ℕ) × (e : ℕ) × O.value (slice src (p + 1) n) c w e

  value_to_front : (stop i p n j b c d : ℕ) (v : List ℕ) → ValueTo O src i p b c → Value main O src stop i b d v → p < stop → IsReference src p n j → predefined (slice src (p + 1) n) ≡ None → OpensThere p n c
  value_to_front stop i p n j b c d v (over_none _ _) (value_ends _) below r none = absurd (omega arith)
  value_to_front stop i p n j b c d v (over_none _ _) (line_end _ _ _ _ more cr lf rest) below r none = let amp = (reference_parts r).opens in absurd (omega arith)
  value_to_front stop i p n j b c d v (over_none _ _) (white _ _ _ w more is rest) below r none = absurd (white_no_amp main O src stop i is (reference_parts r).opens)
  value_to_front stop i p n j b c d v (over_none _ _) (other _ _ _ w more no_amp x₂ x₃ x₄ x₅ rest) below r none = absurd (no_amp (reference_parts r).opens)
  value_to_front stop i p n j b c d v (over_none _ _) (a_character _ m x _ _ w is less allowed rest) below r none = absurd (no_entity_here src i x m n j is r none)
  value_to_front stop i p n j b c d v (over_none _ _) (an_entity _ k _ e _ _ u w (entity_reference m r' none') less opens rest) below r none = grind (arith, entity_ends)
  value_to_front stop i p n j b c d v (over_byte _ _ _ _ no_amp to) (value_ends _) below r none = let le = value_to_le main O src (i + 1) p b c to in absurd (omega arith)
  value_to_front stop i p n j b c d v (over_byte _ _ _ _ no_amp to) (line_end _ _ _ _ more cr lf rest) below r none = value_to_front stop (i + 1) p n j b c d v to rest below r none
  value_to_front stop i p n j b c d v (over_byte _ _ _ _ no_amp to) (white _ _ _ w more is rest) below r none = value_to_front stop (i + 1) p n j b c d w to rest below r none
  value_to_front stop i p n j b c d v (over_byte _ _ _ _ no_amp to) (other _ _ _ w more x₁ x₂ x₃ x₄ x₅ rest) below r none = value_to_front stop (i + 1) p n j b c d w to rest below r none
  value_to_front stop i p n j b c d v (over_byte _ _ _ _ no_amp to) (a_character _ m x _ _ w is less allowed rest) below r none = absurd (no_amp (character_opens src i x m is).0)
  value_to_front stop i p n j b c d v (over_byte _ _ _ _ no_amp to) (an_entity _ k _ e _ _ u w (entity_reference m r' none') less opens rest) below r none = absurd (no_amp (reference_parts r').opens)
  value_to_front stop i p n j b c d v (over_character _ m x _ _ _ is to) (value_ends _) below r none = absurd (omega (arith, character_opens src i x m is, value_to_le main O src m p b c to))
  value_to_front stop i p n j b c d v (over_character _ m x _ _ _ is to) (line_end _ _ _ _ more cr lf rest) below r none = let amp = (character_opens src i x m is).0 in absurd (omega arith)
  value_to_front stop i p n j b c d v (over_character _ m x _ _ _ is to) (white _ _ _ w more is' rest) below r none = absurd (white_no_amp main O src stop i is' (character_opens src i x m is).0)
  value_to_front stop i p n j b c d v (over_character _ m x _ _ _ is to) (other _ _ _ w more no_amp x₂ x₃ x₄ x₅ rest) below r none = absurd (no_amp (character_opens src i x m is).0)
  value_to_front stop i p n j b c d v (over_character _ m x _ _ _ is to) (a_character _ m' x' _ _ w is' less allowed rest) below r none =
      let same = (character_ends src i x' x m' m is' is).1 in value_to_front stop m p n j b c d w to (subst (λ (m : ℕ). Value main O src stop m b d w) same rest) below r none
  value_to_front stop i p n j b c d v (over_character _ m x _ _ _ is to) (an_entity _ k _ e _ _ u w (entity_reference m' r' none') less opens rest) below r none = absurd (no_entity_here src i x m m' k is r' none')
  value_to_front stop i p n j b c d v (over_entity _ m k _ _ e _ u r' none' opens to) (value_ends _) below r none = absurd (omega (arith, reference_opens src i m k r', value_to_le main O src k p e c to))
  value_to_front stop i p n j b c d v (over_entity _ m k _ _ e _ u r' none' opens to) (line_end _ _ _ _ more cr lf rest) below r none = let amp = (reference_parts r').opens in absurd (omega arith)
  value_to_front stop i p n j b c d v (over_entity _ m k _ _ e _ u r' none' opens to) (white _ _ _ w more is rest) below r none = absurd (white_no_amp main O src stop i is (reference_parts r').opens)
  value_to_front stop i p n j b c d v (over_entity _ m k _ _ e _ u r' none' opens to) (other _ _ _ w more no_amp x₂ x₃ x₄ x₅ rest) below r none = absurd (no_amp (reference_parts r').opens)
  value_to_front stop i p n j b c d v (over_entity _ m k _ _ e _ u r' none' opens to) (a_character _ m' x _ _ w is less allowed rest) below r none = absurd (no_entity_here src i x m' m k is r' none')
  value_to_front stop i p n j b c d v (over_entity _ m k _ _ e _ u r' none' opens to) (an_entity _ k' _ e' _ _ u' w (entity_reference m' r'' none'') less opens' rest) below r none =
      let ends = entity_ends src i m' m k' k r'' r' in
      let opens'' : O.value (slice src (i + 1) m) b u' e' = subst (λ (m : ℕ). O.value (slice src (i + 1) m) b u' e') ends.0 opens' in
      let same = once (slice src (i + 1) m) b e' e u' u opens'' opens in
      let rest' : Value main O src stop k e d w = subst (λ (e : ℕ). Value main O src stop k e d w) same (subst (λ (k : ℕ). Value main O src stop k e' d w) ends.1 rest) in
      value_to_front stop k p n j e c d w to rest' below r none

  pub value_front : (stop i p n j b c d : ℕ) (u v : List ℕ) → Value main O src p i b c u → Value main O src stop i b d v → p < stop → IsReference src p n j → predefined (slice src (p + 1) n) ≡ None → OpensThere p n c
  value_front stop i p n j b c d u v front value below r none = value_to_front stop i p n j b c d v (value_to main O src p i b c u front) value below r none
