-- At most one row of parts is at a place, whatever the limits are.
use Rattle.std.proofs.Common.{◌≡◌, ◌≢◌, ℕ, ◌+◌, ◌<◌, ◌≤◌, ◌⊎◌, Bool, false, List, ◌∷◌, ◌++◌, refl, sym, ap, ◌∙◌, subst, arith, inl, inr, encode_utf8}
use Rattle.std.specs.Prelude.{None}
use Rattle.rox_grammar.specs.Forest.{Forest, join}
use Rattle.rox_grammar.specs.Written.{Item}
use Rattle.rox_grammar.specs.Names.{byte, slice}
use Rattle.rox_grammar.specs.References.{IsReference, IsCharacter, predefined, entity_reference}
use Rattle.rox_grammar.specs.Content.{Inclusion, DataByte, literal, data_bytes_of, Part, part_ends, as_written, from_reference, last_part, then_entity, piece, is_verbatim}
use Rattle.rox_grammar.proofs.RunParts.{Parts}
use Rattle.rox_reading.specs.Values.{Reference, character_of, entity_at, reference_at}
use Rattle.rox_theory.proofs.Productions.{reference_parts}
use Rattle.rox_theory.proofs.FailedReadings.{ok_one}
use Rattle.rox_theory.proofs.ReferenceLemmas.{character_complete, entity_complete, character_opens, reference_opens}
use Rattle.rox_theory.proofs.PartLemmas.{part_le}

-- ---- runs

-- Where a part ends: at the stop, or where a reference to an entity is.
abbrev pub PartEnds : List ℕ → ℕ → ℕ → Type 0
PartEnds src stop p = (p ≡ stop) ⊎ ((n : ℕ) × (j : ℕ) × IsReference src p n j × (predefined (slice src (p + 1) n) ≡ None))

-- A character from a reference is not an entity.
pub no_entity_here : (src : List ℕ) (i c m n j : ℕ) → IsCharacter src i c m → IsReference src i n j → predefined (slice src (i + 1) n) ≡ None → ⊥
no_entity_here src i c m n j is r none =
    let e : ◌≡◌ {A = Reference × ℕ} (character_of c, m) (entity_at (record { start = i + 1; end = n }), j) = ok_one _ _ (reference_at src i) (character_complete src i c m is) (entity_complete src i n j r none) in
    let f : character_of c ≡ entity_at (record { start = i + 1; end = n }) = ap (λ (x : Reference × ℕ). x.0) e in
    cc f

-- A part does not end where it continues.
goes_on : (src : List ℕ) (stop i : ℕ) → i < stop → byte src i ≢ 38 → PartEnds src stop i → ⊥
goes_on src stop i below no_amp p = grind arith

-- Nor where a reference to a character is.
goes_on_from : (src : List ℕ) (stop i c m : ℕ) → i < stop → IsCharacter src i c m → PartEnds src stop i → ⊥
goes_on_from src stop i c m below is (inl same) = omega arith
goes_on_from src stop i c m below is (inr (n, j, r, none)) = no_entity_here src i c m n j is r none

-- The character of a reference.
character_in : Reference → ℕ
character_in (character_of c) = c
character_in (entity_at span) = 0

-- What a reference to an entity names ends there.
name_end_in : Reference → ℕ
name_end_in (character_of c) = 0
name_end_in (entity_at span) = span.end

-- A reference gives one character, up to one place.
pub character_ends : (src : List ℕ) (i c d n m : ℕ) → IsCharacter src i c n → IsCharacter src i d m → (c ≡ d) × (n ≡ m)
unfolding character_in
character_ends src i c d n m a b =
    let e : ◌≡◌ {A = Reference × ℕ} (character_of c, n) (character_of d, m) = ok_one _ _ (reference_at src i) (character_complete src i c n a) (character_complete src i d m b) in
    (ap (λ (x : Reference × ℕ). character_in x.0) e, ap (λ (x : Reference × ℕ). x.1) e)

-- And the name of an entity ends in one place.
pub entity_ends : (src : List ℕ) (i n m j k : ℕ) → IsReference src i n j → IsReference src i m k → (n ≡ m) × (j ≡ k)
entity_ends src i n m j k a b = let same : n ≡ m = (reference_parts a).name.longest ∙ sym (reference_parts b).name.longest in (same, (reference_parts a).next ∙ ap (λ (n : ℕ). n + 1) same ∙ sym (reference_parts b).next)

-- There is one part at most.
pub part_once : (main : Bool) (src : List ℕ) (stop p q i : ℕ) (ss rs : List DataByte) → Part main src p i ss → Part main src q i rs → PartEnds src stop p → PartEnds src stop q → p ≤ stop → q ≤ stop
    → (p ≡ q) × (ss ≡ rs)
unfolding character_in
part_once main src stop p q i ss rs part_ends part_ends end end' to to' = (refl, refl)
part_once main src stop p q i ss rs part_ends (as_written _ rest lt no_amp part) end end' to to' = absurd (goes_on src stop i (omega arith) no_amp end)
part_once main src stop p q i ss rs part_ends (from_reference _ n c rest r inside part) end end' to to' = absurd (goes_on_from src stop i c n (omega (arith, character_opens src i c n r)) r end)
part_once main src stop p q i ss rs (as_written _ rest lt no_amp part) part_ends end end' to to' = absurd (goes_on src stop i (omega arith) no_amp end')
part_once main src stop p q i ss rs (from_reference _ n c rest r inside part) part_ends end end' to to' = absurd (goes_on_from src stop i c n (omega (arith, character_opens src i c n r)) r end')
part_once main src stop p q i ss rs (as_written _ rest lt no_amp part) (as_written _ rest' lt' no_amp' part') end end' to to' =
    let ih = part_once main src stop p q (i + 1) rest rest' part part' end end' to to' in
    (ih.0, ap (λ (more : List DataByte). literal (byte src i) ∷ more) ih.1)
part_once main src stop p q i ss rs (as_written _ rest lt no_amp part) (from_reference _ n c rest' r inside part') end end' to to' = absurd (no_amp (character_opens src i c n r).0)
part_once main src stop p q i ss rs (from_reference _ n c rest r inside part) (as_written _ rest' lt no_amp part') end end' to to' = absurd (no_amp (character_opens src i c n r).0)
part_once main src stop p q i ss rs (from_reference _ n c rest r inside part) (from_reference _ m d rest' r' inside' part') end end' to to' =
    let e : ◌≡◌ {A = Reference × ℕ} (character_of c, n) (character_of d, m) = ok_one _ _ (reference_at src i) (character_complete src i c n r) (character_complete src i d m r') in
    let same : c ≡ d = ap (λ (x : Reference × ℕ). character_in x.0) e in
    let at : m ≡ n = sym (ap (λ (x : Reference × ℕ). x.1) e) in
    let ih = part_once main src stop p q n rest rest' part (subst (λ (k : ℕ). Part main src q k rest') at part') end end' to to' in
    (ih.0, ap (λ (k : ℕ). data_bytes_of main (encode_utf8 k) ++ rest) same ∙ ap (λ (more : List DataByte). data_bytes_of main (encode_utf8 d) ++ more) ih.1)

-- Parts begin at the stop or before.
pub parts_le : (main : Bool) (O : Inclusion) (src : List ℕ) (start stop i b c : ℕ) (items : Forest Item) → Parts main O src start stop i b c items → i ≤ stop
parts_le main O src start stop i b c items (last_part _ _ ss part) = part_le main src stop i ss part
parts_le main O src start stop i b d items (then_entity _ p j _ c _ _ ss front more part (entity_reference n r none) opened rest) = grind (arith, parts_le main O src start stop j c d more rest, part_le, reference_opens)

-- What a reference opens in content it opens in one way.
abbrev pub OpensOnce : Inclusion → Type 0
OpensOnce O = (name : List ℕ) (b c d : ℕ) (items more : Forest Item) → O.content name b items c → O.content name b more d → (items ≡ more) × (c ≡ d)

module _ (main : Bool) (O : Inclusion) (once : OpensOnce O) (src : List ℕ) (start stop : ℕ) where
  -- The parts of a run are there in one way.
  pub parts_once : (i b c d : ℕ) (items more : Forest Item) → Parts main O src start stop i b c items → Parts main O src start stop i b d more → (items ≡ more) × (c ≡ d)
  unfolding name_end_in
  parts_once i b c d items more (last_part _ _ ss part) (last_part _ _ rs part') =
      let same = part_once main src stop stop stop i ss rs part part' (inl refl) (inl refl) (omega arith) (omega arith) in
      (ap (piece start stop (is_verbatim (slice src start stop))) same.1, refl)
  parts_once i b c e items more (last_part _ _ ss part) (then_entity _ p j _ d _ _ rs front others part' (entity_reference n r none) opened rest) =
      let inside : p ≤ stop = omega (arith, reference_opens src p n j r, parts_le main O src start stop j d e others rest) in
      let same = part_once main src stop stop p i ss rs part part' (inl refl) (inr (n, j, r, none)) (omega arith) inside in
      absurd (omega (arith, same.0, reference_opens src p n j r, parts_le main O src start stop j d e others rest))
  parts_once i b e d items more (then_entity _ p j _ c _ _ ss front others part (entity_reference n r none) opened rest) (last_part _ _ rs part') =
      let inside : p ≤ stop = omega (arith, reference_opens src p n j r, parts_le main O src start stop j c e others rest) in
      let same = part_once main src stop p stop i ss rs part part' (inr (n, j, r, none)) (inl refl) inside (omega arith) in
      absurd (omega (arith, same.0, reference_opens src p n j r, parts_le main O src start stop j c e others rest))
  parts_once i b e f items more (then_entity _ p j _ c _ _ ss front others part (entity_reference n r none) opened rest) (then_entity _ q k _ d _ _ rs front' others' part' (entity_reference m r' none') opened' rest') =
      let inside : p ≤ stop = omega (arith, reference_opens src p n j r, parts_le main O src start stop j c e others rest) in
      let inside' : q ≤ stop = omega (arith, reference_opens src q m k r', parts_le main O src start stop k d f others' rest') in
      let same = part_once main src stop p q i ss rs part part' (inr (n, j, r, none)) (inr (m, k, r', none')) inside inside' in
      let r'' : IsReference src p m k = subst (λ (q : ℕ). IsReference src q m k) (sym same.0) r' in
      let none'' : predefined (slice src (p + 1) m) ≡ None = subst (λ (q : ℕ). predefined (slice src (q + 1) m) ≡ None) (sym same.0) none' in
      let opened'' : O.content (slice src (p + 1) m) b front' d = subst (λ (q : ℕ). O.content (slice src (q + 1) m) b front' d) (sym same.0) opened' in
      let e' : ◌≡◌ {A = Reference × ℕ} (entity_at (record { start = p + 1; end = n }), j) (entity_at (record { start = p + 1; end = m }), k) =
      ok_one _ _ (reference_at src p) (entity_complete src p n j r none) (entity_complete src p m k r'' none'') in
      let end : m ≡ n = sym (ap (λ (x : Reference × ℕ). name_end_in x.0) e') in
      let at : k ≡ j = sym (ap (λ (x : Reference × ℕ). x.1) e') in
      let text = once (slice src (p + 1) n) b c d front front' opened (subst (λ (m : ℕ). O.content (slice src (p + 1) m) b front' d) end opened'') in
      let ih = parts_once j c e f others others' rest (subst (λ (k : ℕ). Parts main O src start stop k c f others') at (subst (λ (d : ℕ). Parts main O src start stop k d f others') (sym text.1) rest')) in (
        ap (λ (ss : List DataByte). join (piece start stop false ss) (join front others)) same.1 ∙ ap (λ (f : Forest Item). join (piece start stop false rs) (join f others)) text.0
            ∙ ap (λ (f : Forest Item). join (piece start stop false rs) (join front' f)) ih.0,
        ih.1,
      )
