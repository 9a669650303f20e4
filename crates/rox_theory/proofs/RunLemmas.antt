-- Runs, for any opener that agrees: what is read is there, and what is there is read.
use Rattle.std.proofs.Common.{◌≡◌, ◌≢◌, ℕ, zero, suc, ◌+◌, ◌-◌, ◌<◌, ◌≤◌, ◌==◌, Bool, true, false, ◌||◌, eqb, List, [], ◌∷◌, ◌++◌, length, refl, sym, ap, ◌∙◌, subst, arith, inl, inr, add-zero, IsUtf8}
use Rattle.std.specs.Prelude.{None, Result, Ok}
use Rattle.std.specs.List.{list_any}
use Rattle.std.proofs.lemmas.List.{append-nil, drop_all}
use Rattle.std.proofs.lemmas.Bool.{not-true, not_from_false, eqb-true, eqb-false, or_parts, cases_lt, cases_Bool}
use Rattle.rox_grammar.specs.Search.{byte_from}
use Rattle.rox_grammar.specs.Forest.{Forest, join}
use Rattle.rox_grammar.specs.Written.{Item, Text, leaf}
use Rattle.rox_grammar.specs.Names.{byte, slice}
use Rattle.rox_grammar.specs.References.{IsReference, predefined, entity_reference}
use Rattle.rox_grammar.specs.Content.{Inclusion, DataByte, is_literal, data_byte, line_ends, literals, is_verbatim, piece, Part, part_ends, as_written, from_reference, last_part, then_entity, IsCharacterData}
use Rattle.rox_grammar.proofs.RunParts.{Parts}
use Rattle.rox_grammar.specs.Entities.{Replacement}
use Rattle.rox_reading.specs.Refusals.{Refusal}
use Rattle.rox_reading.specs.Values.{Next, at_end, opening, data_part, part_text, raw_character_data_at}
use Rattle.rox_reading.specs.State.{State}
use Rattle.rox_reading.specs.Machine.{Context, with_item, with_piece, at_place, after_part, data_parts, character_data_step}
use Rattle.rox_reading.proofs.Forests.{join-nil, join_assoc}
use Rattle.rox_grammar.proofs.Stretches.{range_length}
use Rattle.rox_theory.specs.Openers.{IsStop}
use Rattle.rox_theory.proofs.Productions.{char_data_parts}
use Rattle.rox_theory.proofs.Basics.{ok_same, bind_ok, bind_lifted, bind_lifted_only, chosen, chars_sound, chars_complete}
use Rattle.rox_theory.proofs.FirstMarks.{mark_behind, unmarked_run}
use Rattle.rox_theory.proofs.LiteralLemmas.{from_le, from_bound, from_here}
use Rattle.rox_theory.proofs.StretchLemmas.{slice_none}
use Rattle.rox_theory.proofs.ReferenceLemmas.{character_opens, reference_opens}
use Rattle.rox_theory.proofs.PartLemmas.{ordinary, Texts, literal_ends, stretch_on, stretch_off, nothing_from, no_texts, texts_line_ends, part_le, Ends, ends_run, ends_entity, run_part_sound, run_part_complete}
use Rattle.rox_theory.proofs.Standing.{IsValidState}
use Rattle.rox_theory.proofs.Leaves.{state, with_leaf, item_read, read_item, fine_there, fine_before}
pub use Rattle.rox_theory.specs.Openers.{AgreesContent}

-- ---- pieces

-- A text of one sign or more has a byte.
some_line_ends : (s : DataByte) (ss : List DataByte) → (b : ℕ) × (bs : List ℕ) × (line_ends (s ∷ ss) ≡ b ∷ bs)
some_line_ends s [] =
    elim (cases_Bool (is_literal 13 s)) as (λ z. (b : ℕ) × (bs : List ℕ) × (line_ends (s ∷ []) ≡ b ∷ bs)) [
      | inl cr ↦ (10, [], rw cr refl)
      | inr no_cr ↦ (data_byte s, [], rw no_cr refl)
    ]
some_line_ends s (t ∷ ss) =
    elim (cases_Bool (is_literal 13 s)) as (λ z. (b : ℕ) × (bs : List ℕ) × (line_ends (s ∷ t ∷ ss) ≡ b ∷ bs)) [
      | inl cr ↦ elim (cases_Bool (is_literal 10 t)) as (λ z. (b : ℕ) × (bs : List ℕ) × (line_ends (s ∷ t ∷ ss) ≡ b ∷ bs)) [
        | inl lf ↦ (let more = some_line_ends t ss in (more.0, more.1, rw (cr, lf) more.2))
        | inr no_lf ↦ (10, line_ends (t ∷ ss), rw (cr, no_lf) refl)
      ]
      | inr no_cr ↦ (data_byte s, line_ends (t ∷ ss), rw no_cr refl)
    ]

-- A text that has a byte is an item.
with_some : (limit : ℕ) (s : State) (i j b : ℕ) (v bs : List ℕ) → v ≡ b ∷ bs → with_piece limit s i j v ≡ with_item limit s j (Text i j v false)
with_some limit s i j b v bs is = rw is refl

-- The state after a piece, except its place.
pub record IsPiece (s t : State) (i j : ℕ) (ss : List DataByte) : Type 0 where
  pub done : t.done ≡ join s.done (piece i j false ss)
  pub stack : t.stack ≡ s.stack
  pub openings_left : t.openings_left ≡ s.openings_left

pub piece_read : (limit most : ℕ) (s t : State) (i j : ℕ) (ss : List DataByte) → limit ≤ most → IsValidState most s → with_piece limit s i j (line_ends ss) ≡ Ok t → IsPiece s t i j ss × IsValidState most t
piece_read limit most s t i j [] more fine h = grind (arith, join-nil)
piece_read limit most s t i j (x ∷ ss) more fine h =
    let some = some_line_ends x ss in
    let h' = sym (with_some limit s i j some.0 (line_ends (x ∷ ss)) some.1 some.2) ∙ h in
    let r = item_read limit most s t j (Text i j (line_ends (x ∷ ss)) false) more refl refl tt fine h' in
    (record { done = ap (λ (s : State). s.done) r.0; stack = ap (λ (s : State). s.stack) r.0; openings_left = ap (λ (s : State). s.openings_left) r.0 }, r.1)

read_piece : (limit : ℕ) (s : State) (i j : ℕ) (ss : List DataByte) → IsValidState limit (state j (join s.done (piece i j false ss)) s.stack s.openings_left)
    → (t : State) × (with_piece limit s i j (line_ends ss) ≡ Ok t) × IsPiece s t i j ss
read_piece limit s i j [] fine = (s, refl, record { done = sym (join-nil s.done); stack = refl; openings_left = refl })
read_piece limit s i j (x ∷ ss) fine =
    let some = some_line_ends x ss in
    let item = Text i j (line_ends (x ∷ ss)) false in
    (with_leaf s j item, with_some limit s i j some.0 (line_ends (x ∷ ss)) some.1 some.2 ∙ read_item limit s j item fine, record { done = refl; stack = refl; openings_left = refl })

-- ---- parts

module _ (context : Context) (O : Inclusion) (agrees : AgreesContent context.values.entities context.limit O context.opener) (src : List ℕ) (utf8 : IsUtf8 src) (start stop : ℕ) (long : stop ≤ length src)
    (closes : stop < length src → IsStop (byte src stop)) (marked : is_verbatim (slice src start stop) ≡ false) where
  -- The parts from i on.
  abbrev PartsFrom : ℕ → ℕ → ℕ → Forest Item → Type 0
  PartsFrom i b c items = Parts context.values.main O src start stop i b c items

  -- What they are that are read from a state to another.
  abbrev pub PartsStand : ℕ → State → State → Type 0
  PartsStand most s u = (items : Forest Item) × (c : ℕ) × PartsFrom s.at s.openings_left c items × (u ≡ state stop (join s.done items) s.stack c) × IsValidState most u

  -- Parts begin at the stop or before.
  parts_le : (i b c : ℕ) (items : Forest Item) → PartsFrom i b c items → i ≤ stop
  parts_le i b c items (last_part _ _ ss part) = part_le context.values.main src stop i ss part
  parts_le i b d items (then_entity _ p j _ c _ _ ss front more part (entity_reference n r none) opened rest) = grind (arith, parts_le j c d more rest, part_le, reference_opens)

  -- Past the stop there are no signs.
  part_none : (i : ℕ) (ss : List DataByte) → stop ≤ i → Part context.values.main src stop i ss → ss ≡ []
  part_none i ss past part_ends = refl
  part_none i ss past (as_written _ rest lt no_amp q) = absurd (omega arith)
  part_none i ss past (from_reference _ n c rest r inside q) = absurd (omega (arith, character_opens src i c n r))

  -- The last part.
  last_stands : (most : ℕ) (s t u : State) (ss : List DataByte) → Part context.values.main src stop s.at ss → IsPiece s t start stop ss → IsValidState most t → u ≡ at_place stop t → PartsStand most s u
  last_stands most s t u ss part is fine same =
      let p : PartsFrom s.at s.openings_left s.openings_left (piece start stop false ss) = subst (λ (f : Bool). PartsFrom s.at s.openings_left s.openings_left (piece start stop f ss)) marked (last_part s.at s.openings_left ss part) in
      let done = is.done in let stack = is.stack in let openings_left = is.openings_left in
      (piece start stop false ss, s.openings_left, p, same ∙ rw (done, stack, openings_left) refl, subst (IsValidState most) (sym same) (fine_there most t (at_place stop t) refl refl fine))

  -- A part and a replacement text in front.
  entity_stands : (most : ℕ) (s t v u : State) (p n j : ℕ) (ss : List DataByte) (items : Forest Item) (c : ℕ) → Part context.values.main src p s.at ss → IsPiece s t start stop ss
      → IsReference src p n j → predefined (slice src (p + 1) n) ≡ None → O.content (slice src (p + 1) n) t.openings_left items c → v ≡ state j (join t.done items) t.stack c → PartsStand most v u → PartsStand most s u
  entity_stands most s t v u p n j ss items c part is r none opened same (more, d, rest, last, fine) =
      let done = is.done in let stack = is.stack in let openings_left = is.openings_left in
      let v_at : v.at ≡ j = ap (λ (s : State). s.at) same in
      let v_left : v.openings_left ≡ c = ap (λ (s : State). s.openings_left) same in
      let v_stack : v.stack ≡ s.stack = ap (λ (s : State). s.stack) same ∙ stack in
      let rest' : PartsFrom j c d more = subst (λ (b : ℕ). PartsFrom j b d more) v_left (subst (λ (i : ℕ). PartsFrom i v.openings_left d more) v_at rest) in
      let opened' = subst (λ (b : ℕ). O.content (slice src (p + 1) n) b items c) openings_left opened in
      let all : join v.done more ≡ join s.done (join (piece start stop false ss) (join items more)) = grind (arith, join_assoc) in
      (join (piece start stop false ss) (join items more), d, then_entity s.at p j s.openings_left c d _ ss items more part (entity_reference n r none) opened' rest', last ∙ rw (all, v_stack) refl, fine)

  -- What is read after a part.
  after_stands : (most : ℕ) (s t u : State) (p : ℕ) (ss : List DataByte) (next : Next) (more : State → Result State Refusal) → context.limit ≤ most → Ends context.values.entities src stop p next → Part context.values.main src p s.at ss
      → IsPiece s t start stop ss → IsValidState most t → s.at ≤ p → ((v : State) → p < v.at → v.at ≤ stop → IsValidState most v → more v ≡ Ok u → PartsStand most v u)
      → after_part context more stop t next ≡ Ok u → PartsStand most s u
  after_stands most s t u p ss next more limits (ends_run _ same) part is fine le ih h =
      last_stands most s t u ss (subst (λ (m : ℕ). Part context.values.main src m s.at ss) same part) is fine (sym (ok_same _ _ h))
  after_stands most s t u p ss next more limits (ends_entity _ n j text r none to found) part is fine le ih h =
      bind_ok (context.opener text j t) _ _ h (λ v opened h.
      let o = agrees.sound most (slice src (p + 1) n) text j t v limits found fine opened in
      let at : v.at ≡ j = ap (λ (s : State). s.at) o.3 in
      entity_stands most s t v u p n j ss o.0 o.1 part is r none o.2 o.3 (ih v (omega (arith, (reference_opens src p n j r).2)) (omega arith) o.4 h))

  -- Parts that are read are there.
  pub run_parts_sound : (n most : ℕ) (s u : State) → context.limit ≤ most → s.at ≤ stop → stop ≤ s.at + n → IsValidState most s → data_parts context n src start stop s ≡ Ok u → PartsStand most s u
  unfolding data_parts
  run_parts_sound zero most s u limits to enough fine h =
      let e : stop ≡ s.at = omega arith in
      last_stands most s s u [] (subst (λ (m : ℕ). Part context.values.main src stop m []) e part_ends) (record { done = sym (join-nil s.done); stack = refl; openings_left = refl }) fine (sym (ok_same _ _ h))
  run_parts_sound (suc n) most s u limits to enough fine h =
      bind_lifted (data_part context.values.main context.values.entities (stop - s.at) src stop s.at) _ _ h (λ x read h.
      bind_lifted (with_piece context.limit s start stop (part_text context.values.main x.0)) _ _ h (λ t added h.
      let part = run_part_sound context.values.entities src utf8 stop long closes context.values.main (stop - s.at) s.at x to (omega arith) read in
      let text = texts_line_ends context.values.main x.0 part.1.0 part.1.2 in
      let piece = piece_read context.limit most s t start stop part.1.0 limits fine (sym (ap (with_piece context.limit s start stop) text) ∙ added) in
      let le = part_le context.values.main src part.0 s.at part.1.0 part.1.1 in
      after_stands most s t u part.0 part.1.0 x.1 (λ v. data_parts context n src start stop v) limits part.2 part.1.1 piece.0 piece.1 le
      (λ v from to' fine' h. run_parts_sound n most v u limits to' (omega arith) fine' h) h))

  -- A part is read, and what is after it.
  part_on : (n i : ℕ) (s t u : State) (bs : List ℕ) (next : Next) → s.at ≡ i → data_part context.values.main context.values.entities (stop - i) src stop i ≡ Ok (bs, next)
      → with_piece context.limit s start stop (part_text context.values.main bs) ≡ Ok t → after_part context (λ v. data_parts context n src start stop v) stop t next ≡ Ok u → data_parts context (suc n) src start stop s ≡ Ok u
  unfolding data_parts
  part_on n i s t u bs next at read added after = cc

  -- Nothing is left to be read.
  none_on : (s : State) → data_parts context zero src start stop s ≡ Ok (at_place stop s)
  unfolding data_parts
  none_on s = refl

  -- The items after a piece, a replacement text and the rest.
  behind_all : (s t : State) (one front more : Forest Item) (d : ℕ) → t.done ≡ join s.done one → t.stack ≡ s.stack
      → state stop (join (join t.done front) more) t.stack d ≡ state stop (join s.done (join one (join front more))) s.stack d
  behind_all s t one front more d done stack = grind (arith, join_assoc)

  -- A replacement text is read, and what is after it.
  opened_on : (text : Replacement) (j : ℕ) (t v u : State) (more : State → Result State Refusal) → context.opener text j t ≡ Ok v → more v ≡ Ok u → after_part context more stop t (opening text j) ≡ Ok u
  opened_on text j t v u more opened rest = rw opened rest

  -- Parts that are there are read, if the limits allow what they lead to.
  pub run_parts_complete : (n i b c : ℕ) (items : Forest Item) (s : State) → s.at ≡ i → s.openings_left ≡ b → stop ≤ i + n → PartsFrom i b c items → IsValidState context.limit (state stop (join s.done items) s.stack c)
      → data_parts context n src start stop s ≡ Ok (state stop (join s.done items) s.stack c)
  run_parts_complete zero i b c items s at openings_left enough (last_part _ _ ss part) fine =
      none_on s ∙ rw ((part_none i ss (omega arith) part), openings_left) (rw join-nil refl)
  run_parts_complete zero i b d items s at openings_left enough (then_entity _ p j _ c _ _ ss front more part (entity_reference n r none) opened rest) fine = grind (arith, part_le, reference_opens, parts_le)
  run_parts_complete (suc n) i b c items s at openings_left enough (last_part _ _ ss part) fine =
      let to = part_le context.values.main src stop i ss part in
      let q = run_part_complete context.values.entities src utf8 stop long closes context.values.main (stop - i) i stop ss at_end to (omega arith) part (ends_run stop refl) in
      let text = texts_line_ends context.values.main q.0 ss q.2 in
      let t = read_piece context.limit s start stop ss (rw (marked, ← openings_left) at fine) in
      let done = t.2.done in let stack = t.2.stack in let openings_left' = t.2.openings_left in
      part_on n i s t.0 _ q.0 at_end at q.1 (ap (with_piece context.limit s start stop) text ∙ t.1) (rw (marked, done, stack, openings_left', openings_left) refl)
  run_parts_complete (suc n) i b d items s at openings_left enough (then_entity _ p j _ c _ _ ss front more part (entity_reference m r none) opened rest) fine =
      let to = part_le context.values.main src p i ss part in
      let moves = reference_opens src p m j r in
      let inside = parts_le j c d more rest in
      let whole : join s.done (join (piece start stop false ss) (join front more)) ≡ join (join (join s.done (piece start stop false ss)) front) more = grind (arith, join_assoc) in
      let fine2 : IsValidState context.limit (state stop (join (join (join s.done (piece start stop false ss)) front) more) s.stack d) = rw whole at fine in
      let fine1 = fine_before context.limit j stop c d (join (join s.done (piece start stop false ss)) front) more s.stack fine2 in
      let fine0 = fine_before context.limit stop j s.openings_left c (join s.done (piece start stop false ss)) front s.stack fine1 in
      let t = read_piece context.limit s start stop ss fine0 in
      let done = t.2.done in let stack = t.2.stack in let openings_left' = t.2.openings_left in
      let text = agrees.complete (slice src (p + 1) m) j c front t.0 (rw (openings_left', openings_left) opened) (rw (done, stack) fine1) in
      let q = run_part_complete context.values.entities src utf8 stop long closes context.values.main (stop - i) i p ss (opening text.0 j) (omega arith) (omega arith) part (ends_entity p m j text.0 r none inside text.1) in
      let spelled = texts_line_ends context.values.main q.0 ss q.2 in
      let v = state j (join t.0.done front) t.0.stack c in
      let ih = run_parts_complete n j c d more v refl refl (omega (arith, moves.2)) rest (rw (done, stack) fine2) in
      let last = behind_all s t.0 (piece start stop false ss) front more d done stack in
      part_on n i s t.0 _ q.0 (opening text.0 j) at q.1 (ap (with_piece context.limit s start stop) spelled ∙ t.1) (opened_on text.0 j t.0 v _ (λ w. data_parts context n src start stop w) text.2 (ih ∙ ap Ok last))

-- ---- whole runs

-- A run is stopped by `<`.
stop_here : (src : List ℕ) (i : ℕ) → byte_from (λ c. c == 60) src i < length src → IsStop (byte src (byte_from (λ c. c == 60) src i))
stop_here src i below = inl (eqb-true _ _ (from_here (λ c. c == 60) src i below))

-- A run that does not begin with `<` has a byte.
some_before : (src : List ℕ) (i : ℕ) → i < length src → byte src i ≢ 60 → i < byte_from (λ c. c == 60) src i
some_before src i here other =
    let p : ℕ → Bool = λ c. c == 60 in
    let le = from_le p src i in
    elim (cases_lt i (byte_from p src i)) as (λ s. i < byte_from p src i) [
      | inl l ↦ l
      | inr g ↦ grind (arith, from_here p src i (omega arith))
    ]

-- Nothing is found past the end.
past_end : (src : List ℕ) (i : ℕ) → length src ≤ i → byte_from (λ c. c == 60) src i ≡ i
unfolding byte_from
past_end src i past = rw (drop_all i src past) (add-zero i)

-- The bytes of a run that are read.
pub raw_sound : (src : List ℕ) → IsUtf8 src → (i : ℕ) (x : List ℕ × ℕ) → i < length src → byte src i ≢ 60 → raw_character_data_at src i ≡ Ok x → IsCharacterData src i x.1 × (x.0 ≡ slice src i x.1)
unfolding raw_character_data_at
raw_sound src utf8 i x here other h = grind (arith, some_before, chars_sound, from_le, unmarked_run, from_bound)

-- And that are there.
raw_complete : (src : List ℕ) (i j : ℕ) → IsCharacterData src i j → raw_character_data_at src i ≡ Ok (slice src i j, j)
unfolding raw_character_data_at
raw_complete src i j run = grind (arith, chars_complete, mark_behind)

-- A run ends in the text.
pub run_inside : (src : List ℕ) (i j : ℕ) → IsCharacterData src i j → (j ≤ length src) × (j < length src → IsStop (byte src j))
run_inside src i j run =
    let end = (char_data_parts run).end in let some = (char_data_parts run).some in
    let inside : j ≤ length src = elim (cases_lt i (length src)) as (λ s. j ≤ length src) [
      | inl l ↦ rw end (from_bound (λ c. c == 60) src i (omega arith))
      | inr g ↦ absurd (omega (arith, past_end src i g))
    ] in
    (inside, rw (← end) at (stop_here src i))

-- Plain bytes need no replacement.
plain_ends : (bs : List ℕ) → is_verbatim bs ≡ true → line_ends (literals bs) ≡ bs
plain_ends [] h = refl
plain_ends (b ∷ bs) h =
    let both = or_parts (eqb b 38 || eqb b 13) (list_any ordinary bs) (not-true _ h) in
    literal_ends b (literals bs) (eqb-false _ _ (or_parts (eqb b 38) (eqb b 13) both.0).1) ∙ ap (λ (r : List ℕ). b ∷ r) (plain_ends bs (not_from_false _ both.1))

plain_text : (main : Bool) (bs : List ℕ) → is_verbatim bs ≡ true → part_text main bs ≡ bs
plain_text main bs h = grind (arith, plain_ends)

-- A part that is not empty gives a text.
pub piece_whole : (i j : ℕ) (borrowed : Bool) (ss : List DataByte) (v : List ℕ) → line_ends ss ≡ v → 0 < length v → piece i j borrowed ss ≡ leaf (Text i j v borrowed)
piece_whole i j borrowed ss v is some = grind arith

module _ (context : Context) (O : Inclusion) (agrees : AgreesContent context.values.entities context.limit O context.opener) (src : List ℕ) (utf8 : IsUtf8 src) where
  -- A run with what it leads to.
  abbrev pub RunStands : ℕ → State → State → Type 0
  RunStands most s u = (j : ℕ) × (items : Forest Item) × (c : ℕ) × IsCharacterData src s.at j × Parts context.values.main O src s.at j s.at s.openings_left c items × (u ≡ state j (join s.done items) s.stack c) × IsValidState most u

  -- No byte of a plain run is `&` or CR.
  plain_bytes : (i j k : ℕ) → j ≤ length src → is_verbatim (slice src i j) ≡ true → i ≤ k → k < j → (byte src k ≢ 38) × (context.values.main ≡ true → byte src k ≢ 13)
  plain_bytes i j k inside plain from below = grind (arith, slice_none)

  -- The part of a plain run.
  pub plain_part : (i j b : ℕ) → IsCharacterData src i j → is_verbatim (slice src i j) ≡ true → Parts context.values.main O src i j i b b (leaf (Text i j (slice src i j) true))
  plain_part i j b run plain =
      let some = (char_data_parts run).some in
      let inside = run_inside src i j run in
      let s = stretch_on context.values.entities src utf8 j inside.0 inside.1 context.values.main j (j - i) i j [] (omega arith) (omega arith) inside.0 (λ k from below. plain_bytes i j k inside.0 plain from below)
      (nothing_from context.values.entities src utf8 j inside.0 inside.1 context.values.main j) in
      let text : line_ends s.0 ≡ slice src i j = sym (texts_line_ends context.values.main (slice src i j ++ []) s.0 s.2) ∙ ap (part_text context.values.main) (append-nil (slice src i j)) ∙ plain_text context.values.main (slice src i j) plain in
      let long = range_length src i j (omega arith) inside.0 in
      let e : piece i j (is_verbatim (slice src i j)) s.0 ≡ leaf (Text i j (slice src i j) true) = ap (λ (f : Bool). piece i j f s.0) plain ∙ piece_whole i j true s.0 (slice src i j) text (omega arith) in
      subst (λ (f : Forest Item). Parts context.values.main O src i j i b b f) e (last_part i b s.0 s.1)

  -- A plain run has no other parts.
  part_plain : (i j b c : ℕ) (items : Forest Item) → IsCharacterData src i j → is_verbatim (slice src i j) ≡ true → Parts context.values.main O src i j i b c items → (items ≡ leaf (Text i j (slice src i j) true)) × (b ≡ c)
  part_plain i j b c items run plain (last_part _ _ ss part) =
      let some = (char_data_parts run).some in
      let inside = run_inside src i j run in
      let o = stretch_off context.values.entities src utf8 j inside.0 inside.1 context.values.main j (j - i) i j ss (omega arith) (omega arith) inside.0 (λ k from below. plain_bytes i j k inside.0 plain from below) part in
      let none = empty_part context.values.main j j o.0 (omega arith) o.1 in
      let text' = o.2 [] (subst (Texts context.values.main []) (sym none) (no_texts context.values.entities src utf8 j inside.0 inside.1 context.values.main)) in
      let text : line_ends ss ≡ slice src i j = sym (texts_line_ends context.values.main (slice src i j ++ []) ss text') ∙ ap (part_text context.values.main) (append-nil (slice src i j)) ∙ plain_text context.values.main (slice src i j) plain in
      let long = range_length src i j (omega arith) inside.0 in
      (ap (λ (f : Bool). piece i j f ss) plain ∙ piece_whole i j true ss (slice src i j) text (omega arith), refl)
    where
      empty_part : (main : Bool) (p k : ℕ) (ss : List DataByte) → p ≤ k → Part main src p k ss → ss ≡ []
      empty_part main p k ss past part_ends = refl
      empty_part main p k ss past (as_written _ rest lt no_amp q) = absurd (omega arith)
      empty_part main p k ss past (from_reference _ n c rest r to q) = absurd (omega (arith, character_opens src k c n r))
  part_plain i j b d items run plain (then_entity _ p m _ c _ _ ss front more part (entity_reference n r none) opened rest) =
      let o = reference_opens src p n m r in
      absurd ((plain_bytes i j p (run_inside src i j run).0 plain (part_le context.values.main src p i ss part) (omega (arith, o.2, rest_le m c d more rest))).0 o.0)
    where
      rest_le : (k b c : ℕ) (items : Forest Item) → Parts context.values.main O src i j k b c items → k ≤ j
      rest_le k b c items (last_part _ _ ss part) = part_le context.values.main src j k ss part
      rest_le k b d items (then_entity _ p m _ c _ _ ss front more part (entity_reference n r none) opened rest) = omega (arith, part_le context.values.main src p k ss part, reference_opens src p n m r, rest_le m c d more rest)

  -- A run that is read is there.
  pub run_sound : (most : ℕ) (s u : State) → context.limit ≤ most → s.at < length src → byte src s.at ≢ 60 → IsValidState most s → character_data_step context src s ≡ Ok u → RunStands most s u
  unfolding character_data_step
  run_sound most s u limits here other fine h =
      bind_lifted (raw_character_data_at src s.at) _ _ h (λ x read h.
      let raw = raw_sound src utf8 s.at x here other read in
      let inside = run_inside src s.at x.1 raw.0 in
      let some = (char_data_parts raw.0).some in
      chosen (is_verbatim x.0) _ _ _ h
      (λ plain h.
      bind_lifted_only (with_item context.limit s x.1 (Text s.at x.1 x.0 true)) u h (λ added.
      let r = item_read context.limit most s u x.1 (Text s.at x.1 x.0 true) limits refl refl tt fine added in (
        x.1,
        leaf (Text s.at x.1 (slice src s.at x.1) true),
        s.openings_left,
        raw.0,
        plain_part s.at x.1 s.openings_left raw.0 (rw (raw.1) at plain),
        r.0 ∙ ap (λ (v : List ℕ). with_leaf s x.1 (Text s.at x.1 v true)) raw.1,
        r.1,
      )))
      (λ marked h.
      let marked' : is_verbatim (slice src s.at x.1) ≡ false = rw (raw.1) at marked in
      let p = run_parts_sound context O agrees src utf8 s.at x.1 inside.0 inside.1 marked' (length src) most s u limits (omega arith) (omega (arith, inside.0)) fine h in
      (x.1, p.0, p.1, raw.0, p.2, p.3, p.4)))

  -- A run that is there is read, if the limits allow what it leads to.
  pub run_complete : (j c : ℕ) (items : Forest Item) (s : State) → IsCharacterData src s.at j → Parts context.values.main O src s.at j s.at s.openings_left c items → IsValidState context.limit (state j (join s.done items) s.stack c)
      → character_data_step context src s ≡ Ok (state j (join s.done items) s.stack c)
  unfolding character_data_step
  run_complete j c items s run parts fine =
      let raw = raw_complete src s.at j run in
      let inside = run_inside src s.at j run in
      elim (cases_Bool (is_verbatim (slice src s.at j))) as (λ z. character_data_step context src s ≡ Ok (state j (join s.done items) s.stack c)) [
        | inl plain ↦ grind (arith, part_plain)
        | inr marked ↦ (
            let all = run_parts_complete context O agrees src utf8 s.at j inside.0 inside.1 marked (length src) s.at s.openings_left c items s refl refl (omega (arith, inside.0)) parts fine in
            rw (raw, marked) all)
      ]
