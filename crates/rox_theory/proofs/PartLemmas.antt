-- The parts of a run, up to its end or a reference to an entity: what is read is there, and what is there is read.
use Rattle.std.proofs.Common.{◌≡◌, ◌≢◌, ℕ, zero, suc, ◌+◌, ◌-◌, ◌<◌, ◌≤◌, ◌==◌, Bool, true, false, cond, ◌||◌, eqb, ltb, List, [], ◌∷◌, ◌++◌, length, take, refl, sym, ap, ◌∙◌, subst, arith, inl, inr, encode_utf8, IsUtf8, get_or-take}
use Rattle.std.specs.Prelude.{Some, None, Result, Ok}
use Rattle.std.proofs.lemmas.Str.{length-encode, len_utf8_bounds}
use Rattle.std.proofs.lemmas.Bool.{eqb-true, eqb-false, eq-eqb, ne_eqb, lt-ltb, ltb-true, ltb-false, or_parts, or_from, cases_eq, cases_lt, cases_Bool, false≢true}
use Rattle.rox_grammar.specs.declared.fault.Fault.{Fault}
use Rattle.rox_grammar.specs.Names.{byte, slice}
use Rattle.rox_grammar.specs.References.{IsReference, IsCharacter, predefined}
use Rattle.rox_grammar.specs.Runs.{first_passes}
use Rattle.rox_grammar.specs.Content.{is_literal, DataByte, literal, data_bytes_of, line_ends, literals, Part, part_ends, as_written, from_reference}
use Rattle.rox_grammar.specs.Entities.{Replacement, Entity, text_of}
use Rattle.rox_reading.specs.Values.{Reference, reference_at, Bit, bytes_of, opens, reference_bit, expansion_at, data_bit_at, Next, at_end, opening, after_bit, data_part, part_text}
use Rattle.rox_theory.specs.Openers.{IsStop}
use Rattle.rox_theory.proofs.Basics.{ok_same, bind_ok, chosen}
use Rattle.rox_theory.proofs.NameLemmas.{slice_nil}
use Rattle.rox_theory.proofs.StretchLemmas.{slice_cons, next_at, next_bound, next_before, next_more, follows, follows_not}
use Rattle.rox_theory.proofs.ReferenceLemmas.{IsRead, is_character, is_entity, reference_sound, character_complete, entity_complete, character_opens, character_inside, reference_opens, reference_inside}
use Rattle.rox_theory.proofs.ValueLemmas.{found_ok}

-- A character has a byte.
pub encode_some : (c : ℕ) → 0 < length (encode_utf8 c)
encode_some c = omega (arith, length-encode c, len_utf8_bounds c)

-- What comes from a reference is kept.
pub kept_ends : (bs : List ℕ) (ss : List DataByte) → line_ends (data_bytes_of true bs ++ ss) ≡ bs ++ line_ends ss
kept_ends [] ss = refl
kept_ends (b ∷ bs) ss = ap (λ (r : List ℕ). b ∷ r) (kept_ends bs ss)

-- And is not a literal LF.
kept_after : (bs : List ℕ) (ss : List DataByte) → 0 < length bs → first_passes (is_literal 10) (data_bytes_of true bs ++ ss) ≡ false
kept_after [] ss some = absurd (omega arith)
kept_after (b ∷ bs) ss some = refl

-- A byte but CR needs no replacement.
pub literal_ends : (b : ℕ) (ss : List DataByte) → b ≢ 13 → line_ends (literal b ∷ ss) ≡ b ∷ line_ends ss
literal_ends b ss no_cr = let n = ne_eqb b 13 no_cr in rw n refl

-- CR LF gives LF.
crlf_ends : (a b : ℕ) (ss : List DataByte) → a ≡ 13 → b ≡ 10 → line_ends (literal a ∷ literal b ∷ ss) ≡ 10 ∷ line_ends ss
crlf_ends a b ss cr lf = rw (cr, lf) refl

-- Another CR gives LF.
cr_ends : (a : ℕ) (ss : List DataByte) → a ≡ 13 → first_passes (is_literal 10) ss ≡ false → line_ends (literal a ∷ ss) ≡ 10 ∷ line_ends ss
cr_ends a ss cr after = rw (cr, after) refl

-- The signs of two texts in a row.
literals-append : (bs cs : List ℕ) → literals (bs ++ cs) ≡ data_bytes_of false bs ++ literals cs
literals-append [] cs = refl
literals-append (b ∷ bs) cs = ap (λ (r : List DataByte). literal b ∷ r) (literals-append bs cs)

-- A byte that is neither `&` nor CR.
abbrev pub ordinary : ℕ → Bool
ordinary b = b == 38 || b == 13

-- What is read of signs: outside replacement texts their text, and within them the bytes, whose line ends are left as they are.
abbrev pub Texts : (main : Bool) → List ℕ → List DataByte → Type 0
Texts true bs ss = bs ≡ line_ends ss
Texts false bs ss = ss ≡ literals bs

-- The text of the part.
pub texts_line_ends : (main : Bool) (bs : List ℕ) (ss : List DataByte) → Texts main bs ss → part_text main bs ≡ line_ends ss
texts_line_ends main bs ss h = grind arith

-- A part goes forward.
pub part_le : (main : Bool) (src : List ℕ) (p i : ℕ) (ss : List DataByte) → Part main src p i ss → i ≤ p
part_le main src p i ss part_ends = omega arith
part_le main src p i ss (as_written _ rest lt no_amp q) = omega arith
part_le main src p i ss (from_reference _ n c rest r inside q) = omega (arith, character_opens src i c n r)

-- Where a part ends: at the end of the run, or where a reference to an entity is.
pub data Ends (es : List Entity) (src : List ℕ) (stop : ℕ) : ℕ → Next → Type 0 where
  ends_run : (p : ℕ) → p ≡ stop → Ends es src stop p at_end
  ends_entity : (p n j : ℕ) (t : Replacement) → IsReference src p n j → predefined (slice src (p + 1) n) ≡ None → j ≤ stop → text_of es (slice src (p + 1) n) ≡ Some t → Ends es src stop p (opening t j)

-- What is in a run at a place, in so far as it is one bit of its reading.
pub data RunBit (main : Bool) (es : List Entity) (src : List ℕ) (stop : ℕ) : ℕ → Bit → ℕ → Type 0 where
  bit_cr_lf : (i : ℕ) → main ≡ true → i + 1 < stop → byte src i ≡ 13 → byte src (i + 1) ≡ 10 → RunBit main es src stop i (bytes_of (10 ∷ [])) (i + 2)
  bit_cr : (i : ℕ) → main ≡ true → i < stop → byte src i ≡ 13 → (i + 1 < stop → byte src (i + 1) ≢ 10) → RunBit main es src stop i (bytes_of (10 ∷ [])) (i + 1)
  bit_stretch : (i j : ℕ) → i < j → j ≤ stop → ((k : ℕ) → i ≤ k → k < j → (byte src k ≢ 38) × (main ≡ true → byte src k ≢ 13)) → RunBit main es src stop i (bytes_of (slice src i j)) j
  bit_character : (i x j : ℕ) → IsCharacter src i x j → j ≤ stop → RunBit main es src stop i (bytes_of (encode_utf8 x)) j
  bit_entity : (i n j : ℕ) (t : Replacement) → IsReference src i n j → predefined (slice src (i + 1) n) ≡ None → j ≤ stop → text_of es (slice src (i + 1) n) ≡ Some t → RunBit main es src stop i (opens t) j

module _ (es : List Entity) (src : List ℕ) (utf8 : IsUtf8 src) (stop : ℕ) (long : stop ≤ length src) (closes : stop < length src → IsStop (byte src stop)) where
  -- A part ends before the stop, where `&` is, or at it.
  pub ends_at : (p : ℕ) (next : Next) → Ends es src stop p next → (p ≤ stop) × (p < stop → byte src p ≡ 38)
  ends_at p next h = grind (arith, reference_opens)

  -- Each bit moves forward, but not past the stop.
  pub bit_moves : (main : Bool) (i : ℕ) (bit : Bit) (j : ℕ) → RunBit main es src stop i bit j → (i < j) × (j ≤ stop)
  bit_moves main i bit j h = grind (arith, reference_opens)

  -- ---- a bit that is read is there

  expanded_sound : (main : Bool) (i : ℕ) (r : Reference) (j : ℕ) (bit : Bit) → i < stop → IsRead src i r j → reference_bit es src i r ≡ Ok bit → RunBit main es src stop i bit j
  expanded_sound main i r j bit below (is_character c _ stands) h =
      subst (λ (x : Bit). RunBit main es src stop i x j) (ok_same _ _ h) (bit_character i c j stands (character_inside src i stop c j utf8 below long closes stands))
  expanded_sound main i r j bit below (is_entity n _ stands none) h =
      let f = found_ok (text_of es (slice src (i + 1) n)) i (record { start = i + 1; end = n }) bit h in
      subst (λ (x : Bit). RunBit main es src stop i x j) f.2 (bit_entity i n j f.0 stands none (reference_inside src i stop n j utf8 below long closes stands) f.1)

  expansion_sound : (main : Bool) (i : ℕ) (x : Bit × ℕ) → i < stop → byte src i ≡ 38 → expansion_at es src i ≡ Ok x → RunBit main es src stop i x.0 x.1
  unfolding expansion_at
  expansion_sound main i x below amp h =
      bind_ok (reference_at src i) _ _ h (λ r read h. bind_ok (reference_bit es src i r.0) _ _ h (λ bit made h.
      subst (λ (y : Bit × ℕ). RunBit main es src stop i y.0 y.1) (ok_same _ _ h) (expanded_sound main i r.0 r.1 bit below (reference_sound src i r amp read) made)))

  cr_sound : (i : ℕ) (b : Bool) → eqb (byte (take stop src) (i + 1)) 10 ≡ b → i < stop → byte src i ≡ 13 → RunBit true es src stop i (bytes_of (10 ∷ [])) (cond b (i + 2) (i + 1))
  cr_sound i true lf below cr = let f = follows src stop long (i + 1) lf in bit_cr_lf i refl f.0 cr f.1
  cr_sound i false no_lf below cr = bit_cr i refl below cr (follows_not src stop long (i + 1) no_lf)

  pub run_bit_sound : (main : Bool) (i : ℕ) (x : Bit × ℕ) → i < stop → data_bit_at main es src stop i ≡ Ok x → RunBit main es src stop i x.0 x.1
  unfolding data_bit_at
  run_bit_sound true i x below h = chosen (eqb (byte src i) 38) _ _ _ h
      (λ amp h. expansion_sound true i x below (eqb-true _ _ amp) h)
      (λ no_amp h. chosen (eqb (byte src i) 13) _ _ _ h
      (λ cr h.
      subst (λ (y : Bit × ℕ). RunBit true es src stop i y.0 y.1) (ok_same _ _ h)
      (cr_sound i (eqb (byte (take stop src) (i + 1)) 10) refl below (eqb-true _ _ cr)))
      (λ no_cr h.
      let plain = or_from (eqb (byte src i) 38) (eqb (byte src i) 13) no_amp no_cr in
      subst (λ (y : Bit × ℕ). RunBit true es src stop i y.0 y.1) (ok_same _ _ h)
      (bit_stretch i (next_at src stop ordinary i) (next_more src stop long ordinary i below plain) (next_bound src stop long ordinary i (omega arith))
      (λ k from lt. let both = or_parts (eqb (byte src k) 38) (eqb (byte src k) 13) (next_before src stop long ordinary i k (omega arith) from lt) in (eqb-false _ _ both.0, λ z. eqb-false _ _ both.1)))))
  run_bit_sound false i x below h = chosen (eqb (byte src i) 38) _ _ _ h
      (λ amp h. expansion_sound false i x below (eqb-true _ _ amp) h)
      (λ no_amp h.
      subst (λ (y : Bit × ℕ). RunBit false es src stop i y.0 y.1) (ok_same _ _ h)
      (bit_stretch i (next_at src stop (λ c. c == 38) i) (next_more src stop long (λ c. c == 38) i below no_amp) (next_bound src stop long (λ c. c == 38) i (omega arith))
      (λ k from lt. (eqb-false _ _ (next_before src stop long (λ c. c == 38) i k (omega arith) from lt), λ z. absurd (false≢true z)))))

  -- ---- parts

  -- A part continues with a byte that is not `&`.
  next_part : (main : Bool) (p i : ℕ) (ss : List DataByte) → i < p → byte src i ≢ 38 → Part main src p i ss → (rest : List DataByte) × (ss ≡ literal (byte src i) ∷ rest) × Part main src p (i + 1) rest
  next_part main p i ss below other part_ends = absurd (omega arith)
  next_part main p i ss below other (as_written _ rest lt no_amp q) = (rest, refl, q)
  next_part main p i ss below other (from_reference _ n c rest r inside q) = absurd (other (character_opens src i c n r).0)

  -- Where no LF is.
  no_line_feed : (p i : ℕ) (ss : List DataByte) → (i < p → byte src i ≢ 10) → Part true src p i ss → first_passes (is_literal 10) ss ≡ false
  no_line_feed p i ss none part_ends = refl
  no_line_feed p i ss none (as_written _ rest lt no_amp q) = ne_eqb (byte src i) 10 (none lt)
  no_line_feed p i ss none (from_reference _ n c rest r inside q) = kept_after (encode_utf8 c) rest (encode_some c)

  -- One byte in front.
  byte_on : (main : Bool) (p i : ℕ) (bs : List ℕ) (ss : List DataByte) → (main ≡ true → byte src i ≢ 13) → Texts main bs ss → Texts main (byte src i ∷ bs) (literal (byte src i) ∷ ss)
  byte_on main p i bs ss no_cr h = grind arith

  -- The part from i on that has this text.
  abbrev PartFrom : (main : Bool) → ℕ → ℕ → List ℕ → Type 0
  PartFrom main p i bs = (ss : List DataByte) × Part main src p i ss × Texts main bs ss

  -- A stretch in front.
  pub stretch_on : (main : Bool) (p d i j : ℕ) (bs : List ℕ) → i + d ≡ j → j ≤ p → p ≤ length src → ((k : ℕ) → i ≤ k → k < j → (byte src k ≢ 38) × (main ≡ true → byte src k ≢ 13)) → PartFrom main p j bs → PartFrom main p i (slice src i j ++ bs)
  stretch_on main p zero i j bs to inside most plain h = grind arith
  stretch_on main p (suc d) i j bs to inside most plain h =
      let here = plain i (omega arith) (omega arith) in
      let ih = stretch_on main p d (i + 1) j bs (omega arith) inside most (λ k from below. plain k (omega arith) below) h in
      rw (slice_cons src i j (omega arith) (omega arith)) (literal (byte src i) ∷ ih.0, as_written i ih.0 (omega arith) here.0 ih.1, byte_on main p i (slice src (i + 1) j ++ bs) ih.0 here.1 ih.2)

  -- A character in front.
  character_on : (main : Bool) (c : ℕ) (bs : List ℕ) (ss : List DataByte) → Texts main bs ss → Texts main (encode_utf8 c ++ bs) (data_bytes_of main (encode_utf8 c) ++ ss)
  character_on main c bs ss h = grind (arith, kept_ends, literals-append)

  -- What a part that is read is.
  abbrev pub PartStands : (main : Bool) → ℕ → List ℕ × Next → Type 0
  PartStands main i x = (p : ℕ) × PartFrom main p i x.0 × Ends es src stop p x.1

  -- CR LF in front, of the main text.
  cr_lf_on : (main : Bool) (p i : ℕ) (bs : List ℕ) → main ≡ true → byte src i ≡ 13 → byte src (i + 1) ≡ 10 → PartFrom main p (i + 2) bs → PartFrom main p i (10 ∷ bs)
  cr_lf_on true p i bs is cr lf (ss, part, text) =
      let le = part_le true src p (i + 2) ss part in
      let two : i + 2 ≡ i + 1 + 1 = omega arith in
      let part' = subst (λ (m : ℕ). Part true src p m ss) two part in (
        literal (byte src i) ∷ literal (byte src (i + 1)) ∷ ss,
        as_written i (literal (byte src (i + 1)) ∷ ss) (omega arith) (λ z. omega arith) (as_written (i + 1) ss (omega arith) (λ z. omega arith) part'),
        ap (λ (r : List ℕ). 10 ∷ r) text ∙ sym (crlf_ends (byte src i) (byte src (i + 1)) ss cr lf),
      )
  cr_lf_on false p i bs is cr lf h = absurd (false≢true is)

  -- CR in front.
  cr_on : (main : Bool) (p i : ℕ) (bs : List ℕ) → main ≡ true → byte src i ≡ 13 → (i + 1 < p → byte src (i + 1) ≢ 10) → PartFrom main p (i + 1) bs → PartFrom main p i (10 ∷ bs)
  cr_on true p i bs is cr apart (ss, part, text) =
      let le = part_le true src p (i + 1) ss part in (
        literal (byte src i) ∷ ss,
        as_written i ss (omega arith) (λ z. omega arith) part,
        ap (λ (r : List ℕ). 10 ∷ r) text ∙ sym (cr_ends (byte src i) ss cr (no_line_feed p (i + 1) ss apart part)),
      )
  cr_on false p i bs is cr apart h = absurd (false≢true is)

  -- Nothing.
  pub nothing_from : (main : Bool) (i : ℕ) → PartFrom main i i []
  nothing_from true i = ([], part_ends, refl)
  nothing_from false i = ([], part_ends, refl)

  -- A bit in front.
  bit_on : (main : Bool) (i : ℕ) (bit : Bit) (j : ℕ) (x : List ℕ × Next) (more : ℕ → Result (List ℕ × Next) Fault) → RunBit main es src stop i bit j
      → ((rest : List ℕ × Next) → more j ≡ Ok rest → PartStands main j rest) → after_bit more bit j ≡ Ok x → PartStands main i x
  bit_on main i bit j x more (bit_cr_lf _ is lt cr lf) ih h = bind_ok (more j) _ _ h (λ rest read h.
      let q = ih rest read in
      subst (PartStands main i) (ok_same _ _ h) (q.0, cr_lf_on main q.0 i rest.0 is cr lf q.1, q.2))
  bit_on main i bit j x more (bit_cr _ is lt cr apart) ih h = bind_ok (more j) _ _ h (λ rest read h.
      let q = ih rest read in
      let to = ends_at q.0 rest.1 q.2 in
      subst (PartStands main i) (ok_same _ _ h) (q.0, cr_on main q.0 i rest.0 is cr (λ l. apart (omega arith)) q.1, q.2))
  bit_on main i bit j x more (bit_stretch _ _ some to plain) ih h = bind_ok (more j) _ _ h (λ rest read h.
      let q = ih rest read in
      let end = ends_at q.0 rest.1 q.2 in
      subst (PartStands main i) (ok_same _ _ h) (q.0, stretch_on main q.0 (j - i) i j rest.0 (omega arith) (part_le main src q.0 j q.1.0 q.1.1) (omega arith) plain q.1, q.2))
  bit_on main i bit j x more (bit_character _ c _ r to) ih h = bind_ok (more j) _ _ h (λ rest read h.
      let q = ih rest read in
      let le = part_le main src q.0 j q.1.0 q.1.1 in
      subst (PartStands main i) (ok_same _ _ h) (q.0, (data_bytes_of main (encode_utf8 c) ++ q.1.0, from_reference i j c q.1.0 r le q.1.1, character_on main c rest.0 q.1.0 q.1.2), q.2))
  bit_on main i bit j x more (bit_entity _ n _ t r none to is) ih h =
      subst (PartStands main i) (ok_same _ _ h) (i, nothing_from main i, ends_entity i n j t r none to is)

  -- A part that is read is there.
  pub run_part_sound : (main : Bool) (n i : ℕ) (x : List ℕ × Next) → i ≤ stop → stop ≤ i + n → data_part main es n src stop i ≡ Ok x → PartStands main i x
  unfolding data_part
  run_part_sound main zero i x to enough h =
      subst (PartStands main i) (ok_same _ _ h) (i, nothing_from main i, ends_run i (omega arith))
  run_part_sound main (suc n) i x to enough h = chosen (ltb i stop) _ _ _ h
      (λ lt h. let below = ltb-true _ _ lt in bind_ok (data_bit_at main es src stop i) _ _ h (λ y read h.
      let bit = run_bit_sound main i y below read in
      let moves = bit_moves main i y.0 y.1 bit in
      bit_on main i y.0 y.1 x (λ j. data_part main es n src stop j) bit (λ rest more. run_part_sound main n y.1 rest moves.1 (omega arith) more) h))
      (λ past h. subst (PartStands main i) (ok_same _ _ h) (i, nothing_from main i, ends_run i (omega (arith, ltb-false _ _ past))))

  -- ---- a bit that is there is read

  -- CR LF is read.
  cr_lf_read : (i : ℕ) → i + 1 < stop → byte src i ≡ 13 → byte src (i + 1) ≡ 10 → data_bit_at true es src stop i ≡ Ok (bytes_of (10 ∷ []), i + 2)
  unfolding data_bit_at
  cr_lf_read i below cr lf = grind (arith, get_or-take)

  -- CR alone is read.
  cr_read : (i : ℕ) → byte src i ≡ 13 → eqb (byte (take stop src) (i + 1)) 10 ≡ false → data_bit_at true es src stop i ≡ Ok (bytes_of (10 ∷ []), i + 1)
  unfolding data_bit_at
  cr_read i cr apart = rw (cr, apart) refl

  -- A reference to a character is read.
  character_read : (main : Bool) (i c m : ℕ) → IsCharacter src i c m → data_bit_at main es src stop i ≡ Ok (bytes_of (encode_utf8 c), m)
  unfolding data_bit_at expansion_at
  character_read main i c m r =
      rw ((eq-eqb _ _ (character_opens src i c m r).0), (character_complete src i c m r)) refl

  -- And so is one to an entity.
  entity_read : (main : Bool) (i n j : ℕ) (t : Replacement) → IsReference src i n j → predefined (slice src (i + 1) n) ≡ None → text_of es (slice src (i + 1) n) ≡ Some t → data_bit_at main es src stop i ≡ Ok (opens t, j)
  unfolding data_bit_at expansion_at
  entity_read main i n j t r none is = grind (arith, entity_complete)

  -- Where a stretch ends.
  abbrev stretch_end : (main : Bool) → ℕ → ℕ
  stretch_end true i = next_at src stop ordinary i
  stretch_end false i = next_at src stop (λ c. c == 38) i

  -- What is known of it.
  stretch_bounds : (main : Bool) (i : ℕ) → i < stop → byte src i ≢ 38 → (main ≡ true → byte src i ≢ 13)
      → (i < stretch_end main i) × (stretch_end main i ≤ stop) × ((k : ℕ) → i ≤ k → k < stretch_end main i → (byte src k ≢ 38) × (main ≡ true → byte src k ≢ 13))
  stretch_bounds main i below amp cr = grind (arith, next_more, next_bound, next_before)

  -- A stretch is read.
  stretch_read : (main : Bool) (i : ℕ) → byte src i ≢ 38 → (main ≡ true → byte src i ≢ 13) → data_bit_at main es src stop i ≡ Ok (bytes_of (slice src i (stretch_end main i)), stretch_end main i)
  unfolding data_bit_at
  stretch_read main i h k = grind arith

  -- ---- a part that is there is read

  -- A bit of bytes is read, and then the rest.
  bytes_on : (main : Bool) (n i j : ℕ) (bytes rest : List ℕ) (next : Next) → i < stop → data_bit_at main es src stop i ≡ Ok (bytes_of bytes, j) → data_part main es n src stop j ≡ Ok (rest, next)
      → data_part main es (suc n) src stop i ≡ Ok (bytes ++ rest, next)
  unfolding data_part
  bytes_on main n i j bytes rest next below bit more = let here = lt-ltb i stop below in rw (here, bit, more) refl

  -- A part is read to this text.
  abbrev pub PartReads : (main : Bool) → ℕ → ℕ → List DataByte → Next → Type 0
  PartReads main n i ss next = (bs : List ℕ) × (data_part main es n src stop i ≡ Ok (bs, next)) × Texts main bs ss

  -- Nothing is read where the part ends.
  ends_read : (main : Bool) (n p : ℕ) (next : Next) → stop ≤ p + n → Ends es src stop p next → data_part main es n src stop p ≡ Ok ([], next)
  unfolding data_part
  ends_read main n p next h k = grind (arith, reference_opens, entity_read)

  pub no_texts : (main : Bool) → Texts main [] []
  no_texts main = grind arith

  -- The signs after a stretch.
  pub stretch_off : (main : Bool) (p d i j : ℕ) (ss : List DataByte) → i + d ≡ j → j ≤ p → p ≤ length src → ((k : ℕ) → i ≤ k → k < j → (byte src k ≢ 38) × (main ≡ true → byte src k ≢ 13)) → Part main src p i ss
      → (rest : List DataByte) × Part main src p j rest × ((bs : List ℕ) → Texts main bs rest → Texts main (slice src i j ++ bs) ss)
  stretch_off main p zero i j ss to inside most plain q =
      let e : i ≡ j = omega arith in
      (ss, subst (λ (m : ℕ). Part main src p m ss) e q, λ bs h. rw (e, slice_nil src j) h)
  stretch_off main p (suc d) i j ss to inside most plain q =
      let here = plain i (omega arith) (omega arith) in
      let one = next_part main p i ss (omega arith) here.0 q in
      let ih = stretch_off main p d (i + 1) j one.0 (omega arith) inside most (λ k from below. plain k (omega arith) below) one.2 in
      (ih.0, ih.1, λ bs h. rw (one.1, slice_cons src i j (omega arith) (omega arith)) (byte_on main p i (slice src (i + 1) j ++ bs) one.0 here.1 (ih.2 bs h)))

  -- CR LF of the main text.
  texts_cr_lf : (i : ℕ) (bs : List ℕ) (ss : List DataByte) → byte src i ≡ 13 → byte src (i + 1) ≡ 10 → bs ≡ line_ends ss → 10 ∷ bs ≡ line_ends (literal (byte src i) ∷ literal (byte src (i + 1)) ∷ ss)
  texts_cr_lf i bs ss cr lf h = ap (λ (r : List ℕ). 10 ∷ r) h ∙ sym (crlf_ends (byte src i) (byte src (i + 1)) ss cr lf)

  -- A stretch begins with a byte that is neither `&` nor, in the main text, CR.
  stretch_first : (main : Bool) (n i p : ℕ) (ss : List DataByte) (next : Next) → i < p → byte src i ≢ 38 → (main ≡ true → byte src i ≢ 13) → Part main src p i ss → Ends es src stop p next
      → ((j : ℕ) (rest : List DataByte) → i < j → j ≤ stop → Part main src p j rest → PartReads main n j rest next) → PartReads main (suc n) i ss next
  stretch_first main n i p ss next below amp cr q end ih =
      let to = ends_at p next end in
      let known = stretch_bounds main i (omega (arith, to.0)) amp cr in
      let j = stretch_end main i in
      let o = stretch_off main p (j - i) i j ss (omega (arith, known.0)) (grind arith) (omega (arith, to.0)) known.2 q in
      let rest = ih j o.0 known.0 known.1 o.1 in
      (slice src i j ++ rest.0, bytes_on main n i j (slice src i j) rest.0 next (omega (arith, to.0)) (stretch_read main i amp cr) rest.1, o.2 rest.0 rest.2)

  -- A CR of the main text.
  cr_first : (n i p : ℕ) (ss : List DataByte) (next : Next) → i < p → byte src i ≡ 13 → Part true src p (i + 1) ss → Ends es src stop p next
      → ((j : ℕ) (rest : List DataByte) → i < j → j ≤ stop → Part true src p j rest → PartReads true n j rest next) → PartReads true (suc n) i (literal (byte src i) ∷ ss) next
  cr_first n i p ss next below cr q end ih =
      let to = ends_at p next end in
      elim (cases_Bool (eqb (byte (take stop src) (i + 1)) 10)) as (λ s. PartReads true (suc n) i (literal (byte src i) ∷ ss) next) [
        | inl lf ↦ (
            let f = follows src stop long (i + 1) lf in
            let more : i + 1 < p = elim (cases_lt (i + 1) p) as (λ s. i + 1 < p) [ inl l ↦ l | inr g ↦ absurd (let e : p ≡ i + 1 = omega arith in let a = rw e at (to.1 (omega arith)) in omega arith) ] in
            let one = next_part true p (i + 1) ss more (λ z. omega arith) q in
            let two : i + 1 + 1 ≡ i + 2 = omega arith in
            let q' = subst (λ (m : ℕ). Part true src p m one.0) two one.2 in
            let rest = ih (i + 2) one.0 (omega arith) (omega (arith, to.0)) q' in (
              10 ∷ rest.0,
              bytes_on true n i (i + 2) (10 ∷ []) rest.0 next (omega (arith, to.0)) (cr_lf_read i f.0 cr f.1) rest.1,
              texts_cr_lf i rest.0 one.0 cr f.1 rest.2 ∙ ap (λ (r : List DataByte). line_ends (literal (byte src i) ∷ r)) (sym one.1),
            ))
        | inr no_lf ↦ (
            let rest = ih (i + 1) ss (omega arith) (omega (arith, to.0)) q in
            let after = no_line_feed p (i + 1) ss (λ l. follows_not src stop long (i + 1) no_lf (omega (arith, to.0))) q in (
              10 ∷ rest.0,
              bytes_on true n i (i + 1) (10 ∷ []) rest.0 next (omega (arith, to.0)) (cr_read i cr no_lf) rest.1,
              ap (λ (r : List ℕ). 10 ∷ r) rest.2 ∙ sym (cr_ends (byte src i) ss cr after),
            ))
      ]

  -- A byte as it is written.
  written_first : (main : Bool) (n i p : ℕ) (ss : List DataByte) (next : Next) → i < p → byte src i ≢ 38 → Part main src p (i + 1) ss → Ends es src stop p next
      → ((j : ℕ) (rest : List DataByte) → i < j → j ≤ stop → Part main src p j rest → PartReads main n j rest next) → PartReads main (suc n) i (literal (byte src i) ∷ ss) next
  written_first false n i p ss next below amp q end ih =
      stretch_first false n i p (literal (byte src i) ∷ ss) next below amp (λ z. absurd (false≢true z)) (as_written i ss below amp q) end ih
  written_first true n i p ss next below amp q end ih =
      elim (cases_eq (byte src i) 13) as (λ s. PartReads true (suc n) i (literal (byte src i) ∷ ss) next) [
        | inl cr ↦ cr_first n i p ss next below cr q end ih
        | inr no_cr ↦ stretch_first true n i p (literal (byte src i) ∷ ss) next below amp (λ z. no_cr) (as_written i ss below amp q) end ih
      ]

  -- A part that is there is read.
  pub run_part_complete : (main : Bool) (n i p : ℕ) (ss : List DataByte) (next : Next) → i ≤ stop → stop ≤ i + n → Part main src p i ss → Ends es src stop p next → PartReads main n i ss next
  run_part_complete main n i p ss next to enough part_ends end = ([], ends_read main n p next enough end, no_texts main)
  run_part_complete main zero i p ss next to enough (as_written _ rest lt no_amp q) end = absurd (omega (arith, ends_at p next end))
  run_part_complete main zero i p ss next to enough (from_reference _ m c rest r inside q) end = absurd (omega (arith, ends_at p next end, character_opens src i c m r))
  run_part_complete main (suc n) i p ss next to enough (as_written _ rest lt no_amp q) end =
      written_first main n i p rest next lt no_amp q end (λ j rest' from to' q'. run_part_complete main n j p rest' next to' (omega arith) q' end)
  run_part_complete main (suc n) i p ss next to enough (from_reference _ m c rest r inside q) end =
      let moves = character_opens src i c m r in
      let at = ends_at p next end in
      let ih = run_part_complete main n m p rest next (omega (arith, at.0)) (omega (arith, moves.1)) q end in
      (encode_utf8 c ++ ih.0, bytes_on main n i m (encode_utf8 c) ih.0 next (omega (arith, moves.1, at.0)) (character_read main i c m r) ih.1, character_on main c ih.0 rest ih.2)
