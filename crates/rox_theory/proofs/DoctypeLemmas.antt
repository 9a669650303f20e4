-- The parts of a document type declaration that ask nothing: what is read is there, and what is there is read.
use Rattle.std.proofs.Common.{◌≡◌, ℕ, ◌+◌, ◌-◌, ◌<◌, ◌≤◌, ◌⊎◌, ◌==◌, ◌||◌, Bool, true, false, leb, List, length, take, refl, sym, ap, ◌∙◌, subst, arith, inl, inr, IsUtf8, IsCharBoundary}
use Rattle.std.specs.Prelude.{Ok, Some, None}
use Rattle.std.proofs.lemmas.Bool.{cases_lt, lt-leb, eqb-true, eqb-false, eq-eqb, ne_eqb, or_left, or_right, or_parts, or_from, false_from_ne_true}
use Rattle.rox_grammar.specs.declared.fault.Word.{Word}
use Rattle.rox_grammar.specs.declared.fault.Word.TheVariants as word
use Rattle.rox_grammar.specs.FixedTexts.{word_text, at}
use Rattle.rox_grammar.specs.Chars.{is_space, is_name_char}
use Rattle.rox_grammar.specs.Search.{byte_from}
use Rattle.rox_grammar.specs.Names.{byte, slice, spaces_end, IsName}
use Rattle.rox_grammar.specs.Entities.{Replacement}
use Rattle.rox_grammar.specs.Doctype.{Request, IsQuoted, IsSpace, IsExternalID, system, public, MayHaveNotation, notation, no_notation, of_parameter, IsKind, BeginsEntity, entity_begins, MayHaveExternalID, external_id, no_external_id, BeginsDoctype, doctype_begins}
use Rattle.rox_grammar.specs.Doctype as grammar
use Rattle.rox_grammar.proofs.AtPlace.{run_at_end}
use Rattle.rox_reading.specs.Lexical.{space_at, name_at}
use Rattle.rox_reading.specs.Doctype.{quoted_at, system_at, public_at, external_id_at, name_or_end_at, notation_at, Definition, inner, outer, definition_at, EntityHead, kind_at, entity_head_at, external_id_if, doctype_head_at}
use Rattle.rox_grammar.proofs.Stretches.{range_length}
use Rattle.rox_theory.proofs.Basics.{ok_same, bind_ok, chosen, within, byte_sound, byte_complete, run_end_le}
use Rattle.rox_theory.proofs.NameLemmas.{name_sound, name_complete}
use Rattle.rox_theory.proofs.CharLemmas.{space_some, some_run, begins_byte, space_ascii}
use Rattle.rox_theory.proofs.LiteralLemmas.{from_le, from_here, quote_sound, quote_complete, quote_ascii}
use Rattle.rox_theory.proofs.DeclarationLemmas.{stands_reads}
use Rattle.rox_theory.proofs.CharTexts.{cut_behind, run_cut}
use Rattle.rox_theory.proofs.Places.{begins_within}
use Rattle.rox_theory.proofs.DoctypeParts.{BeginsParts, begins_parts, CutsNotation, cuts_name}

-- ---- white space

-- White space that is read is there.
pub space_sound : (src : List ℕ) (i : ℕ) (x : Unit {0} × ℕ) → space_at src i ≡ Ok x → IsSpace src i x.1
unfolding space_at
space_sound src i x h = grind (arith, space_some)

-- And what is there is read.
pub space_complete : (src : List ℕ) (i j : ℕ) → IsUtf8 src → IsCharBoundary src i → IsSpace src i j → space_at src i ≡ Ok (tt, j)
unfolding space_at
space_complete src i j utf8 cut s =
    let inside : i < length src = elim (cases_lt i (length src)) as (λ s. i < length src) [ inl l ↦ l | inr past ↦ absurd (omega (arith, run_at_end is_space src i past)) ] in
    let is : is_space (byte src i) ≡ true = begins_byte is_space (λ c h. omega (arith, space_ascii c h)) src i utf8 cut (some_run is_space src i (omega (arith, s.0))) in
    rw ((lt-leb (length src) i inside), is, ← s.1) refl

-- A character begins after it.
pub space_cut : (src : List ℕ) (i j : ℕ) → IsUtf8 src → IsCharBoundary src i → IsSpace src i j → IsCharBoundary src j
space_cut src i j utf8 cut s = let all = s.1 in rw all (run_cut is_space src i utf8 cut)

-- ---- characters in quotes

-- Where they end.
abbrev pub quoted_end : List ℕ → ℕ → ℕ
quoted_end src i = byte_from (λ c. c == byte src i) src (i + 1)

-- What is read is there.
pub quoted_sound : (src : List ℕ) (i : ℕ) (x : List ℕ × ℕ) → quoted_at src i ≡ Ok x → IsQuoted src i (quoted_end src i) x.1 × (x.0 ≡ slice src (i + 1) (quoted_end src i))
unfolding quoted_at
quoted_sound src i x h = grind (arith, quote_sound, byte_sound)

-- It ends at the quote that it begins with, after which a character begins.
pub quoted_closes : (src : List ℕ) (i e j : ℕ) → IsQuoted src i e j → byte src e ≡ byte src i
quoted_closes src i e j q = grind (arith, from_here)

pub quoted_le : (src : List ℕ) (i e j : ℕ) → IsQuoted src i e j → (i + 1 ≤ e) × (e < j) × (j ≤ length src)
quoted_le src i e j q = grind (arith, from_le)

pub quoted_cut : (src : List ℕ) (i e j : ℕ) → IsUtf8 src → IsQuoted src i e j → IsCharBoundary src j
quoted_cut src i e j utf8 q =
    let low = quote_ascii (byte src i) q.0 in let same = quoted_closes src i e j q in
    cut_behind src e (byte src i) j utf8 same (omega arith) (omega arith) q.3

-- What is there is read.
pub quoted_complete : (src : List ℕ) (i e j : ℕ) → IsQuoted src i e j → quoted_at src i ≡ Ok (slice src (i + 1) e, j)
unfolding quoted_at
quoted_complete src i e j q = grind (arith, quote_complete, byte_complete, quoted_closes)

-- ---- what is asked for

-- A character begins after a word whose last byte is this.
pub word_cut : (w : Word) (src : List ℕ) (i n b : ℕ) → IsUtf8 src → at w src i ≡ true → n < length (word_text w) → byte (word_text w) n ≡ b → 0 < b → b < 128 → IsCharBoundary src (i + n + 1)
word_cut w src i n b utf8 is here last some low =
    cut_behind src (i + n) b (i + n + 1) utf8 ((stands_reads (word_text w) src i n is here) ∙ last) some low refl

-- Six bytes.
pub six_cut : (w : Word) (src : List ℕ) (i b : ℕ) → IsUtf8 src → at w src i ≡ true → 5 < length (word_text w) → byte (word_text w) 5 ≡ b → 0 < b → b < 128 → IsCharBoundary src (i + 6)
six_cut w src i b utf8 is here last some low = let e : i + 5 + 1 ≡ i + 6 = omega arith in subst (IsCharBoundary src) e (word_cut w src i 5 b utf8 is here last some low)

-- What is read is there.
pub external_sound : (src : List ℕ) (i : ℕ) (x : Request × ℕ) → external_id_at src i ≡ Ok x → IsExternalID src i x.0 x.1
unfolding external_id_at system_at public_at
external_sound src i x h =
    chosen (at word.System src i) _ _ _ h
    (λ is h. bind_ok (space_at src (i + 6)) _ _ h (λ s spaced h. bind_ok (quoted_at src s.1) _ _ h (λ uri quoted h.
    let q = quoted_sound src s.1 uri quoted in
    let text = q.1 in
    let e : ◌≡◌ {A = Request × ℕ} (record { public_id = None; uri = slice src (s.1 + 1) (quoted_end src s.1) }, uri.1) x = rw text at (ok_same _ _ h) in
    subst (λ (x : Request × ℕ). IsExternalID src i x.0 x.1) e (system i s.1 (quoted_end src s.1) uri.1 is (space_sound src (i + 6) s spaced) q.0))))
    (λ none h. chosen (at word.Public src i) _ _ _ h
    (λ is h. bind_ok (space_at src (i + 6)) _ _ h (λ p spaced h. bind_ok (quoted_at src p.1) _ _ h (λ id quoted h.
    bind_ok (space_at src id.1) _ _ h (λ s spaced' h. bind_ok (quoted_at src s.1) _ _ h (λ uri quoted' h.
    let q = quoted_sound src p.1 id quoted in
    let q' = quoted_sound src s.1 uri quoted' in
    let text = q.1 in let text' = q'.1 in
    let e : ◌≡◌ {A = Request × ℕ} (record { public_id = Some (slice src (p.1 + 1) (quoted_end src p.1)); uri = slice src (s.1 + 1) (quoted_end src s.1) }, uri.1) x = rw (text, text') at (ok_same _ _ h) in
    subst (λ (x : Request × ℕ). IsExternalID src i x.0 x.1) e
    (public i p.1 (quoted_end src p.1) id.1 s.1 (quoted_end src s.1) uri.1 is (space_sound src (i + 6) p spaced) q.0 (space_sound src id.1 s spaced') q'.0))))))
    (λ none h. cc))

-- What is there is read.
pub external_complete : (src : List ℕ) (i : ℕ) (request : Request) (j : ℕ) → IsUtf8 src → IsExternalID src i request j → external_id_at src i ≡ Ok (request, j)
unfolding external_id_at system_at public_at
external_complete src i request j utf8 (system _ s e _ is sp q) =
    let a = space_complete src (i + 6) s utf8 (six_cut word.System src i 77 utf8 is (omega arith) refl (omega arith) (omega arith)) sp in
    rw (is, a, (quoted_complete src s e j q)) refl
external_complete src i request j utf8 (public _ p d k s e _ is sp q sp' q') =
    let none : at word.System src i ≡ false = false_from_ne_true _ (λ h.
    (let one : byte src (i + 0) ≡ 83 = stands_reads (word_text word.System) src i 0 h (omega arith) in
    let two : byte src (i + 0) ≡ 80 = stands_reads (word_text word.Public) src i 0 is (omega arith) in
    omega arith)) in
    let a = space_complete src (i + 6) p utf8 (six_cut word.Public src i 67 utf8 is (omega arith) refl (omega arith) (omega arith)) sp in
    let c = space_complete src k s utf8 (quoted_cut src p d k utf8 q) sp' in
    rw (none, is, a, (quoted_complete src p d k q), c, (quoted_complete src s e j q')) refl

-- A character begins after it, within the source.
pub external_cut : (src : List ℕ) (i : ℕ) (request : Request) (j : ℕ) → IsUtf8 src → IsExternalID src i request j → IsCharBoundary src j × (i < j) × (i < length src)
external_cut src i request j utf8 (system _ s e _ is sp q) =
    let some = sp.0 in let le = quoted_le src s e j q in
    (quoted_cut src s e j utf8 q, omega arith, omega arith)
external_cut src i request j utf8 (public _ p d k s e _ is sp q sp' q') =
    let some = sp.0 in let le = quoted_le src p d k q in let some' = sp'.0 in let le' = quoted_le src s e j q' in
    (quoted_cut src s e j utf8 q', omega arith, omega arith)

-- Its first byte.
pub external_byte : (src : List ℕ) (i : ℕ) (request : Request) (j : ℕ) → IsExternalID src i request j → (byte src i ≡ 83) ⊎ (byte src i ≡ 80)
external_byte src i request j (system _ s e _ is sp q) =
    let zero : i + 0 ≡ i = omega arith in
    let b : byte src (i + 0) ≡ 83 = stands_reads (word_text word.System) src i 0 is (omega arith) in
    inl (rw zero at b)
external_byte src i request j (public _ p d k s e _ is sp q sp' q') =
    let zero : i + 0 ≡ i = omega arith in
    let b : byte src (i + 0) ≡ 80 = stands_reads (word_text word.Public) src i 0 is (omega arith) in
    inr (rw zero at b)

-- ---- the name of a notation

-- A name that is read, or the end of the text.
pub name_or_end : (src : List ℕ) (i : ℕ) (x : List ℕ × ℕ) → name_or_end_at src i ≡ Ok x → (IsName src i x.1 × (x.0 ≡ slice src i x.1)) ⊎ ((length src ≤ i) × (x.1 ≡ i))
unfolding name_or_end_at
name_or_end src i x h = grind (arith, name_sound)

-- A name that is there is read.
named_there : (src : List ℕ) (i j : ℕ) → IsName src i j → name_or_end_at src i ≡ Ok (slice src i j, j)
unfolding name_or_end_at
named_there src i j name = grind (arith, begins_within, name_complete)

-- What is read of it is there, or the text is cut off before its name.
pub notation_sound : (parameter : Bool) (src : List ℕ) (i : ℕ) (x : Unit {0} × ℕ) → notation_at parameter src i ≡ Ok x → MayHaveNotation src parameter i x.1 ⊎ CutsNotation src parameter i x.1
unfolding notation_at
notation_sound true src i x h = let e : i ≡ x.1 = ap (λ p. p.1) (ok_same _ _ h) in inl (subst (MayHaveNotation src true i) e (of_parameter i))
notation_sound false src i x h =
    chosen (at word.NData src (spaces_end src i)) _ _ _ h
    (λ is h. bind_ok (space_at src (spaces_end src i + 5)) _ _ h (λ s spaced h. bind_ok (name_or_end_at src s.1) _ _ h (λ n named h.
    let sp = space_sound src (spaces_end src i + 5) s spaced in
    let e : n.1 ≡ x.1 = ap (λ p. p.1) (ok_same _ _ h) in
    elim (name_or_end src s.1 n named) as (λ _. MayHaveNotation src false i x.1 ⊎ CutsNotation src false i x.1) [
      | inl name ↦ inl (subst (MayHaveNotation src false i) e (notation i s.1 n.1 is sp name.0))
      | inr cut ↦ inr (let e' : s.1 ≡ x.1 = sym cut.1 ∙ e in cuts_name i x.1 is (subst (IsSpace src (spaces_end src i + 5)) e' sp) (subst (λ (k : ℕ). length src ≤ k) e' cut.0))
    ])))
    (λ none h. let e : spaces_end src i ≡ x.1 = ap (λ p. p.1) (ok_same _ _ h) in inl (subst (MayHaveNotation src false i) e (no_notation i none)))

-- What is there is read.
pub notation_complete : (parameter : Bool) (src : List ℕ) (i j : ℕ) → IsUtf8 src → MayHaveNotation src parameter i j → notation_at parameter src i ≡ Ok (tt, j)
unfolding notation_at
notation_complete parameter src i j utf8 (notation _ s _ is sp name) =
    let cut = subst (IsCharBoundary src) (omega arith) (word_cut word.NData src (spaces_end src i) 4 65 utf8 is (omega arith) refl (omega arith) (omega arith)) in
    rw (is, (space_complete src (spaces_end src i + 5) s utf8 cut sp), (named_there src s j name)) refl
notation_complete parameter src i j utf8 (no_notation _ none) = rw none refl
notation_complete parameter src i j utf8 (of_parameter _) = refl

-- ---- what an entity is

-- What is there, by what is read.
abbrev pub Defines : List ℕ → (parameter : Bool) → ℕ → Definition → ℕ → Type 0
Defines src parameter i (inner t) j = (e : ℕ) × IsQuoted src i e j × (t ≡ record { source = take e src; start = i + 1 })
Defines src parameter i (outer request) j = (n : ℕ) × IsExternalID src i request n × (MayHaveNotation src parameter n j ⊎ CutsNotation src parameter n j)

pub definition_sound : (parameter : Bool) (src : List ℕ) (i : ℕ) (x : Definition × ℕ) → definition_at parameter src i ≡ Ok x → Defines src parameter i x.0 x.1
unfolding definition_at
definition_sound parameter src i x h =
    chosen (leb (length src) i) _ _ _ h (λ out h. cc) (λ inside h.
    chosen (byte src i == 34 || byte src i == 39) _ _ _ h
    (λ quote h. bind_ok (quoted_at src i) _ _ h (λ q quoted h.
    let e = quoted_end src i in
    let s = quoted_sound src i q quoted in
    let le = quoted_le src i e q.1 s.0 in
    let long : length q.0 ≡ e - (i + 1) = ap length s.1 ∙ range_length src (i + 1) e le.0 (omega (arith, s.0.2)) in
    let to : i + 1 + length q.0 ≡ e = omega (arith, le.0) in
    let t_is : ◌≡◌ {A = Replacement} (record { source = take (i + 1 + length q.0) src; start = i + 1 }) (record { source = take e src; start = i + 1 }) = rw to refl in
    subst (λ (x : Definition × ℕ). Defines src parameter i x.0 x.1) (ok_same _ _ h) (e, s.0, t_is)))
    (λ bare h. chosen (byte src i == 83 || byte src i == 80) _ _ _ h
    (λ some h. bind_ok (external_id_at src i) _ _ h (λ n external h. bind_ok (notation_at parameter src n.1) _ _ h (λ y noted h.
    subst (λ (x : Definition × ℕ). Defines src parameter i x.0 x.1) (ok_same _ _ h)
    (n.1, external_sound src i n external, notation_sound parameter src n.1 y noted))))
    (λ none h. cc)))

-- The text in quotes that is there is read.
pub inner_complete : (parameter : Bool) (src : List ℕ) (i e j : ℕ) → IsQuoted src i e j → definition_at parameter src i ≡ Ok (inner (record { source = take e src; start = i + 1 }), j)
unfolding definition_at
inner_complete parameter src i e j q =
    let low = quote_ascii (byte src i) q.0 in
    let test : (byte src i == 34 || byte src i == 39) ≡ true = elim q.0 as (λ _. (byte src i == 34 || byte src i == 39) ≡ true) [ inl a ↦ or_right _ _ (eq-eqb _ _ a) | inr b ↦ or_left _ _ (eq-eqb _ _ b) ] in
    let le = quoted_le src i e j q in
    let long = range_length src (i + 1) e le.0 (omega (arith, q.2)) in
    let to : i + 1 + length (slice src (i + 1) e) ≡ e = omega (arith, le.0) in
    rw ((lt-leb (length src) i (within src i (λ z. omega arith))), test, (quoted_complete src i e j q), to) refl

-- So is what is asked for.
pub outer_complete : (parameter : Bool) (src : List ℕ) (i n j : ℕ) (request : Request) → IsUtf8 src → IsExternalID src i request n → MayHaveNotation src parameter n j
    → definition_at parameter src i ≡ Ok (outer request, j)
unfolding definition_at
outer_complete parameter src i n j request utf8 is may =
    let b = external_byte src i request n is in
    let k = lt-leb (length src) i (external_cut src i request n utf8 is).2 in
    let some : (byte src i == 83 || byte src i == 80) ≡ true = elim b as (λ _. (byte src i == 83 || byte src i == 80) ≡ true) [ inl a ↦ or_left _ _ (eq-eqb _ _ a) | inr b ↦ or_right _ _ (eq-eqb _ _ b) ] in
    let bare : (byte src i == 34 || byte src i == 39) ≡ false = elim b as (λ _. (byte src i == 34 || byte src i == 39) ≡ false) [
      | inl a ↦ or_from _ _ (ne_eqb (byte src i) 34 (λ e. omega (arith, e, a))) (ne_eqb (byte src i) 39 (λ e. omega (arith, e, a)))
      | inr c ↦ or_from _ _ (ne_eqb (byte src i) 34 (λ e. omega (arith, e, c))) (ne_eqb (byte src i) 39 (λ e. omega (arith, e, c)))
    ] in
    rw (k, bare, some, (external_complete src i request n utf8 is), (notation_complete parameter src n j utf8 may)) refl

-- ---- how a declaration of an entity begins

pub kind_sound : (src : List ℕ) (i : ℕ) (x : Bool × ℕ) → kind_at src i ≡ Ok x → IsKind src i x.0 x.1
unfolding kind_at
kind_sound src i x h =
    chosen (byte src i == 37) _ _ _ h
    (λ is h. bind_ok (space_at src (i + 1)) _ _ h (λ s spaced h.
    subst (λ (x : Bool × ℕ). IsKind src i x.0 x.1) (ok_same _ _ h) (grammar.of_parameter i s.1 (eqb-true _ _ is) (space_sound src (i + 1) s spaced))))
    (λ none h. subst (λ (x : Bool × ℕ). IsKind src i x.0 x.1) (ok_same _ _ h) (grammar.general i (eqb-false _ _ none)))

pub kind_complete : (src : List ℕ) (i : ℕ) (parameter : Bool) (j : ℕ) → IsUtf8 src → IsKind src i parameter j → kind_at src i ≡ Ok (parameter, j)
unfolding kind_at
kind_complete src i parameter j utf8 (grammar.of_parameter _ _ is sp) =
    let a = space_complete src (i + 1) j utf8 (cut_behind src i 37 (i + 1) utf8 is (omega arith) (omega arith) refl) sp in
    rw ((eq-eqb _ _ is), a) refl
kind_complete src i parameter j utf8 (grammar.general _ apart) = let e = ne_eqb _ _ apart in rw e refl

kind_cut : (src : List ℕ) (i : ℕ) (parameter : Bool) (j : ℕ) → IsUtf8 src → IsCharBoundary src i → IsKind src i parameter j → IsCharBoundary src j × (i ≤ j)
kind_cut src i parameter j utf8 cut (grammar.of_parameter _ _ is sp) =
    (space_cut src (i + 1) j utf8 (cut_behind src i 37 (i + 1) utf8 is (omega arith) (omega arith) refl) sp, omega arith)
kind_cut src i parameter j utf8 cut (grammar.general _ apart) = (cut, omega arith)

-- What is read is there.
pub head_sound : (src : List ℕ) (i : ℕ) (x : EntityHead × ℕ) → at word.EntityStart src i ≡ true → entity_head_at src i ≡ Ok x
    → (n : ℕ) × (m : ℕ) × BeginsEntity src i x.0.parameter n m x.1 × (x.0.name ≡ slice src n m)
unfolding entity_head_at
head_sound src i x opens h =
    bind_ok (space_at src (i + 8)) _ _ h (λ k spaced h. bind_ok (kind_at src k.1) _ _ h (λ kind kinded h. bind_ok (name_at src kind.1) _ _ h (λ name named h. bind_ok (space_at src name.1) _ _ h (λ d spaced' h.
    let n = name_sound src kind.1 name named in
    subst (λ (x : EntityHead × ℕ). (n : ℕ) × (m : ℕ) × BeginsEntity src i x.0.parameter n m x.1 × (x.0.name ≡ slice src n m)) (ok_same _ _ h) (
      kind.1,
      name.1,
      entity_begins k.1 opens (space_sound src (i + 8) k spaced) (kind_sound src k.1 kind kinded) n.0 (space_sound src name.1 d spaced'),
      n.1,
    )))))

-- A character begins at each of its places.
pub record HeadCuts (src : List ℕ) (i : ℕ) (parameter : Bool) (n m d : ℕ) (b : BeginsParts src i parameter n m d) : Type 0 where
  pub at_word : IsCharBoundary src (i + 8)
  pub at_kind : IsCharBoundary src b.k
  pub at_name : IsCharBoundary src n
  pub behind_name : IsCharBoundary src m
  pub at_definition : IsCharBoundary src d
  pub forward : i < d

pub head_cuts : (src : List ℕ) (i : ℕ) (parameter : Bool) (n m d : ℕ) → IsUtf8 src → (b : BeginsParts src i parameter n m d) → HeadCuts src i parameter n m d b
head_cuts src i parameter n m d utf8 b =
    let last : i + 7 + 1 ≡ i + 8 = omega arith in
    let one = subst (IsCharBoundary src) last (word_cut word.EntityStart src i 7 89 utf8 b.opens (omega arith) refl (omega arith) (omega arith)) in
    let two = space_cut src (i + 8) b.k utf8 one b.space_before in
    let three = kind_cut src b.k parameter n utf8 two b.is_kind in
    let four : IsCharBoundary src m = rw b.name.longest (run_cut is_name_char src n utf8 three.0) in
    let some = b.space_before.0 in let some' = b.space_behind.0 in
    record { at_word = one; at_kind = two; at_name = three.0; behind_name = four; at_definition = space_cut src m d utf8 four b.space_behind; forward = omega (arith, three.1, run_end_le is_name_char src n) }

-- It goes forward.
pub head_moves : (src : List ℕ) (i : ℕ) (parameter : Bool) (n m d : ℕ) → IsUtf8 src → BeginsEntity src i parameter n m d → (i < d) × (i < length src)
head_moves src i parameter n m d utf8 is =
    let c = head_cuts src i parameter n m d utf8 (begins_parts is) in
    (c.forward, omega arith)

-- What is there is read.
pub head_complete : (src : List ℕ) (i : ℕ) (parameter : Bool) (n m d : ℕ) → IsUtf8 src → BeginsEntity src i parameter n m d
    → entity_head_at src i ≡ Ok (record { parameter = parameter; name = slice src n m }, d)
unfolding entity_head_at
head_complete src i parameter n m d utf8 is =
    let b = begins_parts is in
    let c = head_cuts src i parameter n m d utf8 b in
    let four = space_complete src m d utf8 c.behind_name b.space_behind in
    rw ((space_complete src (i + 8) b.k utf8 c.at_word b.space_before), (kind_complete src b.k parameter n utf8 b.is_kind), (name_complete src n m b.name), four) refl

-- ---- how a document type declaration begins

pub if_sound : (src : List ℕ) (i : ℕ) (x : Unit {0} × ℕ) → external_id_if src i ≡ Ok x → MayHaveExternalID src i x.1
unfolding external_id_if
if_sound src i x h =
    chosen (at word.System src i || at word.Public src i) _ _ _ h
    (λ some h. bind_ok (external_id_at src i) _ _ h (λ y read h.
    let e : y.1 ≡ x.1 = ap (λ p. p.1) (ok_same _ _ h) in
    subst (MayHaveExternalID src i) e (external_id i y.1 y.0 (external_sound src i y read))))
    (λ none h.
    let both = or_parts (at word.System src i) (at word.Public src i) none in
    let e : i ≡ x.1 = ap (λ p. p.1) (ok_same _ _ h) in
    subst (MayHaveExternalID src i) e (no_external_id i both.0 both.1))

pub if_complete : (src : List ℕ) (i j : ℕ) → IsUtf8 src → MayHaveExternalID src i j → external_id_if src i ≡ Ok (tt, j)
unfolding external_id_if
if_complete src i j h k = grind (arith, external_complete)

-- Past the end there is none.
if_past : (src : List ℕ) (i j : ℕ) → IsUtf8 src → length src ≤ i → MayHaveExternalID src i j → i ≤ j
if_past src i j utf8 past p = grind (arith, external_cut)

-- What is read is there, unless the text is cut off before the name.
pub doctype_head_sound : (src : List ℕ) (i : ℕ) (x : Unit {0} × ℕ) → IsUtf8 src → at word.DoctypeStart src i ≡ true → doctype_head_at src i ≡ Ok x → x.1 < length src → BeginsDoctype src i x.1
unfolding doctype_head_at
doctype_head_sound src i x utf8 opens h inside =
    bind_ok (space_at src (i + 9)) _ _ h (λ n spaced h. bind_ok (name_or_end_at src n.1) _ _ h (λ name named h. bind_ok (external_id_if src (spaces_end src name.1)) _ _ h (λ y may h.
    let m = if_sound src (spaces_end src name.1) y may in
    elim (name_or_end src n.1 name named) as (λ _. BeginsDoctype src i x.1) [
      | inl is ↦ subst (BeginsDoctype src i) (ap (λ p. p.1) (ok_same _ _ h)) (doctype_begins n.1 name.1 y.1 opens (space_sound src (i + 9) n spaced) is.0 m)
      | inr cut ↦ grind (arith, run_end_le, if_past)
    ])))

-- What is there is read.
pub doctype_head_complete : (src : List ℕ) (i s : ℕ) → IsUtf8 src → BeginsDoctype src i s → doctype_head_at src i ≡ Ok (tt, s)
unfolding doctype_head_at
doctype_head_complete src i s utf8 (doctype_begins n m x opens space name external) =
    let cut = subst (IsCharBoundary src) (omega arith) (word_cut word.DoctypeStart src i 8 69 utf8 opens (omega arith) refl (omega arith) (omega arith)) in
    rw ((space_complete src (i + 9) n utf8 cut space), (named_there src n m name), (if_complete src (spaces_end src m) x utf8 external)) refl
