-- A document type declaration is read as the grammar says, its entities are text, and what was asked for them is there.
use Rattle.std.proofs.Common.{◌≡◌, ℕ, zero, suc, ◌+◌, ◌<◌, ◌≤◌, ◌⊎◌, ◌==◌, Bool, true, false, nat_le, List, [], ◌∷◌, ◌++◌, length, take, Option, Ok, Err, refl, sym, ap, ◌∙◌, subst, arith, inl, inr, IsUtf8, IsCharBoundary, append-nil, get_or-take, length-take-le}
use Rattle.std.specs.Prelude.{bytes_eq}
use Rattle.std.proofs.lemmas.Str.{IsUtf8-take, IsUtf8-drop, IsCharBoundary-start, IsCharBoundary-after_ascii}
use Rattle.std.proofs.lemmas.Bool.{cond_both, leb-false, eqb-true, false≢true}
use Rattle.rox_grammar.specs.declared.fault.Word.TheVariants as word
use Rattle.rox_grammar.specs.Chars.{is_space}
use Rattle.rox_grammar.specs.Forest.{Forest, Nil, join}
use Rattle.rox_grammar.specs.Written.{Item}
use Rattle.rox_grammar.specs.Names.{byte, slice, spaces_end}
use Rattle.rox_grammar.specs.FixedTexts.{at}
use Rattle.rox_grammar.specs.TextStart.{after_bom}
use Rattle.rox_grammar.specs.Entities.{Replacement, Entity}
use Rattle.rox_grammar.specs.Doctype.{Asked, IsQuoted, GivesReplacement, nothing, the_rest, IsDefinition, internal, external, entry, IsEntityDeclaration, entity_declaration, Subset, no_more, space, an_item, skipped_declaration, an_entity, BeginsDoctype, IsDoctype, no_subset, with_subset}
use Rattle.rox_grammar.specs.Document.{Permits}
use Rattle.rox_theory.specs.ParseParts.{MayHaveDoctype, doctype, no_doctype}
use Rattle.rox_grammar.specs.State.{Open, root}
use Rattle.rox_grammar.proofs.FirstEntity.{text_of_first}
use Rattle.rox_reading.specs.Refusals.{Refusal, here, there, refused, lifted}
use Rattle.rox_reading.specs.State.{State}
use Rattle.rox_reading.specs.Machine.{at_place}
use Rattle.rox_reading.specs.Doctype.{Reply, Asks, Dtd, replies_of, AreTextReplies, with_state, doctype_head_at, doctype_step}
use Rattle.rox_reading.specs.WholeText.{misc}
use Rattle.rox_reading.specs.WholeText as whole
use Rattle.rox_reading.specs.Answering.{Answered}
use Rattle.rox_reading.proofs.Settling.{step_run, doctype_plain, doctype_subset, no_doctype_here, doctype_read}
use Rattle.rox_reading.proofs.Forests.{join-nil, join_assoc}
use Rattle.rox_theory.specs.Openers.{AreTexts}
use Rattle.rox_theory.specs.ValidState.{IsValidState, state}
use Rattle.rox_theory.proofs.Basics.{ok_same, chosen, within, run_end_le}
use Rattle.rox_theory.proofs.Asking.{asking_ok, asks_none, nothing_lifted_ok}
use Rattle.rox_theory.proofs.Constructions.{comment_bytes, instruction_bytes}
use Rattle.rox_theory.proofs.CharTexts.{cut_at, cut_behind}
use Rattle.rox_theory.proofs.Leaves.{fine_there, fine_before}
use Rattle.rox_theory.proofs.DoctypeParts.{passed_end}
use Rattle.rox_theory.proofs.DoctypeLemmas.{quoted_closes, quoted_le, doctype_head_sound, doctype_head_complete}
use Rattle.rox_theory.proofs.Around.{Stops, DoctypesAgree, bom_cut, prolog_cut, misc_sound, misc_complete, doctype_opens}
use Rattle.rox_theory.proofs.EntityLemmas.{either}
use Rattle.rox_theory.proofs.Subsets.{Later, HasLater, RefusalStands, Closes, SubsetOutcome, subset_outcome}
use Rattle.rox_theory.proofs.SubsetsRead.{here_at, subset_complete}

-- ---- entities are text

-- Each of the texts is.
abbrev pub IsText : Replacement → Type 0
IsText t = IsUtf8 t.source × IsCharBoundary t.source t.start

abbrev pub EachIsText : List Entity → Type 0
EachIsText [] = Unit {0}
EachIsText (e ∷ es) = IsText e.text × EachIsText es

each_both : (es more : List Entity) → EachIsText es → EachIsText more → EachIsText (es ++ more)
each_both [] more h k = k
each_both (e ∷ es) more h k = (h.0, each_both es more h.1 k)

-- So are those that names have.
each_named : (es : List Entity) → EachIsText es → AreTexts es
each_named [] each name t h = cc h
each_named (e ∷ es) each name t h =
    chosen (bytes_eq e.name name) _ _ _ (sym (text_of_first e es name) ∙ h)
    (λ this h. let is : e.text ≡ t = cc in subst IsText is each.0)
    (λ other h. each_named es each.1 name t h)

module _ (src : List ℕ) (utf8 : IsUtf8 src) where
  quoted_text : (i e j : ℕ) → IsQuoted src i e j → IsText (record { source = take e src; start = i + 1 })
  quoted_text i e j q =
      let le = quoted_le src i e j q in
      let cut = cut_at src e (byte src i) (quoted_closes src i e j q) (omega arith) (omega arith) in
      let front = IsUtf8-take src e utf8 cut in
      let long : length (take e src) ≡ e = length-take-le e src (omega (arith, q.2)) in
      let same : byte (take e src) i ≡ byte src i = get_or-take e src i 0 (omega (arith, le.0)) in
      (front, IsCharBoundary-after_ascii (take e src) i front (omega (arith, le.0)) (omega arith))

  given_text : (name : List ℕ) (answer : Option (List ℕ)) (text : Option Replacement) → GivesReplacement answer text → EachIsText (entry name text)
  given_text name answer text nothing = tt
  given_text name answer text (the_rest t d is may) =
      let rest = IsUtf8-drop t d is (prolog_cut t is (after_bom t) d (bom_cut t is) may) in
      ((rest, IsCharBoundary-start _ rest), tt)

  declared_text : (i j : ℕ) (asked : List Asked) (es : List Entity) → IsEntityDeclaration src i j asked es → EachIsText es
  declared_text i j asked es (entity_declaration parameter n m d e first text begins definition closes) = by_definition text first definition
    where
      by_definition : (text : Option Replacement) (asked : List Asked) → IsDefinition src parameter d e asked text → EachIsText (entry (slice src n m) text)
      by_definition text asked (internal _ c _ q) = (quoted_text d c e q, tt)
      by_definition text asked (external _ x _ request answer _ is may gives) = given_text (slice src n m) answer text gives

  subset_texts : (i k : ℕ) (items : Forest Item) (asked : List Asked) (es : List Entity) → Subset src i k items asked es → EachIsText es
  subset_texts i k items asked es (no_more _) = tt
  subset_texts i k items asked es (space _ _ _ _ _ is rest) = subset_texts (i + 1) k items asked es rest
  subset_texts i k items asked es (an_item _ j _ item more _ _ is rest) = subset_texts j k more asked es rest
  subset_texts i k items asked es (skipped_declaration _ _ _ _ _ opens closes rest) = subset_texts (passed_end src i) k items asked es rest
  subset_texts i k items asked es (an_entity _ j _ _ first more one others is rest) = each_both one others (declared_text i j first one is) (subset_texts j k items more others rest)

  doctype_texts : (i j : ℕ) (items : Forest Item) (asked : List Asked) (es : List Entity) → IsDoctype src i j items asked es → EachIsText es
  doctype_texts i j items asked es h = grind (arith, subset_texts)

  -- Each entity that is declared is text.
  pub texts_agree : (i j : ℕ) (dtd : Bool) (nodes : Forest Item) (asked : List Asked) (es : List Entity) → MayHaveDoctype src i j dtd nodes asked es → AreTexts es
  texts_agree i j dtd nodes asked es (doctype _ k _ items others _ _ is rest) = each_named es (doctype_texts i k items asked es is)
  texts_agree i j dtd nodes asked es (no_doctype _) = each_named [] tt

-- ---- what is asked within one

-- Where its items begin.
pub record Opened (src : List ℕ) (i : ℕ) : Type 0 where
  pub s : ℕ
  pub begins : BeginsDoctype src i s
  pub bracket : byte src s ≡ 91

-- Nothing is asked, or what is in it.
abbrev pub HasWithin : List ℕ → ℕ → List Asked → Type 0
HasWithin src i asked = (asked ≡ []) ⊎ ((o : Opened src i) × HasLater src (o.s + 1) asked)

abbrev pub RefusedWithin : List ℕ → ℕ → List Asked → Refusal → Type 0
RefusedWithin src i asked (here f) = Unit {0}
RefusedWithin src i asked (there source f) = Unit {0}
RefusedWithin src i asked (refused request p message) = (o : Opened src i) × Later src (o.s + 1) asked request p

refused_opened : (src : List ℕ) (i : ℕ) (o : Opened src i) (asked : List Asked) (e : Refusal) → RefusalStands src (o.s + 1) asked e → RefusedWithin src i asked e
refused_opened src i o asked (here f) h = tt
refused_opened src i o asked (there source f) h = tt
refused_opened src i o asked (refused request p message) h = (o, h)

-- ---- what is read is there

-- It is read to its end, or it is cut off by the end of the text.
pub record StepRead (most : ℕ) (src : List ℕ) (d : Dtd) (asked : List Asked) (e : Dtd) : Type 0 where
  pub items : Forest Item
  pub es : List Entity
  pub found : (IsDoctype src d.state.at e.state.at items asked es × IsCharBoundary src e.state.at) ⊎ (length src ≤ e.state.at)
  pub state_is : e.state ≡ state e.state.at (join d.state.done items) d.state.stack d.state.openings_left
  pub entities_are : e.entities ≡ d.entities ++ es
  pub fine : IsValidState most e.state

abbrev pub StepOutcome : ℕ → List ℕ → Dtd → Asks Dtd → Type 0
StepOutcome most src d (asked, Ok e) = HasWithin src d.state.at asked × StepRead most src d asked e
StepOutcome most src d (asked, Err e) = HasWithin src d.state.at asked × RefusedWithin src d.state.at asked e

module _ (src : List ℕ) (utf8 : IsUtf8 src) where
  -- Of the items and the end after them.
  closed_doctype : (i s j : ℕ) (items : Forest Item) (asked : List Asked) (es : List Entity) → BeginsDoctype src i s → byte src s ≡ 91 → Closes src (s + 1) j items asked es
      → IsDoctype src i j items asked es × IsCharBoundary src j
  closed_doctype i s j items asked es begins bracket c =
      let next = c.next in (
        subst (λ (j : ℕ). IsDoctype src i j items asked es) (sym next) (with_subset i s c.k items asked es begins bracket c.subset c.bracket c.closes),
        cut_behind src (spaces_end src (c.k + 1)) 62 j utf8 c.closes (omega arith) (omega arith) next,
      )

  -- The items, from what is read of them.
  subset_outcome_is : (most i s : ℕ) (d : Dtd) → BeginsDoctype src i s → byte src s ≡ 91 → d.state.at ≡ i → (r : Asks Dtd) → SubsetOutcome most src (with_state d (at_place (s + 1) d.state)) r → StepOutcome most src d r
  subset_outcome_is most i s d begins bracket here_is (asked, Ok e) h =
      let o : Opened src d.state.at = record { s = s; begins = rw here_is begins; bracket = bracket } in
      let r = h.1 in
      let found : (IsDoctype src d.state.at e.state.at r.items asked r.es × IsCharBoundary src e.state.at) ⊎ (length src ≤ e.state.at) = grind (arith, closed_doctype) in
      (inr (o, h.0), record { items = r.items; es = r.es; found = found; state_is = r.state_is; entities_are = r.entities_are; fine = r.fine })
  subset_outcome_is most i s d begins bracket here_is (asked, Err e) h =
      let o : Opened src d.state.at = record { s = s; begins = rw here_is begins; bracket = bracket } in
      (inr (o, h.0), refused_opened src d.state.at o asked e h.1)

  pub step_outcome : (limit most : ℕ) (d : Dtd) → limit ≤ most → at word.DoctypeStart src d.state.at ≡ true → IsValidState most d.state → AreTextReplies d.replies → StepOutcome most src d (doctype_step limit src d)
  unfolding doctype_step
  step_outcome limit most d limits opens fine texts =
      let S : Asks Dtd → Type 0 = StepOutcome most src d in
      either (doctype_head_at src d.state.at)
      (λ head is. rw is
      (cond_both (nat_le (length src) head.1) _ _ S (λ out. (inl refl, tt)) (λ inside.
      let begins = doctype_head_sound src d.state.at head utf8 opens is (leb-false _ _ inside) in
      cond_both (byte src head.1 == 62) _ _ S
      (λ closes.
      let last = eqb-true _ _ closes in
      let cut = cut_behind src head.1 62 (head.1 + 1) utf8 last (omega arith) (omega arith) refl in (
        inl refl,
        record {
          items = Nil;
          es = [];
          found = inl (no_subset d.state.at head.1 begins last, cut);
          state_is = rw join-nil refl;
          entities_are = sym (append-nil d.entities);
          fine = fine_there most d.state (at_place (head.1 + 1) d.state) refl refl fine;
        },
      ))
      (λ other. cond_both (byte src head.1 == 91) _ _ S
      (λ opened.
      let bracket = eqb-true _ _ opened in
      let cut = cut_behind src head.1 91 (head.1 + 1) utf8 bracket (omega arith) (omega arith) refl in
      subset_outcome_is most d.state.at head.1 d begins bracket refl _
      (subset_outcome src utf8 (length src) limit most d.state.at (with_state d (at_place (head.1 + 1) d.state)) limits cut (fine_there most d.state (at_place (head.1 + 1) d.state) refl refl fine) texts (omega arith)))
      (λ none. (inl refl, tt))))))
      (λ f ill. rw ill (inl refl, tt))

-- ---- what is there is read

module _ (src : List ℕ) (utf8 : IsUtf8 src) where
  step_complete : (limit i j : ℕ) (items done : Forest Item) (stack : Open) (openings_left : ℕ) (asked : List Asked) (more es : List Entity) → IsDoctype src i j items asked more → IsValidState limit (state j (join done items) stack openings_left)
      → Answered (step_run limit src (here_at i done stack openings_left es)) asked (here_at j (join done items) stack openings_left (es ++ more))
  step_complete limit i j items done stack openings_left asked more es (no_subset _ s begins closes) fine =
      rw (join-nil, append-nil) (doctype_plain limit src (here_at i done stack openings_left es) tt s (doctype_head_complete src i s utf8 begins) (within src s (λ z. omega arith)) closes)
  step_complete limit i j items done stack openings_left asked more es (with_subset _ s k _ _ _ begins bracket rest ends closes) fine =
      let inside = within src s (λ z. omega arith) in
      let fine' = fine_there limit (state (spaces_end src (k + 1) + 1) (join done items) stack openings_left) (state k (join done items) stack openings_left) refl refl fine in
      doctype_subset limit src (here_at i done stack openings_left es) tt s (doctype_head_complete src i s utf8 begins) inside asked (here_at (spaces_end src (k + 1) + 1) (join done items) stack openings_left (es ++ more)) bracket
      (subset_complete src utf8 limit i stack openings_left (length src) (s + 1) k items done asked more es rest ends closes fine' (omega arith))

  -- Past the end nothing follows it.
  pub misc_past : (n limit : ℕ) (s t : State) → length src ≤ s.at → misc limit n src s ≡ Ok t → length src ≤ t.at
  unfolding misc
  misc_past zero limit s t past h = let e : s ≡ t = ok_same _ _ h in subst (λ (t : State). length src ≤ t.at) e past
  misc_past (suc n) limit s t past h =
      let far = run_end_le is_space src s.at in
      let i = spaces_end src s.at in
      chosen (at word.CommentStart src i) _ _ _ h (λ is h. absurd (let b = comment_bytes src i is in omega arith)) (λ none h.
      chosen (at word.PIStart src i) _ _ _ h (λ is h. absurd (let b = instruction_bytes src i is in omega arith)) (λ none h.
      let e : at_place i s ≡ t = ok_same _ _ h in subst (λ (t : State). length src ≤ t.at) e (omega (arith, past, far))))

  module _ (allow : Bool) where
    -- What is read of it from these items on.
    abbrev DoctypeRead : ℕ → ℕ → Forest Item → List Asked → Dtd → Type 0
    DoctypeRead most i before asked d =
        (dtd : Bool) × (nodes : Forest Item) × MayHaveDoctype src i d.state.at dtd nodes asked d.entities × Permits allow dtd × (d.state ≡ state d.state.at (join before nodes) root 255) × IsValidState most d.state

    -- It, and what follows it.
    behind_sound : (limit most i : ℕ) (before : Forest Item) (asked : List Asked) (e : Dtd) (s : State) (items : Forest Item) → limit ≤ most → allow ≡ true → IsDoctype src i e.state.at items asked e.entities
        → IsCharBoundary src e.state.at → e.state ≡ state e.state.at (join before items) root 255 → IsValidState most e.state → misc limit (length src) src e.state ≡ Ok s → DoctypeRead most i before asked (with_state e s)
    behind_sound limit most i before asked e s items limits may is cut state_is fine read =
        let read' : misc limit (length src) src (state e.state.at (join before items) root 255) ≡ Ok s = subst (λ (t : State). misc limit (length src) src t ≡ Ok s) state_is read in
        let m = misc_sound src utf8 (length src) limit most 255 e.state.at (join before items) s limits cut (subst (IsValidState most) state_is fine) read' in (
          true,
          join items m.0,
          doctype i e.state.at s.at items m.0 asked e.entities is m.1,
          λ _. may,
          m.2 ∙ ap (λ (f : Forest Item). state s.at f root 255) (join_assoc before items m.0),
          m.3,
        )

    pub doctype_sound : (limit most i : ℕ) (before : Forest Item) (replies : List Reply) (asked : List Asked) (d : Dtd) → limit ≤ most → AreTextReplies replies → IsValidState most (state i before root 255)
        → whole.doctype limit allow src (record { state = state i before root 255; entities = []; replies = replies }) ≡ (asked, Ok d) → d.state.at < length src → DoctypeRead most i before asked d
    unfolding whole.doctype
    doctype_sound limit most i before replies asked d limits texts fine h inside =
        let start : Dtd = record { state = state i before root 255; entities = []; replies = replies } in
        chosen (at word.DoctypeStart src i) _ _ _ h
        (λ opens h. chosen allow _ _ _ h
        (λ may h. asking_ok (doctype_step limit src start) _ asked d (λ e. asks_none (lifted (misc limit (length src) src e.state)) _ (λ s. refl)) h (λ e read h.
        nothing_lifted_ok (misc limit (length src) src e.state) _ _ _ h (λ s behind h.
        let is : with_state e s ≡ d = ok_same _ _ (ap (λ (x : Asks Dtd). x.1) h) in
        let o : StepOutcome most src start (asked, Ok e) = subst (StepOutcome most src start) read (step_outcome src utf8 limit most start limits opens fine texts) in
        let r = o.1 in
        elim r.found as (λ _. DoctypeRead most i before asked d) [
          | inl found ↦ subst (DoctypeRead most i before asked) is
              (behind_sound limit most i before asked e s r.items limits may (subst (λ (es : List Entity). IsDoctype src i e.state.at r.items asked es) (sym r.entities_are) found.0) found.1 r.state_is r.fine behind)
          | inr cut ↦ absurd (let far = misc_past (length src) limit e.state s cut behind in let there : s.at ≡ d.state.at = ap (λ (x : Dtd). x.state.at) is in omega arith)
        ])))
        (λ no_dtd h. cc (ap (λ (x : Asks Dtd). x.1) h)))
        (λ none h.
        let a : [] ≡ asked = ap (λ (x : Asks Dtd). x.0) h in
        let e : start ≡ d = ok_same start d (ap (λ (x : Asks Dtd). x.1) h) in
        subst (DoctypeRead most i before asked) e
        (false, Nil, subst (λ (asked : List Asked). MayHaveDoctype src i i false Nil asked []) a (no_doctype i), λ h. absurd (false≢true h), rw join-nil refl, fine))

    -- And what is there is read.
    pub doctype_complete : (limit i j : ℕ) (dtd : Bool) (before nodes : Forest Item) (asked : List Asked) (es : List Entity) (more : List Reply) → MayHaveDoctype src i j dtd nodes asked es → Stops src j
        → at word.DoctypeStart src j ≡ false → Permits allow dtd → IsValidState limit (state j (join before nodes) root 255)
        → whole.doctype limit allow src (record { state = state i before root 255; entities = []; replies = replies_of asked ++ more })
        ≡ (asked, Ok (record { state = state j (join before nodes) root 255; entities = es; replies = more }))
    doctype_complete limit i j dtd before nodes asked es more (doctype _ k _ items others _ _ is rest) stops none permits fine =
        let all : IsValidState limit (state j (join (join before items) others) root 255) = subst (λ (f : Forest Item). IsValidState limit (state j f root 255)) (sym (join_assoc before items others)) fine in
        let step = step_complete limit i k items before root 255 asked es [] is (fine_before limit k j 255 255 (join before items) others root all) in
        let behind = misc_complete src utf8 (length src) limit 255 k j others (join before items) rest stops (omega (arith, all.nodes)) (omega arith) in
        let read = doctype_read limit allow src (here_at i before root 255 []) (doctype_opens src i k items asked es is) (permits refl) asked (here_at k (join before items) root 255 es) (state j (join (join before items) others) root 255) step behind in
        read more ∙ ap (λ (f : Forest Item). (asked, Ok (record { state = state j f root 255; entities = es; replies = more }))) (join_assoc before items others)
    doctype_complete limit i j dtd before nodes asked es more (no_doctype _) stops none permits fine =
        no_doctype_here limit allow src (here_at i before root 255 []) none more ∙ rw join-nil refl

-- How a document type declaration is read is its grammar.
pub doctypes_agree : (src : List ℕ) → IsUtf8 src → (allow : Bool) → DoctypesAgree src allow
doctypes_agree src utf8 allow =
    record { sound = doctype_sound src utf8 allow; complete = doctype_complete src utf8 allow; texts = λ i j dtd nodes asked es is permits. texts_agree src utf8 i j dtd nodes asked es is }
