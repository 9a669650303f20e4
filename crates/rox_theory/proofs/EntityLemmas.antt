-- Declarations of entities: what is read is there, with what is asked for it, and what is there is read, whatever replies follow.
use Rattle.std.proofs.Common.{◌≡◌, ℕ, ◌+◌, ◌<◌, ◌≤◌, ◌⊎◌, Bool, true, cond, List, [], ◌++◌, length, take, drop, Option, Result, refl, sym, ap, subst, arith, inl, inr, IsUtf8, IsCharBoundary}
use Rattle.std.specs.Prelude.{Ok, Err, Some, None, IfSome}
use Rattle.rox_grammar.specs.declared.fault.Fault.{Fault}
use Rattle.rox_grammar.specs.declared.fault.Word.TheVariants as word
use Rattle.rox_grammar.specs.Chars.{is_space}
use Rattle.rox_grammar.specs.Names.{byte, slice, spaces_end}
use Rattle.rox_grammar.specs.FixedTexts.{at}
use Rattle.rox_grammar.specs.TextStart.{after_bom, MayHaveXmlDecl, declared, not_declared}
use Rattle.rox_grammar.specs.Entities.{Replacement, Entity}
use Rattle.rox_grammar.specs.Doctype.{Request, Asked, MayHaveNotation, GivesReplacement, nothing, the_rest, IsDefinition, internal, external, BeginsEntity, AsksAt, external_entity, entry, IsEntityDeclaration, entity_declaration}
use Rattle.rox_reading.specs.Lexical.{byte_at}
use Rattle.rox_reading.specs.Markup.{xml_decl_at}
use Rattle.rox_reading.specs.Refusals.{Refusal, here, there, refused}
use Rattle.rox_reading.specs.Answering.{IsTextRefusal, Answered}
use Rattle.rox_reading.specs.Machine.{at_place}
use Rattle.rox_reading.specs.Doctype.{Reply, Asks, Dtd, IsTextReply, AreTextReplies, next_reply, other_replies, EntityHead, entity_head_at, Definition, inner, outer, definition_at, answer_text, entity_step}
use Rattle.rox_reading.proofs.Settling.{once, declared_there, entity_run, inner_read, outer_read}
use Rattle.rox_theory.proofs.Basics.{ok_same, chosen, within, byte_sound, byte_complete, run_end_le}
use Rattle.rox_theory.proofs.DeclarationLemmas.{declaration_opens, declaration_sound, declaration_complete}
use Rattle.rox_theory.proofs.CharTexts.{cut_behind}
use Rattle.rox_theory.proofs.DoctypeParts.{declaration_parts, CutsNotation, asks_at}
use Rattle.rox_theory.proofs.DoctypeLemmas.{quoted_le, external_cut, head_sound, head_complete, head_moves, definition_sound, inner_complete, outer_complete}

-- What a result is.
pub either : {A E P : Type 0} (r : Result A E) → ((x : A) → r ≡ Ok x → P) → ((e : E) → r ≡ Err e → P) → P
either (Ok x) good bad = good x refl
either (Err e) good bad = bad e refl

-- ---- the text of an answer

-- What is read of a text after its declaration.
abbrev behind_declaration : List ℕ → Result (Unit {0} × ℕ) Fault
behind_declaration t = cond (at word.XmlDeclStart t (after_bom t)) (xml_decl_at t (after_bom t)) (Ok (tt, after_bom t))

-- What is read of an answer that is text is what it gives.
pub answer_sound : (answer : Option (List ℕ)) (text : Option Replacement) → IsTextReply (Ok answer) → answer_text answer ≡ Ok text → GivesReplacement answer text
unfolding answer_text
answer_sound None text utf8 h = subst (GivesReplacement None) (ok_same _ _ h) nothing
answer_sound (Some t) text utf8 h =
    either (behind_declaration t)
    (λ x read.
    let e : ◌≡◌ {A = Option Replacement} (Some (record { source = drop x.1 t; start = 0 })) text = ok_same _ _ (rw read at h) in
    let may : MayHaveXmlDecl t (after_bom t) x.1 =
    chosen (at word.XmlDeclStart t (after_bom t)) _ _ _ read
    (λ is read. declared (after_bom t) x.1 (declaration_sound t utf8 (after_bom t) x.1 x.0 is read))
    (λ none read. subst (MayHaveXmlDecl t (after_bom t)) (ap (λ p. p.1) (ok_same _ _ read)) (not_declared (after_bom t) none)) in
    subst (GivesReplacement (Some t)) e (the_rest t x.1 utf8 may))
    (λ f ill. cc (rw ill at h))

pub answer_complete : (answer : Option (List ℕ)) (text : Option Replacement) → GivesReplacement answer text → answer_text answer ≡ Ok text
unfolding answer_text
answer_complete answer text h = grind (arith, declaration_opens, declaration_complete)

-- Its fault is one of the text.
pub answer_fault : (answer : Option (List ℕ)) (e : Refusal) → answer_text answer ≡ Err e → IsTextRefusal e
unfolding answer_text
answer_fault answer e h = grind arith

-- ---- what is asked

-- What is answered is a text in UTF-8, or none.
pub replied_text : (answer : Option (List ℕ)) → IsTextReply (Ok answer) → IfSome answer IsUtf8
replied_text answer h = grind arith

given_text : (answer : Option (List ℕ)) (text : Option Replacement) → GivesReplacement answer text → IfSome answer IsUtf8
given_text answer text nothing = tt
given_text answer text (the_rest t d utf8 may) = utf8

-- Nothing is asked, or this once.
abbrev pub OnceAsked : List ℕ → ℕ → List Asked → Type 0
OnceAsked src i asked = (asked ≡ []) ⊎ ((request : Request) × (answer : Option (List ℕ)) × (p : ℕ) × (asked ≡ once request answer) × AsksAt src i request p × IfSome answer IsUtf8)

-- ---- what is read is there

pub record EntityRead (src : List ℕ) (d : Dtd) (asked : List Asked) (e : Dtd) : Type 0 where
  pub es : List Entity
  pub is : IsEntityDeclaration src d.state.at e.state.at asked es
  pub state_is : e.state ≡ at_place e.state.at d.state
  pub entities_are : e.entities ≡ d.entities ++ es
  pub texts : AreTextReplies e.replies

abbrev pub EntityOutcome : List ℕ → Dtd → Asks Dtd → Type 0
EntityOutcome src d (asked, Ok e) = EntityRead src d asked e
EntityOutcome src d (asked, Err (here f)) = OnceAsked src d.state.at asked
EntityOutcome src d (asked, Err (there source f)) = OnceAsked src d.state.at asked
EntityOutcome src d (asked, Err (refused request p message)) = (asked ≡ []) × AsksAt src d.state.at request p

-- A fault of the text.
fault_outcome : (src : List ℕ) (d : Dtd) (asked : List Asked) (e : Refusal) → IsTextRefusal e → OnceAsked src d.state.at asked → EntityOutcome src d (asked, Err e)
fault_outcome src d asked e is h = grind arith

-- The next reply and the others are text.
pub next_text : (rs : List Reply) → AreTextReplies rs → IsTextReply (next_reply rs) × AreTextReplies (other_replies rs)
next_text rs h = grind arith

-- Where the text is not cut off there is the name of a notation, if it is called for.
not_cut : (src : List ℕ) (parameter : Bool) (i p : ℕ) → byte src (spaces_end src p) ≡ 62 → MayHaveNotation src parameter i p ⊎ CutsNotation src parameter i p → MayHaveNotation src parameter i p
not_cut src parameter i p closes k = grind (arith, within, run_end_le)

module _ (src : List ℕ) (utf8 : IsUtf8 src) where
  module _ (d : Dtd) (opens : at word.EntityStart src d.state.at ≡ true) (texts : AreTextReplies d.replies) where
    -- The end of one whose definition is read.
    module _ (head : EntityHead × ℕ) (is_head : entity_head_at src d.state.at ≡ Ok head) where
      begun : (n : ℕ) × (m : ℕ) × BeginsEntity src d.state.at head.0.parameter n m head.1 × (head.0.name ≡ slice src n m)
      begun = head_sound src d.state.at head opens is_head

      -- A declaration, from its parts.
      entity_is : (asked : List Asked) (text : Option Replacement) (p j : ℕ) (rs : List Reply) → AreTextReplies rs → IsDefinition src head.0.parameter head.1 p asked text
          → byte src (spaces_end src p) ≡ 62 → j ≡ spaces_end src p + 1
          → EntityRead src d asked (record { state = at_place j d.state; entities = d.entities ++ entry head.0.name text; replies = rs })
      entity_is asked text p j rs fine definition closes next =
          record {
            es = entry head.0.name text;
            is = subst (λ (name : List ℕ). IsEntityDeclaration src d.state.at j asked (entry name text)) (sym begun.3)
                (subst (λ (j : ℕ). IsEntityDeclaration src d.state.at j asked (entry (slice src begun.0 begun.1) text)) (sym next)
                (entity_declaration head.0.parameter begun.0 begun.1 head.1 p asked text begun.2 definition closes));
            state_is = refl;
            entities_are = refl;
            texts = fine;
          }

      module _ (request : Request) (j : ℕ) (is : definition_at head.0.parameter src head.1 ≡ Ok (outer request, j)) where
        asks_here : AsksAt src d.state.at request j
        asks_here =
            let s = definition_sound head.0.parameter src head.1 (outer request, j) is in
            asks_at head.0.parameter begun.0 begun.1 head.1 s.0 begun.2 s.1 s.2

        asked_once : (answer : Option (List ℕ)) → next_reply d.replies ≡ Ok answer → OnceAsked src d.state.at (once request answer)
        asked_once answer replied = inr (request, answer, j, refl, asks_here, replied_text answer (subst IsTextReply replied (next_text d.replies texts).0))

        outer_outcome : EntityOutcome src d (entity_step src d)
        unfolding entity_step
        outer_outcome =
            either (next_reply d.replies)
            (λ answer replied. either (answer_text answer)
            (λ text read. either (byte_at 62 src (spaces_end src j))
            (λ end ends.
            let c = byte_sound 62 src (spaces_end src j) end ends in
            let s = definition_sound head.0.parameter src head.1 (outer request, j) is in
            let t = next_text d.replies texts in
            let gives = answer_sound answer text (subst IsTextReply replied t.0) read in
            rw (is_head, is, replied, read, ends)
            (entity_is (once request answer) text j end.1 (other_replies d.replies) t.1
            (external head.1 s.0 j request answer text s.1 (not_cut src head.0.parameter s.0 j c.0 s.2) gives) c.0 c.1))
            (λ f ill. rw (is_head, is, replied, read, ill) (asked_once answer replied)))
            (λ e ill. rw (is_head, is, replied, ill) (fault_outcome src d (once request answer) e (answer_fault answer e ill) (asked_once answer replied))))
            (λ message refuses. rw (is_head, is, refuses) (refl, asks_here))

      module _ (t : Replacement) (j : ℕ) (is : definition_at head.0.parameter src head.1 ≡ Ok (inner t, j)) where
        inner_outcome : EntityOutcome src d (entity_step src d)
        unfolding entity_step
        inner_outcome =
            either (byte_at 62 src (spaces_end src j))
            (λ end ends.
            let c = byte_sound 62 src (spaces_end src j) end ends in
            let s = definition_sound head.0.parameter src head.1 (inner t, j) is in
            let definition : IsDefinition src head.0.parameter head.1 j [] (Some t) = subst (λ (t : Replacement). IsDefinition src head.0.parameter head.1 j [] (Some t)) (sym s.2) (internal head.1 s.0 j s.1) in
            rw (is_head, is, ends) (entity_is [] (Some t) j end.1 d.replies texts definition c.0 c.1))
            (λ f ill. rw (is_head, is, ill) (inl refl))

    pub entity_outcome : EntityOutcome src d (entity_step src d)
    unfolding entity_step
    entity_outcome =
        either (entity_head_at src d.state.at)
        (λ head is_head. either (definition_at head.0.parameter src head.1)
        (λ x is. defined head is_head x.0 x.1 is)
        (λ f ill. rw (is_head, ill) (inl refl)))
        (λ f ill. rw ill (inl refl))
      where
        defined : (head : EntityHead × ℕ) → entity_head_at src d.state.at ≡ Ok head → (x : Definition) (j : ℕ) → definition_at head.0.parameter src head.1 ≡ Ok (x, j) → EntityOutcome src d (entity_step src d)
        defined head is_head (inner t) j is = inner_outcome head is_head t j is
        defined head is_head (outer request) j is = outer_outcome head is_head request j is

  -- ---- what is there is read

  -- A declaration asks nothing, or once.
  pub declared_asks : (i j : ℕ) (asked : List Asked) (es : List Entity) → IsEntityDeclaration src i j asked es → OnceAsked src i asked
  declared_asks i j asked es (entity_declaration parameter n m d e first text begins definition closes) = by_definition text first definition
    where
      by_definition : (text : Option Replacement) (asked : List Asked) → IsDefinition src parameter d e asked text → OnceAsked src i asked
      by_definition text asked (internal _ c _ q) = inl refl
      by_definition text asked (external _ x _ request answer _ is may gives) = inr (request, answer, e, refl, external_entity parameter n m d x begins is may, given_text answer text gives)

  -- What it is goes forward.
  notation_moves : (parameter : Bool) (i j : ℕ) → MayHaveNotation src parameter i j → i ≤ j
  notation_moves parameter i j h = grind (arith, run_end_le)

  definition_moves : (parameter : Bool) (i j : ℕ) (asked : List Asked) (text : Option Replacement) → IsDefinition src parameter i j asked text → i < j
  definition_moves parameter i j asked text (internal _ e _ q) = let le = quoted_le src i e j q in omega arith
  definition_moves parameter i j asked text (external _ n _ request answer _ is may gives) = omega (arith, (external_cut src i request n utf8 is).1, notation_moves parameter n j may)

  -- It goes forward, and a character begins after it.
  pub entity_moves : (i j : ℕ) (asked : List Asked) (es : List Entity) → IsEntityDeclaration src i j asked es → (i < length src) × (i < j) × (j ≤ length src) × IsCharBoundary src j
  entity_moves i j asked es is =
      let b = declaration_parts is in
      let h = head_moves src i b.parameter b.n b.m b.d utf8 b.begins in
      let l = within src (spaces_end src b.e) (λ z. omega (arith, b.closes)) in
      let definition = definition_moves b.parameter b.d b.e asked b.text b.definition in
      (h.1, omega (arith, h.0, definition, run_end_le is_space src b.e), omega arith, cut_behind src (spaces_end src b.e) 62 j utf8 b.closes (omega arith) (omega arith) b.next)

  pub entity_complete : (d : Dtd) (j : ℕ) (asked : List Asked) (es : List Entity) → IsEntityDeclaration src d.state.at j asked es
      → Answered (entity_run src d) asked (record { state = at_place j d.state; entities = d.entities ++ es; replies = d.replies })
  entity_complete d j asked es (entity_declaration parameter n m x e first text begins definition ends) = by_definition text first definition
    where
      head : EntityHead × ℕ
      head = (record { parameter = parameter; name = slice src n m }, x)

      closes : byte_at 62 src (spaces_end src e) ≡ Ok (tt, spaces_end src e + 1)
      closes = byte_complete 62 src (spaces_end src e) ends (λ z. omega arith)

      by_definition : (text : Option Replacement) (asked : List Asked) → IsDefinition src parameter x e asked text → Answered (entity_run src d) asked (declared_there d head.0 text (spaces_end src e + 1))
      by_definition text asked (internal _ c _ q) =
          inner_read src d head (head_complete src d.state.at parameter n m x utf8 begins) (record { source = take c src; start = x + 1 }) e (inner_complete parameter src x c e q) tt (spaces_end src e + 1) closes
      by_definition text asked (external _ c _ request answer _ is may gives) =
          outer_read src d head (head_complete src d.state.at parameter n m x utf8 begins) request e (outer_complete parameter src x c e request utf8 is may) answer text tt (spaces_end src e + 1)
          (answer_complete answer text gives) closes
