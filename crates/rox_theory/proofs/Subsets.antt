-- The items of a document type declaration: what is read is there, with what is asked, and what is there is read, whatever replies
-- follow.
use Rattle.std.proofs.Common.{◌≡◌, ℕ, zero, suc, ◌+◌, ◌<◌, ◌≤◌, ◌⊎◌, ◌==◌, ◌||◌, true, nat_le, nat_lt, List, [], ◌++◌, length, Option, Ok, Err, refl, sym, ap, ◌∙◌, subst, arith, inl, inr, append_assoc, IsUtf8, IsCharBoundary, append-nil}
use Rattle.std.specs.Prelude.{IfSome}
use Rattle.std.proofs.lemmas.Bool.{cond_both, leb-true, ltb-true, eqb-true, or_cases}
use Rattle.rox_grammar.specs.declared.fault.Fault.{Fault}
use Rattle.rox_grammar.specs.declared.fault.Fault.TheVariants as fault
use Rattle.rox_grammar.specs.declared.fault.Due.TheVariants as due
use Rattle.rox_grammar.specs.declared.fault.Word.TheVariants as word
use Rattle.rox_grammar.specs.Chars.{is_space}
use Rattle.rox_grammar.specs.Search.{byte_from}
use Rattle.rox_grammar.specs.Forest.{Forest, Nil, join}
use Rattle.rox_grammar.specs.Written.{Item, Comment, PI, leaf}
use Rattle.rox_grammar.specs.Tree.{scope_in}
use Rattle.rox_grammar.specs.State.{scope_of}
use Rattle.rox_grammar.specs.Names.{byte, spaces_end}
use Rattle.rox_grammar.specs.FixedTexts.{at}
use Rattle.rox_grammar.specs.Content.{IsMisc}
use Rattle.rox_grammar.specs.Entities.{Entity}
use Rattle.rox_grammar.specs.Doctype.{Request, Asked, AsksAt, IsEntityDeclaration, Subset, no_more, space, an_item, an_entity}
use Rattle.rox_reading.specs.Markup.{comment_at, instruction_at}
use Rattle.rox_reading.specs.Refusals.{Refusal, here, there, refused}
use Rattle.rox_reading.specs.State.{State}
use Rattle.rox_reading.specs.Machine.{with_item, comment_step, instruction_step, at_place}
use Rattle.rox_reading.specs.Doctype.{Asks, ◌>>>◌, Dtd, AreTextReplies, with_state, entity_step, subset_end, subset}
use Rattle.rox_reading.specs.Doctype as reading
use Rattle.rox_reading.specs.Answering.{having_asked}
use Rattle.rox_reading.proofs.Answering.{spaced}
use Rattle.rox_reading.proofs.Settling.{once}
use Rattle.rox_reading.proofs.Forests.{join-nil, join_assoc}
use Rattle.rox_theory.specs.ValidState.{IsValidState, state}
use Rattle.rox_theory.proofs.Basics.{run_end_le}
use Rattle.rox_theory.proofs.LiteralLemmas.{from_le, from_here}
use Rattle.rox_theory.proofs.CharTexts.{cut_behind}
use Rattle.rox_theory.proofs.Places.{over_spaces}
use Rattle.rox_theory.proofs.Leaves.{fine_there, item_read}
use Rattle.rox_theory.proofs.Around.{ends_cut, misc_ends, comment_is, instruction_is, misc_plain, misc_moves}
use Rattle.rox_theory.proofs.DoctypeParts.{IsPassedOver, passed_first}
use Rattle.rox_theory.proofs.EntityLemmas.{either, OnceAsked, EntityRead, EntityOutcome, entity_outcome, declared_asks, entity_moves}

-- ---- one turn

-- How reading continues from d on, by what is there.
data Turns (limit start n : ℕ) (src : List ℕ) (d : Dtd) : Asks Dtd → Type 0 where
  turn_out : length src ≤ d.state.at → Turns limit start n src d ([], Ok d)
  turn_entity : (first : List Asked) (e : Dtd) → at word.EntityStart src (spaces_end src d.state.at) ≡ true → entity_step src (spaced src d) ≡ (first, Ok e)
      → Turns limit start n src d (having_asked first (subset limit start n src e))
  turn_refused : (first : List Asked) (e : Refusal) → at word.EntityStart src (spaces_end src d.state.at) ≡ true → entity_step src (spaced src d) ≡ (first, Err e) → Turns limit start n src d (first, Err e)
  turn_item : (j : ℕ) (item : Item) (t : State) → IsMisc src (spaces_end src d.state.at) j item → with_item limit (spaced src d).state j item ≡ Ok t → Turns limit start n src d (subset limit start n src (with_state d t))
  turn_passed : (j : ℕ) → IsPassedOver src (spaces_end src d.state.at) j → Turns limit start n src d (subset limit start n src (with_state d (at_place j d.state)))
  turn_closed : byte src (spaces_end src d.state.at) ≡ 93 → byte src (spaces_end src (spaces_end src d.state.at + 1)) ≡ 62
      → Turns limit start n src d ([], Ok (with_state d (at_place (spaces_end src (spaces_end src d.state.at + 1) + 1) d.state)))
  turn_faulty : (f : Fault) → Turns limit start n src d ([], Err (here f))

-- What an entity gives, and what follows it.
after_entity : (limit start n : ℕ) (src : List ℕ) (d : Dtd) (r : Asks Dtd) → at word.EntityStart src (spaces_end src d.state.at) ≡ true → entity_step src (spaced src d) ≡ r
    → Turns limit start n src d (r >>> λ e. subset limit start n src e)
after_entity limit start n src d (first, Ok e) is h = turn_entity first e is h
after_entity limit start n src d (first, Err e) is h = turn_refused first e is h

module _ (src : List ℕ) (utf8 : IsUtf8 src) where
  -- A declaration that is passed over, and what follows it.
  after_passed : (limit start n : ℕ) (d : Dtd) → (at word.ElementStart src (spaces_end src d.state.at) || (at word.AttlistStart src (spaces_end src d.state.at) || at word.NotationStart src (spaces_end src d.state.at))) ≡ true
      → Turns limit start n src d (reading.skipped_declaration start src (spaced src d) >>> λ e. subset limit start n src e)
  unfolding reading.skipped_declaration
  after_passed limit start n d is =
      let i = spaces_end src d.state.at in
      let e = byte_from (λ c. c == 62) src i in
      let opens : (at word.ElementStart src i ≡ true) ⊎ ((at word.AttlistStart src i ≡ true) ⊎ (at word.NotationStart src i ≡ true)) =
      elim (or_cases (at word.ElementStart src i) (at word.AttlistStart src i || at word.NotationStart src i) is) as (λ _. (at word.ElementStart src i ≡ true) ⊎ ((at word.AttlistStart src i ≡ true) ⊎ (at word.NotationStart src i ≡ true)))
      [ inl a ↦ inl a | inr b ↦ inr (or_cases _ _ b) ] in
      cond_both (nat_lt e (length src)) _ _ (λ (r : Asks Dtd). Turns limit start n src d (r >>> λ e. subset limit start n src e))
      (λ closes. turn_passed (e + 1) (record { opens = opens; closes = ltb-true _ _ closes; next = refl }))
      (λ unclosed. turn_faulty (fault.UnknownToken start))

  turns : (limit start n : ℕ) (d : Dtd) → Turns limit start n src d (subset limit start (suc n) src d)
  unfolding subset comment_step instruction_step subset_end
  turns limit start n d =
      let T : Asks Dtd → Type 0 = Turns limit start n src d in
      let i = spaces_end src d.state.at in
      let s = (spaced src d).state in
      cond_both (nat_le (length src) d.state.at) _ _ T (λ out. turn_out (leb-true _ _ out)) (λ inside.
      cond_both (at word.EntityStart src i) _ _ T (λ is. after_entity limit start n src d (entity_step src (spaced src d)) is refl) (λ no_entity.
      cond_both (at word.CommentStart src i) _ _ T
      (λ is. either (comment_at src i)
      (λ x read. either (with_item limit s x.1 (Comment i x.1 x.0)) (λ t one. rw (read, one) (turn_item x.1 (Comment i x.1 x.0) t (comment_is src utf8 i x.1 x.0 is read) one)) (λ f ill. rw (read, ill) (turn_faulty f)))
      (λ f ill. rw ill (turn_faulty f)))
      (λ no_comment. cond_both (at word.PIStart src i) _ _ T
      (λ is. either (instruction_at src i)
      (λ x read. either (with_item limit s x.1 (PI i x.1 x.0.target x.0.value)) (λ t one. rw (read, one) (turn_item x.1 (PI i x.1 x.0.target x.0.value) t (instruction_is src utf8 i x.1 x.0 is read) one)) (λ f ill. rw (read, ill) (turn_faulty f)))
      (λ f ill. rw ill (turn_faulty f)))
      (λ no_instruction. cond_both (at word.ElementStart src i || (at word.AttlistStart src i || at word.NotationStart src i)) _ _ T
      (λ is. after_passed limit start n d is)
      (λ no_skipped. cond_both (byte src i == 93) _ _ T
      (λ is. cond_both (nat_le (length src) (spaces_end src (i + 1))) _ _ T (λ cut. turn_faulty fault.UnexpectedEndOfStream) (λ more.
      cond_both (byte src (spaces_end src (i + 1)) == 62) _ _ T (λ closes. turn_closed (eqb-true _ _ is) (eqb-true _ _ closes)) (λ other. turn_faulty (fault.InvalidChar2 due.End (byte src (spaces_end src (i + 1))) (spaces_end src (i + 1))))))
      (λ unknown. turn_faulty (fault.UnknownToken i)))))))

-- ---- what is asked after a place of the items

-- This is asked next, after these.
pub record Later (src : List ℕ) (i : ℕ) (asked : List Asked) (request : Request) (p : ℕ) : Type 0 where
  pub j : ℕ
  pub nodes : Forest Item
  pub es : List Entity
  pub items : Subset src i j nodes asked es
  pub asks : AsksAt src j request p

-- What was asked: each stands next, after those before it.
pub data HasLater (src : List ℕ) (i : ℕ) : List Asked → Type 0 where
  not_yet : HasLater src i []
  one_later : (asked : List Asked) (request : Request) (p : ℕ) (answer : Option (List ℕ)) → Later src i asked request p → IfSome answer IsUtf8 → HasLater src i (asked ++ once request answer)

-- The resolver's refusal is of what is asked next.
abbrev pub RefusalStands : List ℕ → ℕ → List Asked → Refusal → Type 0
RefusalStands src i asked (here f) = Unit {0}
RefusalStands src i asked (there source f) = Unit {0}
RefusalStands src i asked (refused request p message) = Later src i asked request p

-- From i up to j stands what gives these, in front of any items.
abbrev pub Fronts : List ℕ → ℕ → ℕ → Forest Item → List Asked → List Entity → Type 0
Fronts src i j one first es = (k : ℕ) (items : Forest Item) (asked : List Asked) (more : List Entity) → Subset src j k items asked more → Subset src i k (join one items) (first ++ asked) (es ++ more)

later_front : (src : List ℕ) (i j : ℕ) (one : Forest Item) (first : List Asked) (es : List Entity) → Fronts src i j one first es → (asked : List Asked) (request : Request) (p : ℕ) → Later src j asked request p
    → Later src i (first ++ asked) request p
later_front src i j one first es front asked request p l = record { j = l.j; nodes = join one l.nodes; es = es ++ l.es; items = front l.j l.nodes asked l.es l.items; asks = l.asks }

has_front : (src : List ℕ) (i j : ℕ) (one : Forest Item) (first : List Asked) (es : List Entity) → Fronts src i j one first es → HasLater src i first → (asked : List Asked) → HasLater src j asked
    → HasLater src i (first ++ asked)
has_front src i j one first es front h asked not_yet = subst (HasLater src i) (sym (append-nil first)) h
has_front src i j one first es front h asked (one_later before request p answer l text) =
    subst (HasLater src i) (append_assoc first before (once request answer)) (one_later (first ++ before) request p answer (later_front src i j one first es front before request p l) text)

-- ---- what is read is there

-- The items from i on and the end of the declaration after them.
pub record Closes (src : List ℕ) (i j : ℕ) (items : Forest Item) (asked : List Asked) (es : List Entity) : Type 0 where
  pub k : ℕ
  pub subset : Subset src i k items asked es
  pub bracket : byte src k ≡ 93
  pub closes : byte src (spaces_end src (k + 1)) ≡ 62
  pub next : j ≡ spaces_end src (k + 1) + 1

-- It is read to its end, or it is cut off by the end of the text.
pub record SubsetRead (most : ℕ) (src : List ℕ) (d : Dtd) (asked : List Asked) (e : Dtd) : Type 0 where
  pub items : Forest Item
  pub es : List Entity
  pub found : Closes src d.state.at e.state.at items asked es ⊎ (length src ≤ e.state.at)
  pub state_is : e.state ≡ state e.state.at (join d.state.done items) d.state.stack d.state.openings_left
  pub entities_are : e.entities ≡ d.entities ++ es
  pub fine : IsValidState most e.state

abbrev pub SubsetOutcome : ℕ → List ℕ → Dtd → Asks Dtd → Type 0
SubsetOutcome most src d (asked, Ok e) = HasLater src d.state.at asked × SubsetRead most src d asked e
SubsetOutcome most src d (asked, Err e) = HasLater src d.state.at asked × RefusalStands src d.state.at asked e

refusal_front : (src : List ℕ) (i j : ℕ) (one : Forest Item) (first : List Asked) (es : List Entity) → Fronts src i j one first es → (asked : List Asked) (e : Refusal) → RefusalStands src j asked e
    → RefusalStands src i (first ++ asked) e
refusal_front src i j one first es front asked (here f) h = tt
refusal_front src i j one first es front asked (there source f) h = tt
refusal_front src i j one first es front asked (refused request p message) h = later_front src i j one first es front asked request p h

found_front : (src : List ℕ) (i j l : ℕ) (one : Forest Item) (first : List Asked) (es : List Entity) → Fronts src i j one first es → (items : Forest Item) (asked : List Asked) (more : List Entity)
    → Closes src j l items asked more ⊎ (length src ≤ l) → Closes src i l (join one items) (first ++ asked) (es ++ more) ⊎ (length src ≤ l)
found_front src i j l one first es front items asked more k = grind arith

-- What comes of it with something in front.
outcome_front : (most : ℕ) (src : List ℕ) (d e : Dtd) (one : Forest Item) (first : List Asked) (es : List Entity) → Fronts src d.state.at e.state.at one first es
    → e.state ≡ state e.state.at (join d.state.done one) d.state.stack d.state.openings_left → e.entities ≡ d.entities ++ es → HasLater src d.state.at first → (r : Asks Dtd) → SubsetOutcome most src e r
    → SubsetOutcome most src d (having_asked first r)
outcome_front most src d e one first es front state_is entities_are has (asked, Err x) h =
    (has_front src d.state.at e.state.at one first es front has asked h.0, refusal_front src d.state.at e.state.at one first es front asked x h.1)
outcome_front most src d e one first es front state_is entities_are has (asked, Ok x) h =
    let r = h.1 in
    let done : e.state.done ≡ join d.state.done one = ap (λ (s : State). s.done) state_is in
    let stack : e.state.stack ≡ d.state.stack = ap (λ (s : State). s.stack) state_is in
    let openings_left : e.state.openings_left ≡ d.state.openings_left = ap (λ (s : State). s.openings_left) state_is in (
      has_front src d.state.at e.state.at one first es front has asked h.0,
      record {
        items = join one r.items;
        es = es ++ r.es;
        found = found_front src d.state.at e.state.at x.state.at one first es front r.items asked r.es r.found;
        state_is = r.state_is ∙ rw (done, stack, openings_left) (ap (λ (f : Forest Item). state x.state.at f d.state.stack d.state.openings_left) (join_assoc d.state.done one r.items));
        entities_are = r.entities_are ∙ ap (λ (l : List Entity). l ++ r.es) entities_are ∙ append_assoc d.entities es r.es;
        fine = r.fine;
      },
    )

module _ (src : List ℕ) (utf8 : IsUtf8 src) where
  -- White space in front.
  spaces_front : (i j : ℕ) (one : Forest Item) (first : List Asked) (es : List Entity) → IsCharBoundary src i → Fronts src (spaces_end src i) j one first es → Fronts src i j one first es
  spaces_front i j one first es cut front k items asked more rest =
      (over_spaces src (λ (m : ℕ). Subset src m k (join one items) (first ++ asked) (es ++ more)) i utf8 cut (λ m is rest. space m k (join one items) (first ++ asked) (es ++ more) is rest)).1
      (front k items asked more rest)

  -- What is asked once after white space.
  once_later : (i : ℕ) (asked : List Asked) → IsCharBoundary src i → OnceAsked src (spaces_end src i) asked → HasLater src i asked
  once_later i asked cut (inl none) = subst (HasLater src i) (sym none) not_yet
  once_later i asked cut (inr (request, answer, p, is, asks, text)) = subst (HasLater src i) (sym is) (one_later [] request p answer (asks_later i request p cut asks) text)
    where
      asks_later : (i : ℕ) (request : Request) (p : ℕ) → IsCharBoundary src i → AsksAt src (spaces_end src i) request p → Later src i [] request p
      asks_later i request p cut asks =
          record { j = spaces_end src i; nodes = Nil; es = []; items = spaces_front i (spaces_end src i) Nil [] [] cut (λ k items asked more rest. rest) (spaces_end src i) Nil [] [] (no_more (spaces_end src i)); asks = asks }

  -- A declaration that is passed over goes forward.
  pub passed_moves : (i j : ℕ) → IsPassedOver src i j → (i < j) × (j ≤ length src) × IsCharBoundary src j
  passed_moves i j p =
      let e = byte_from (λ c. c == 62) src i in
      let closes = p.closes in let next = p.next in
      (omega (arith, from_le (λ c. c == 62) src i), omega arith, cut_behind src e 62 j utf8 (eqb-true _ _ (from_here (λ c. c == 62) src i closes)) (omega arith) (omega arith) next)

  -- A turn that is a declaration of an entity.
  entity_front : (i j : ℕ) (first : List Asked) (es : List Entity) → IsCharBoundary src i → IsEntityDeclaration src (spaces_end src i) j first es → Fronts src i j Nil first es
  entity_front i j first es cut is =
      spaces_front i j Nil first es cut (λ k items asked more rest. an_entity (spaces_end src i) j k items first asked es more is rest)

  -- A comment or an instruction.
  item_front : (i j : ℕ) (item : Item) → IsCharBoundary src i → IsMisc src (spaces_end src i) j item → Fronts src i j (leaf item) [] []
  item_front i j item cut is = spaces_front i j (leaf item) [] [] cut (λ k items asked more rest. an_item (spaces_end src i) j k item items asked more is rest)

  passed_front : (i j : ℕ) → IsCharBoundary src i → IsPassedOver src (spaces_end src i) j → Fronts src i j Nil [] []
  passed_front i j cut is = spaces_front i j Nil [] [] cut (λ k items asked more rest. passed_first src (spaces_end src i) j k items asked more is rest)

  -- One turn, where what follows it is there.
  module _ (limit most start n : ℕ) (d : Dtd) (limits : limit ≤ most) (cut : IsCharBoundary src d.state.at) (fine : IsValidState most d.state) (texts : AreTextReplies d.replies) (enough : length src ≤ d.state.at + suc n) (go : (e : Dtd) → IsCharBoundary src e.state.at → IsValidState most e.state → AreTextReplies e.replies → length src ≤ e.state.at + n → SubsetOutcome most src e (subset limit start n src e)) where
    abbrev i : ℕ
    i = spaces_end src d.state.at

    far : d.state.at ≤ spaces_end src d.state.at
    far = run_end_le is_space src d.state.at

    refused_later : (first : List Asked) (x : Refusal) → EntityOutcome src (spaced src d) (first, Err x) → HasLater src d.state.at first × RefusalStands src d.state.at first x
    refused_later first (here f) h = (once_later d.state.at first cut h, tt)
    refused_later first (there source f) h = (once_later d.state.at first cut h, tt)
    refused_later first (refused request p message) h =
        let one : Later src d.state.at [] request p =
        record { j = i; nodes = Nil; es = []; items = spaces_front d.state.at i Nil [] [] cut (λ k items asked more rest. rest) i Nil [] [] (no_more i); asks = h.1 } in
        (subst (HasLater src d.state.at) (sym h.0) not_yet, subst (λ (l : List Asked). Later src d.state.at l request p) (sym h.0) one)

    by_turn : (r : Asks Dtd) → Turns limit start n src d r → SubsetOutcome most src d r
    by_turn r (turn_out out) = (not_yet, record { items = Nil; es = []; found = inr out; state_is = rw join-nil refl; entities_are = sym (append-nil d.entities); fine = fine })
    by_turn r (turn_entity first e is h) =
        let o : EntityRead src (spaced src d) first e = subst (EntityOutcome src (spaced src d)) h (entity_outcome src utf8 (spaced src d) is texts) in
        let moves = entity_moves src utf8 i e.state.at first o.es o.is in
        let has = once_later d.state.at first cut (declared_asks src utf8 i e.state.at first o.es o.is) in
        let state_is : e.state ≡ state e.state.at (join d.state.done Nil) d.state.stack d.state.openings_left = o.state_is ∙ rw join-nil refl in
        let fine' : IsValidState most e.state = subst (IsValidState most) (sym o.state_is) (fine_there most d.state (at_place e.state.at d.state) refl refl fine) in
        let rest = go e moves.3 fine' o.texts (omega (arith, enough, far, moves.1)) in
        outcome_front most src d e Nil first o.es (entity_front d.state.at e.state.at first o.es cut o.is) state_is o.entities_are has (subset limit start n src e) rest
    by_turn r (turn_refused first e is h) =
        refused_later first e (subst (EntityOutcome src (spaced src d)) h (entity_outcome src utf8 (spaced src d) is texts))
    by_turn r (turn_item j item t is one) =
        let e = with_state d t in
        let p = misc_plain src utf8 i j item is in
        let read = item_read limit most (spaced src d).state t j item limits p.0 p.1 (p.2 (scope_in (scope_of (spaced src d).state.stack) item)) (fine_there most d.state (spaced src d).state refl refl fine) one in
        let there : t.at ≡ j = ap (λ (s : State). s.at) read.0 in
        let front = item_front d.state.at j item cut is in
        let front' : Fronts src d.state.at t.at (leaf item) [] [] = subst (λ (k : ℕ). Fronts src d.state.at k (leaf item) [] []) (sym there) front in
        let moves = misc_moves src utf8 i j item is in
        let state_is : t ≡ state t.at (join d.state.done (leaf item)) d.state.stack d.state.openings_left = read.0 ∙ ap (λ (k : ℕ). state k (join d.state.done (leaf item)) d.state.stack d.state.openings_left) (sym there) in
        let rest = go e (subst (IsCharBoundary src) (sym there) (ends_cut src j utf8 (misc_ends src i j item is))) read.1 texts (omega (arith, enough, far, moves, there)) in
        outcome_front most src d e (leaf item) [] [] front' state_is (sym (append-nil d.entities)) not_yet (subset limit start n src e) rest
    by_turn r (turn_passed j is) =
        let e = with_state d (at_place j d.state) in
        let moves = passed_moves i j is in
        let rest = go e moves.2 (fine_there most d.state (at_place j d.state) refl refl fine) texts (omega (arith, enough, far, moves.0)) in
        outcome_front most src d e Nil [] [] (passed_front d.state.at j cut is) (rw join-nil refl) (sym (append-nil d.entities)) not_yet (subset limit start n src e) rest
    by_turn r (turn_closed bracket closes) =
        let j = spaces_end src (i + 1) + 1 in (
          not_yet,
          record {
            items = Nil;
            es = [];
            found = inl (record { k = i; subset = spaces_front d.state.at i Nil [] [] cut (λ k items asked more rest. rest) i Nil [] [] (no_more i); bracket = bracket; closes = closes; next = refl });
            state_is = rw join-nil refl;
            entities_are = sym (append-nil d.entities);
            fine = fine_there most d.state (at_place j d.state) refl refl fine;
          },
        )
    by_turn r (turn_faulty f) = (not_yet, tt)

  -- What is read, with so many items at most, is there.
  pub subset_outcome : (n limit most start : ℕ) (d : Dtd) → limit ≤ most → IsCharBoundary src d.state.at → IsValidState most d.state → AreTextReplies d.replies → length src ≤ d.state.at + n
      → SubsetOutcome most src d (subset limit start n src d)
  unfolding subset
  subset_outcome zero limit most start d limits cut fine texts enough =
      (not_yet, record { items = Nil; es = []; found = inr (omega (arith, enough)); state_is = rw join-nil refl; entities_are = sym (append-nil d.entities); fine = fine })
  subset_outcome (suc n) limit most start d limits cut fine texts enough =
      by_turn limit most start n d limits cut fine texts enough (λ e. subset_outcome n limit most start e limits) (subset limit start (suc n) src d) (turns src utf8 limit start n d)
