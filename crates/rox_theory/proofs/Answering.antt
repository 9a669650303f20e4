-- What is asked while a text is read, also of one that is refused, and what the resolver refused.
use Rattle.std.proofs.Common.{◌≡◌, ℕ, ◌+◌, ◌-◌, ◌≤◌, Bool, true, List, [], ◌++◌, length, Result, Ok, Err, refl, sym, subst, arith, inl, inr, IsUtf8, append-nil}
use Rattle.std.proofs.lemmas.Bool.{cond_both}
use Rattle.rox_grammar.specs.declared.fault.Word.TheVariants as word
use Rattle.rox_grammar.specs.Forest.{Forest, Nil}
use Rattle.rox_grammar.specs.Written.{Item}
use Rattle.rox_grammar.specs.FixedTexts.{at}
use Rattle.rox_grammar.specs.TextStart.{after_bom, MayHaveXmlDecl}
use Rattle.rox_grammar.specs.Doctype.{Request, Asked, subset_to}
use Rattle.rox_grammar.specs.Document.{Misc, AsksNext, at_entity, HasAsked, nothing, one_more}
use Rattle.rox_grammar.specs.State.{root}
use Rattle.rox_reading.specs.Refusals.{Refusal, here, there, refused, lifted}
use Rattle.rox_reading.specs.Answering.{IsTextRefusal}
use Rattle.rox_reading.specs.State.{State}
use Rattle.rox_reading.specs.Doctype.{Reply, Asks, asks_nothing, ◌>>>◌, Dtd, AreTextReplies, doctype_step}
use Rattle.rox_reading.specs.WholeText.{misc, body, prolog, reading}
use Rattle.rox_reading.specs.WholeText as whole
use Rattle.rox_theory.specs.ValidState.{IsValidState, state}
use Rattle.rox_theory.proofs.Around.{bom_cut, misc_sound, prolog_sound, prolog_cut}
use Rattle.rox_theory.proofs.EntityLemmas.{either}
use Rattle.rox_theory.proofs.Subsets.{Later, HasLater, not_yet, one_later}
use Rattle.rox_theory.proofs.DoctypeAgreement.{Opened, HasWithin, RefusedWithin, StepOutcome, step_outcome}
use Rattle.rox_reading.proofs.FaultsAlone.{Alone, alone_lifted, good, body_alone}

-- The resolver's refusal is of what is asked next, where a document type declaration is allowed.
abbrev pub RefusedNext : List ℕ → Bool → List Asked → Refusal → Type 0
RefusedNext src allow asked (here f) = Unit {0}
RefusedNext src allow asked (there source f) = Unit {0}
RefusedNext src allow asked (refused request p message) = (allow ≡ true) × AsksNext src asked request p

-- What is asked is there.
abbrev pub AskedOutcome : {A : Type 0} → List ℕ → Bool → Asks A → Type 0
AskedOutcome src allow (asked, Ok x) = HasAsked src allow asked
AskedOutcome src allow (asked, Err e) = HasAsked src allow asked × RefusedNext src allow asked e

fault_next : (src : List ℕ) (allow : Bool) (asked : List Asked) (e : Refusal) → IsTextRefusal e → RefusedNext src allow asked e
fault_next src allow asked e is = grind arith

-- ---- what asks nothing more

-- It asks nothing, and its faults are its own.
abbrev Quiet : {B : Type 0} → Asks B → Type 0
Quiet {B} r = (r.0 ≡ []) × Alone B r.1

quiet_outcome : {B : Type 0} (src : List ℕ) (allow : Bool) (asked : List Asked) (r : Asks B) → Quiet r → HasAsked src allow asked → AskedOutcome src allow (asked ++ r.0, r.1)
quiet_outcome src allow asked r q has = grind (arith, append-nil, fault_next)

-- And what follows what asked.
quiet_then : {A B : Type 0} (src : List ℕ) (allow : Bool) (a : Asks A) (f : A → Asks B) → AskedOutcome src allow a → ((x : A) → Quiet (f x)) → AskedOutcome src allow (a >>> f)
quiet_then src allow a f h quiet = grind (arith, quiet_outcome)

-- One after the other.
quiet_both : {A B : Type 0} (r : Result A Refusal) (f : A → Asks B) → Alone A r → ((x : A) → Quiet (f x)) → Quiet (asks_nothing r >>> f)
quiet_both r f alone quiet = grind arith

module _ (src : List ℕ) (utf8 : IsUtf8 src) (allow : Bool) where
  -- ---- after what comes before the document type declaration
  module _ (i begun : ℕ) (before : Forest Item) (declares : MayHaveXmlDecl src (after_bom src) i) (ahead : Misc src i begun before) where
    later_next : (o : Opened src begun) (asked : List Asked) (request : Request) (p : ℕ) → Later src (o.s + 1) asked request p → AsksNext src asked request p
    later_next o asked request p l =
        at_entity begun l.j before l.nodes (i, declares, ahead) (subset_to o.s l.es o.begins o.bracket l.items) l.asks

    later_asked : (o : Opened src begun) → allow ≡ true → (asked : List Asked) → HasLater src (o.s + 1) asked → HasAsked src allow asked
    later_asked o may asked not_yet = nothing
    later_asked o may asked (one_later first request p answer l text) = one_more first request p answer may (later_next o first request p l) text

    within_asked : allow ≡ true → (asked : List Asked) → HasWithin src begun asked → HasAsked src allow asked
    within_asked may asked (inl none) = subst (HasAsked src allow) (sym none) nothing
    within_asked may asked (inr (o, has)) = later_asked o may asked has

    within_refused : allow ≡ true → (asked : List Asked) (e : Refusal) → RefusedWithin src begun asked e → RefusedNext src allow asked e
    within_refused may asked (here f) h = tt
    within_refused may asked (there source f) h = tt
    within_refused may asked (refused request p message) h = (may, later_next h.0 asked request p h.1)

    step_asked : (most : ℕ) (d : Dtd) → d.state.at ≡ begun → allow ≡ true → (r : Asks Dtd) → StepOutcome most src d r → AskedOutcome src allow r
    step_asked most d there_is may (asked, Ok e) h = within_asked may asked (rw there_is at h.0)
    step_asked most d there_is may (asked, Err e) h = (within_asked may asked (rw there_is at h.0), within_refused may asked e (subst (λ (k : ℕ). RefusedWithin src k asked e) there_is h.1))

    doctype_asked : (limit most : ℕ) (replies : List Reply) → limit ≤ most → AreTextReplies replies → IsValidState most (state begun before root 255)
        → AskedOutcome src allow (whole.doctype limit allow src (record { state = state begun before root 255; entities = []; replies = replies }))
    unfolding whole.doctype
    doctype_asked limit most replies limits texts fine =
        let start : Dtd = record { state = state begun before root 255; entities = []; replies = replies } in
        let O : Asks Dtd → Type 0 = AskedOutcome src allow in
        cond_both (at word.DoctypeStart src begun) _ _ O
        (λ opens. cond_both allow _ _ O
        (λ may. quiet_then src allow (doctype_step limit src start) _ (step_asked most start refl may _ (step_outcome src utf8 limit most start limits opens fine texts))
        (λ e. quiet_both (lifted (misc limit (length src) src e.state)) _ (alone_lifted _) (λ s. (refl, good _))))
        (λ may_not. (nothing, tt)))
        (λ none. nothing)

  -- ---- a whole text

  reading_asked : (limit : ℕ) (replies : List Reply) → AreTextReplies replies → AskedOutcome src allow (reading limit allow replies src)
  unfolding reading
  reading_asked limit replies texts =
      let most = limit + (1 - limit) in
      either (prolog src (after_bom src))
      (λ i read. either (misc limit (length src) src (state i Nil root 255))
      (λ s first.
      let may = prolog_sound src utf8 (after_bom src) i read in
      let start : IsValidState most (state i Nil root 255) = record { nodes = omega arith; attributes = omega arith; pairs = omega arith; named = tt } in
      let ahead = misc_sound src utf8 (length src) limit most 255 i Nil s (omega arith) (prolog_cut src utf8 (after_bom src) i (bom_cut src utf8) may) start first in
      let s_is : s ≡ state s.at ahead.0 root 255 = ahead.2 in
      let dtd = doctype_asked i s.at ahead.0 may ahead.1 limit most replies (omega arith) texts (subst (IsValidState most) s_is ahead.3) in
      let dtd' : AskedOutcome src allow (whole.doctype limit allow src (record { state = s; entities = []; replies = replies })) =
      subst (λ (s : State). AskedOutcome src allow (whole.doctype limit allow src (record { state = s; entities = []; replies = replies }))) (sym s_is) dtd in
      rw (read, first) (quiet_then src allow (whole.doctype limit allow src (record { state = s; entities = []; replies = replies })) _ dtd'
      (λ d. quiet_both (body limit d.entities src d.state) _ (body_alone limit d.entities src d.state) (λ x. (refl, alone_lifted _)))))
      (λ f ill. rw (read, ill) (nothing, tt)))
      (λ f ill. rw ill (nothing, tt))

  -- What was asked is there, whatever came of it.
  has_asked_by : {A : Type 0} (r : Asks A) (asked : List Asked) (x : Result A Refusal) → r ≡ (asked, x) → AskedOutcome src allow r → HasAsked src allow asked
  has_asked_by r asked x is h = grind arith

  pub has_asked : (limit : ℕ) (replies : List Reply) (asked : List Asked) (x : Result (Forest Item) Refusal) → AreTextReplies replies → reading limit allow replies src ≡ (asked, x) → HasAsked src allow asked
  has_asked limit replies asked x texts h = has_asked_by (reading limit allow replies src) asked x h (reading_asked limit replies texts)

  -- What the resolver refused is asked next.
  pub asks_next : (limit : ℕ) (replies : List Reply) (asked : List Asked) (request : Request) (p : ℕ) (message : List ℕ) → AreTextReplies replies
      → reading limit allow replies src ≡ (asked, Err (refused request p message)) → (allow ≡ true) × AsksNext src asked request p
  asks_next limit replies asked request p message texts h =
      let all : AskedOutcome {A = Forest Item} src allow (asked, Err (refused request p message)) = subst (AskedOutcome src allow) h (reading_asked limit replies texts) in all.1
