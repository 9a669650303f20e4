-- A document type declaration opens no element.
use Rattle.std.proofs.Common.{◌≡◌, ℕ, zero, suc, ◌||◌, ◌==◌, Bool, cond, List, Ok, Err, length, nat_le, nat_lt, slice_index, ◌∙◌, ◌+◌, if◌then◌else◌, arith}
use Rattle.rox_grammar.specs.declared.fault.Word.TheVariants as word
use Rattle.rox_grammar.specs.Search.{byte_from}
use Rattle.rox_grammar.specs.Names.{spaces_end}
use Rattle.rox_grammar.specs.FixedTexts.{at}
use Rattle.rox_grammar.specs.State.{Open, nodes_so_far}
use Rattle.rox_reading.specs.Refusals.{lifted}
use Rattle.rox_reading.specs.Lexical.{byte_at}
use Rattle.rox_reading.specs.Machine.{at_place, comment_step, instruction_step, counted}
use Rattle.rox_reading.specs.Doctype.{Asks, asks_nothing, ◌>>>◌, Dtd, with_state, entity_head_at, definition_at, defined, entity_step, skipped_declaration, subset_end, subset, doctype_head_at, doctype_step}
use Rattle.rox_reading.specs.WholeText.{misc, doctype}
use Rattle.rox_values.proofs.Lifting.{lifted_ok}
use Rattle.rox_reading.specs.Markup.{comment_at, instruction_at}
use Rattle.rox_reading.specs.State.{State}
use Rattle.rox_theory.proofs.Basics.{bind_ok}

-- ---- nor does what may be around it

pub branch_of : {X P : Type 0} (b : Bool) (x y z : X) → (if b then x else y) ≡ z → (x ≡ z → P) → (y ≡ z → P) → P
branch_of b x y z h one other = grind arith

counted_open : (limit : ℕ) (s t : State) → counted limit s ≡ Ok t → t.stack ≡ s.stack
counted_open limit s t h = branch_of (nat_le (nodes_so_far s.stack s.done) limit) _ _ _ h (λ e. cc) (λ e. cc)

pub comment_open : (limit : ℕ) (src : List ℕ) (s t : State) → comment_step limit src s ≡ Ok t → t.stack ≡ s.stack
unfolding comment_step
comment_open limit src s t h = bind_ok (comment_at src s.at) _ t h (λ x is e. counted_open limit _ t e)

pub instruction_open : (limit : ℕ) (src : List ℕ) (s t : State) → instruction_step limit src s ≡ Ok t → t.stack ≡ s.stack
unfolding instruction_step
instruction_open limit src s t h = bind_ok (instruction_at src s.at) _ t h (λ x is e. counted_open limit _ t e)

pub misc_open : (limit n : ℕ) (src : List ℕ) (s t : State) → misc limit n src s ≡ Ok t → t.stack ≡ s.stack
unfolding misc
misc_open limit zero src s t h = cc h
misc_open limit (suc n) src s t h =
    let a : State = record { at = spaces_end src s.at; done = s.done; stack = s.stack; openings_left = s.openings_left } in
    branch_of (at word.CommentStart src a.at) _ _ _ h
    (λ one. bind_ok (comment_step limit src a) (λ u. misc limit n src u) t one (λ u is e. misc_open limit n src u t e ∙ comment_open limit src a u is))
    (λ more. branch_of (at word.PIStart src a.at) _ _ _ more
    (λ one. bind_ok (instruction_step limit src a) (λ u. misc limit n src u) t one (λ u is e. misc_open limit n src u t e ∙ instruction_open limit src a u is))
    (λ none. cc))

-- ---- the declaration

-- what comes of an asking has this, where something does
abbrev AreBindingsOf : {A : Type 0} → (A → Type 0) → Asks A → Type 0
AreBindingsOf P (asked, Ok x) = P x
AreBindingsOf P (asked, Err e) = Unit {0}

keeps_after : {A B : Type 0} (P : B → Type 0) (r : Asks A) (f : A → Asks B) → ((x : A) → r.1 ≡ Ok x → AreBindingsOf P (f x)) → AreBindingsOf P (r >>> f)
keeps_after P r f go = grind arith

kept_by : {A : Type 0} (P : A → Type 0) (r : Asks A) (x : A) → AreBindingsOf P r → r.1 ≡ Ok x → P x
kept_by P r x h is = grind arith

keeps_choice : {A : Type 0} (P : A → Type 0) (b : Bool) (x y : Asks A) → AreBindingsOf P x → AreBindingsOf P y → AreBindingsOf P (cond b x y)
keeps_choice P b x y h k = grind arith

module _ (open' : Open) where
  -- as many elements are open as before
  abbrev Same : Dtd → Type 0
  Same d = d.state.stack ≡ open'

  entity_same : (src : List ℕ) (d : Dtd) → Same d → AreBindingsOf Same (entity_step src d)
  unfolding entity_step
  entity_same src d h =
      keeps_after Same (asks_nothing (lifted (entity_head_at src d.state.at))) _ (λ head e.
      keeps_after Same (asks_nothing (lifted (definition_at head.0.parameter src head.1))) _ (λ definition e.
      keeps_after Same (defined definition.0 definition.1 d.replies) _ (λ text e.
      keeps_after Same (asks_nothing (lifted (byte_at 62 src (spaces_end src definition.1)))) _ (λ end e. h))))

  passed_same : (i : ℕ) (src : List ℕ) (d : Dtd) → Same d → AreBindingsOf Same (skipped_declaration i src d)
  unfolding skipped_declaration
  passed_same i src d h = keeps_choice Same (nat_lt (byte_from (λ c. c == 62) src d.state.at) (length src)) _ _ h tt

  end_same : (src : List ℕ) (d : Dtd) → Same d → AreBindingsOf Same (subset_end src d)
  unfolding subset_end
  end_same src d h =
      let e = spaces_end src (d.state.at + 1) in
      keeps_choice Same (nat_le (length src) e) _ _ tt (keeps_choice Same (slice_index src e == 62) _ _ h tt)

  subset_same : (limit i n : ℕ) (src : List ℕ) (d : Dtd) → Same d → AreBindingsOf Same (subset limit i n src d)
  unfolding subset
  subset_same limit i zero src d h = h
  subset_same limit i (suc n) src d h =
      let s = at_place (spaces_end src d.state.at) d.state in
      keeps_choice Same (nat_le (length src) d.state.at) _ _ h
      (keeps_choice Same (at word.EntityStart src s.at) _ _ (keeps_after Same (entity_step src (with_state d s)) _ (λ e is. subset_same limit i n src e (kept_by Same (entity_step src (with_state d s)) e (entity_same src (with_state d s) h) is)))
      (keeps_choice Same (at word.CommentStart src s.at) _ _ (keeps_after Same (asks_nothing (lifted (comment_step limit src s))) _ (λ t is. subset_same limit i n src (with_state d t) (comment_open limit src s t (lifted_ok _ t is) ∙ h)))
      (keeps_choice Same (at word.PIStart src s.at) _ _ (keeps_after Same (asks_nothing (lifted (instruction_step limit src s))) _ (λ t is. subset_same limit i n src (with_state d t) (instruction_open limit src s t (lifted_ok _ t is) ∙ h)))
      (keeps_choice Same (at word.ElementStart src s.at || (at word.AttlistStart src s.at || at word.NotationStart src s.at)) _ _
      (keeps_after Same (skipped_declaration i src (with_state d s)) _ (λ e is. subset_same limit i n src e (kept_by Same (skipped_declaration i src (with_state d s)) e (passed_same i src (with_state d s) h) is)))
      (keeps_choice Same (slice_index src s.at == 93) _ _ (end_same src (with_state d s) h) tt)))))

  type_same : (limit : ℕ) (src : List ℕ) (d : Dtd) → Same d → AreBindingsOf Same (doctype_step limit src d)
  unfolding doctype_step
  type_same limit src d h =
      keeps_after Same (asks_nothing (lifted (doctype_head_at src d.state.at))) _ (λ head e.
      keeps_choice Same (nat_le (length src) head.1) _ _ tt (keeps_choice Same (slice_index src head.1 == 62) _ _ h
      (keeps_choice Same (slice_index src head.1 == 91) _ _ (subset_same limit d.state.at (length src) src (with_state d (at_place (head.1 + 1) d.state)) h) tt)))

  doctype_same : (limit : ℕ) (allow : Bool) (src : List ℕ) (d : Dtd) → Same d → AreBindingsOf Same (doctype limit allow src d)
  unfolding doctype
  doctype_same limit allow src d h =
      keeps_choice Same (at word.DoctypeStart src d.state.at) _ _
      (keeps_choice Same allow _ _
      (keeps_after Same (doctype_step limit src d) _ (λ e is.
      keeps_after Same (asks_nothing (lifted (misc limit (length src) src e.state))) _ (λ s read.
      misc_open limit (length src) src e.state s (lifted_ok _ s read) ∙ kept_by Same (doctype_step limit src d) e (type_same limit src d h) is)))
      tt)
      h

-- where none is open before it, none is behind it
pub doctype_open : (limit : ℕ) (allow : Bool) (src : List ℕ) (d e : Dtd) (open' : Open) → d.state.stack ≡ open' → (doctype limit allow src d).1 ≡ Ok e → e.state.stack ≡ open'
doctype_open limit allow src d e open' h is = kept_by (λ (x : Dtd). x.state.stack ≡ open') (doctype limit allow src d) e (doctype_same open' limit allow src d h) is
