-- The loop over comments and processing instructions gives what is read.
use Rattle.std.proofs.Common.{◌≡◌, ℕ, suc, true, false, List, refl, sym, ap, ◌∙◌, Result, Ok}
use Rattle.rox_grammar.specs.declared.fault.Word.TheVariants as word
use Rattle.rox_grammar.specs.Names.{spaces_end}
use Rattle.rox_grammar.specs.FixedTexts.{at}
use Rattle.rox_reading.specs.Lexical.{◌>>=◌}
use Rattle.rox_reading.specs.Refusals.{Refusal, lifted}
use Rattle.rox_reading.specs.State.{State}
use Rattle.rox_reading.specs.Machine.{comment_step, instruction_step}
use Rattle.rox_reading.specs.WholeText.{misc}
use Rattle.rox_scan.specs.declared.cursor.Cursor.{Cursor}
use Rattle.rox_grammar.specs.declared.failure.Failure.{Failure}
use Rattle.rox_grammar.specs.declared.failure.Failure.TheVariants as failure
use Rattle.rox_values.specs.Refusals.{IsFailure}
use Rattle.rox_builder.specs.BuilderState.{IsInState, ScansTo}
use Rattle.rox_values.proofs.Lifting.{lifted_ok, lifted_err}
use Rattle.rox_builder.specs.declared.builder.Builder.{Builder}

-- ---- comments, processing instructions and white space

pub record Going (limit end : ℕ) (src : List ℕ) (whole : Result State Refusal) (n : ℕ) (c : Cursor) (b : Builder) : Type 0 where
  pub s : State
  pub sees : IsInState limit end s c b
  pub same : lifted (misc limit n src s) ≡ whole

-- behind white space
abbrev pub spaced : List ℕ → State → State
spaced src s = record { at = spaces_end src s.at; done = s.done; stack = s.stack; openings_left = s.openings_left }

pub sees_spaced : (limit end : ℕ) (src : List ℕ) (s : State) (c d : Cursor) (b : Builder) → IsInState limit end s c b → d.pos ≡ spaces_end src c.pos → IsInState limit end (spaced src s) d b
sees_spaced limit end src s c d b h next =
    record { here = next ∙ ap (spaces_end src) h.here; limit_is = h.limit_is; shows = h.shows; namespaces = h.namespaces; attributes = h.attributes; openings_left_is = h.openings_left_is }

commented : (limit n m : ℕ) (src : List ℕ) (s : State) → n ≡ suc m → at word.CommentStart src (spaces_end src s.at) ≡ true
    → misc limit n src s ≡ (comment_step limit src (spaced src s) >>= λ u. misc limit m src u)
unfolding misc
commented limit n m src s one is = rw (one, is) refl

instructed : (limit n m : ℕ) (src : List ℕ) (s : State) → n ≡ suc m → at word.CommentStart src (spaces_end src s.at) ≡ false → at word.PIStart src (spaces_end src s.at) ≡ true
    → misc limit n src s ≡ (instruction_step limit src (spaced src s) >>= λ u. misc limit m src u)
unfolding misc
instructed limit n m src s one other is = rw (one, other, is) refl

pub comment_on : (limit end : ℕ) (src : List ℕ) (whole : Result State Refusal) (n m : ℕ) (c d : Cursor) (b u : Builder) (x : Unit {0}) (g : Going limit end src whole n c b) → n ≡ suc m
    → at word.CommentStart src (spaces_end src g.s.at) ≡ true → ScansTo limit end (Ok x) d u (lifted (comment_step limit src (spaced src g.s))) → Going limit end src whole m d u
comment_on limit end src whole n m c d b u x g one is (t, read, sees) = record { s = t; sees = sees; same = sym (ap lifted (commented limit n m src g.s one is) ∙ rw (lifted_ok _ _ read) refl) ∙ g.same }

pub instruction_on : (limit end : ℕ) (src : List ℕ) (whole : Result State Refusal) (n m : ℕ) (c d : Cursor) (b u : Builder) (x : Unit {0}) (g : Going limit end src whole n c b) → n ≡ suc m
    → at word.CommentStart src (spaces_end src g.s.at) ≡ false → at word.PIStart src (spaces_end src g.s.at) ≡ true
    → ScansTo limit end (Ok x) d u (lifted (instruction_step limit src (spaced src g.s))) → Going limit end src whole m d u
instruction_on limit end src whole n m c d b u x g one other is (t, read, sees) = record { s = t; sees = sees; same = sym (ap lifted (instructed limit n m src g.s one other is) ∙ rw (lifted_ok _ _ read) refl) ∙ g.same }

pub comment_fails : (limit end : ℕ) (src : List ℕ) (whole : Result State Refusal) (n m : ℕ) (c : Cursor) (b : Builder) (e : Failure) (g : Going limit end src whole n c b) → n ≡ suc m
    → at word.CommentStart src (spaces_end src g.s.at) ≡ true → IsFailure e (lifted (comment_step limit src (spaced src g.s))) → IsFailure e whole
comment_fails limit end src whole n m c b failure.Memory g one is h = tt
comment_fails limit end src whole n m c b (failure.Fault f) g one is h = sym g.same ∙ ap lifted (commented limit n m src g.s one is) ∙ rw (lifted_err _ f h) refl

pub instruction_fails : (limit end : ℕ) (src : List ℕ) (whole : Result State Refusal) (n m : ℕ) (c : Cursor) (b : Builder) (e : Failure) (g : Going limit end src whole n c b) → n ≡ suc m
    → at word.CommentStart src (spaces_end src g.s.at) ≡ false → at word.PIStart src (spaces_end src g.s.at) ≡ true → IsFailure e (lifted (instruction_step limit src (spaced src g.s))) → IsFailure e whole
instruction_fails limit end src whole n m c b failure.Memory g one other is h = tt
instruction_fails limit end src whole n m c b (failure.Fault f) g one other is h = sym g.same ∙ ap lifted (instructed limit n m src g.s one other is) ∙ rw (lifted_err _ f h) refl

-- something else stands here
pub misc_done : (limit end : ℕ) (src : List ℕ) (whole : Result State Refusal) (n m : ℕ) (c d : Cursor) (b : Builder) (g : Going limit end src whole n c b) → n ≡ suc m
    → at word.CommentStart src (spaces_end src g.s.at) ≡ false → at word.PIStart src (spaces_end src g.s.at) ≡ false → d.pos ≡ spaces_end src c.pos
    → (s : State) × (whole ≡ Ok s) × IsInState limit end s d b
unfolding misc
misc_done limit end src whole n m c d b g one other also next =
    (spaced src g.s, sym g.same ∙ rw (one, other, also) refl, sees_spaced limit end src g.s c d b g.sees next)

pub misc_spent : (limit end : ℕ) (src : List ℕ) (whole : Result State Refusal) (n : ℕ) (c : Cursor) (b : Builder) (g : Going limit end src whole n c b) → n ≡ 0
    → (s : State) × (whole ≡ Ok s) × IsInState limit end s c b
unfolding misc
misc_spent limit end src whole n c b g none = (g.s, sym g.same ∙ rw none refl, g.sees)
