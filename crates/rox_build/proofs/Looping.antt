-- The loop over constructs of content gives what is read.
use Rattle.std.proofs.Common.{◌≡◌, ℕ, zero, suc, ◌+◌, ◌-◌, ◌<◌, ◌≤◌, true, false, List, length, refl, sym, ◌∙◌, arith, Result, Ok, Err, lt-ltb, le-ltb, IsUtf8}
use Rattle.rox_grammar.specs.declared.fault.Fault.TheVariants as fault
use Rattle.rox_reading.specs.Lexical.{◌>>=◌}
use Rattle.rox_grammar.specs.State.{is_root}
use Rattle.rox_reading.specs.Refusals.{Refusal, here}
use Rattle.rox_reading.specs.State.{State}
use Rattle.rox_reading.specs.Machine.{Context, step, drive}
use Rattle.rox_scan.specs.declared.cursor.Cursor.{Cursor}
use Rattle.rox_values.specs.Refusals.{IsRefusal}
use Rattle.rox_values.specs.declared.parse_error.ParseError.{ParseError}
use Rattle.rox_values.proofs.PartLemmas.{refuses_by}
use Rattle.rox_builder.specs.BuilderState.{IsInState, ParsesTo}
use Rattle.rox_constructs.proofs.Moving.{step_moves}
use Rattle.rox_builder.specs.declared.builder.Builder.{Builder}
use Rattle.rox_sections.specs.PlainSteps.{Steps, no_step, one_more, Reads}

-- Reading goes on where the cursor and the builder stand, and gives the whole: so many turns have come there, a byte at least each, and
-- the steps that are left are enough for the rest of the text.
pub record Driving (context : Context) (end : ℕ) (src : List ℕ) (whole : Result State Refusal) (turns : ℕ) (c : Cursor) (b : Builder) : Type 0 where
  pub s : State
  pub sees : IsInState context.limit end s c b
  pub n : ℕ
  pub same : drive context n src s ≡ whole
  pub enough : length src ≤ n + s.at
  pub onward : turns ≤ s.at

pub driven : (context : Context) (n m : ℕ) (src : List ℕ) (s : State) → n ≡ suc m → is_root s.stack ≡ false → s.at < length src
    → drive context n src s ≡ (step context src s >>= λ t. drive context m src t)
unfolding drive
driven context n m src s one inner inside = let k = lt-ltb _ _ inside in rw (one, inner, k) refl

pub drives_on : (context : Context) (end : ℕ) (src : List ℕ) (whole : Result State Refusal) (turns : ℕ) (c d : Cursor) (b u : Builder) (x : Unit {0}) (g : Driving context end src whole turns c b)
    → IsUtf8 src → is_root g.s.stack ≡ false
    → g.s.at < length src → ParsesTo context.limit end (Ok x) d u (step context src g.s) → Driving context end src whole (turns + 1) d u
drives_on context end src whole turns c d b u x g utf8 inner inside (t, read, sees) =
    let on = step_moves context src g.s t utf8 inside read in
    record {
      s = t;
      sees = sees;
      n = g.n - 1;
      same = sym (driven context g.n (g.n - 1) src g.s (omega (arith, g.enough, inside)) inner inside ∙ rw read refl) ∙ g.same;
      enough = omega (arith, g.enough, inside, on);
      onward = omega (arith, g.onward, on);
    }

pub drive_fails : (context : Context) (end : ℕ) (src : List ℕ) (whole : Result State Refusal) (turns : ℕ) (c : Cursor) (b : Builder) (e : ParseError) (g : Driving context end src whole turns c b)
    → is_root g.s.stack ≡ false
    → g.s.at < length src → IsRefusal e (step context src g.s) → IsRefusal e whole
drive_fails context end src whole turns c b e g inner inside h =
    refuses_by e (step context src g.s) whole (λ r err. sym g.same ∙ driven context g.n (g.n - 1) src g.s (omega (arith, g.enough, inside)) inner inside ∙ rw err refl) h

-- the root element is closed
pub drive_done : (context : Context) (end : ℕ) (src : List ℕ) (whole : Result State Refusal) (turns : ℕ) (c : Cursor) (b : Builder) (g : Driving context end src whole turns c b)
    → is_root g.s.stack ≡ true
    → (s : State) × (whole ≡ Ok s) × IsInState context.limit end s c b
unfolding drive
drive_done context end src whole turns c b g closed = (g.s, sym g.same ∙ stays g.n, g.sees)
  where
    stays : (n : ℕ) → drive context n src g.s ≡ Ok g.s
    stays zero = rw closed refl
    stays (suc n) = rw closed refl

-- the text ends within it
pub drive_cut : (context : Context) (end : ℕ) (src : List ℕ) (whole : Result State Refusal) (turns : ℕ) (c : Cursor) (b : Builder) (g : Driving context end src whole turns c b)
    → is_root g.s.stack ≡ false
    → length src ≤ g.s.at → whole ≡ Err (here fault.UnclosedRootNode)
unfolding drive
drive_cut context end src whole turns c b g inner past = sym g.same ∙ stops g.n
  where
    stops : (n : ℕ) → drive context n src g.s ≡ Err (here fault.UnclosedRootNode)
    stops zero = rw inner refl
    stops (suc n) = let k = le-ltb _ _ past in rw (inner, k) refl

-- so many steps move on, and reading gives behind them what it gave
drive_past : (context : Context) (src : List ℕ) (n k : ℕ) (s t : State) → IsUtf8 src → Steps context src k s t → length src ≤ n + s.at
    → (m : ℕ) × (drive context n src s ≡ drive context m src t) × (length src ≤ m + t.at) × (s.at ≤ t.at)
drive_past context src n k s t utf8 (no_step _) enough = (n, refl, enough, omega arith)
drive_past context src n k s t utf8 (one_more j _ r _ inner within read rest) enough =
    let on = step_moves context src s r utf8 within read in
    let past = drive_past context src (n - 1) j r t utf8 rest (omega (arith, enough, within, on)) in
    (past.0, driven context n (n - 1) src s (omega (arith, enough, within)) inner within ∙ rw read past.1, past.2, omega (arith, on, past.3))

-- the loop goes on behind what was read
pub drives_past : (context : Context) (end : ℕ) (src : List ℕ) (whole : Result State Refusal) (turns k : ℕ) (c d : Cursor) (b u : Builder) (g : Driving context end src whole turns c b)
    → IsUtf8 src → Reads context end k d u src g.s
    → Driving context end src whole turns d u
drives_past context end src whole turns k c d b u g utf8 x = grind (arith, drive_past context src g.n k g.s x.behind utf8 x.steps g.enough)

-- and has moved on
pub drives_beyond : (context : Context) (end : ℕ) (src : List ℕ) (whole : Result State Refusal) (turns k : ℕ) (c d : Cursor) (b u : Builder) (g : Driving context end src whole turns c b)
    → IsUtf8 src → Reads context end k d u src g.s → (i : ℕ) → i ≡ g.s.at → i < d.pos
    → Driving context end src whole (turns + 1) d u
drives_beyond context end src whole turns k c d b u g utf8 x i stood less = grind (arith, drive_past context src g.n k g.s x.behind utf8 x.steps g.enough)
