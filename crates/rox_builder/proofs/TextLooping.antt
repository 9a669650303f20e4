-- The constructs of a replacement text, one after another, up to its end.
use Rattle.std.proofs.Common.{◌≡◌, ℕ, zero, suc, ◌<◌, ◌≤◌, List, Result, Ok, Err, length, refl, sym, ◌∙◌, lt-ltb, le-ltb, eq-eqb, ne_eqb}
use Rattle.rox_grammar.specs.declared.fault.Fault.TheVariants as fault
use Rattle.rox_reading.specs.Lexical.{◌>>=◌}
use Rattle.rox_reading.specs.Refusals as refusal
use Rattle.rox_reading.specs.Refusals.{Refusal}
use Rattle.rox_reading.specs.State as reading
use Rattle.rox_reading.specs.State.{State}
use Rattle.rox_reading.specs.Machine.{Context, step, drive_text, text_ends}
use Rattle.rox_scan.specs.declared.cursor.Cursor.{Cursor}
use Rattle.rox_values.specs.Refusals.{IsRefusal}
use Rattle.rox_builder.specs.BuilderState.{IsInState, HoldsState, ParsesToHeld, ParsesTo}
use Rattle.rox_values.specs.declared.parse_error.ParseError.{ParseError}
use Rattle.rox_builder.specs.declared.builder.Builder.{Builder}
use Rattle.rox_values.proofs.PartLemmas.{refuses_by}
use Rattle.rox_builder.proofs.Stepping.{opened_deep}

pub record Texting (context : Context) (end : ℕ) (src : List ℕ) (whole : Result State Refusal) (n : ℕ) (c : Cursor) (b : Builder) : Type 0 where
  pub s : State
  pub sees : IsInState context.limit end s c b
  pub same : drive_text context n src s ≡ whole

pub texted : (context : Context) (n m : ℕ) (src : List ℕ) (s : State) → n ≡ suc m → s.at < length src → drive_text context n src s ≡ (step context src s >>= λ t. drive_text context m src t)
unfolding drive_text
texted context n m src s one more = let k = lt-ltb _ _ more in rw (one, k) refl

pub text_on : (context : Context) (end : ℕ) (src : List ℕ) (whole : Result State Refusal) (n m : ℕ) (c d : Cursor) (b u : Builder) (x : Unit {0}) (g : Texting context end src whole n c b) → n ≡ suc m
    → g.s.at < length src → ParsesTo context.limit end (Ok x) d u (step context src g.s) → Texting context end src whole m d u
text_on context end src whole n m c d b u x g one more (t, read, sees) =
    record { s = t; sees = sees; same = sym (texted context n m src g.s one more ∙ rw read refl) ∙ g.same }

pub text_fails : (context : Context) (end : ℕ) (src : List ℕ) (whole : Result State Refusal) (n m : ℕ) (c : Cursor) (b : Builder) (e : ParseError) (g : Texting context end src whole n c b) → n ≡ suc m
    → g.s.at < length src → IsRefusal e (step context src g.s) → IsRefusal e whole
text_fails context end src whole n m c b e g one more h = refuses_by e (step context src g.s) whole (λ r err. sym g.same ∙ texted context n m src g.s one more ∙ rw err refl) h

-- the end of the text
pub ended : (context : Context) (n : ℕ) (src : List ℕ) (s : State) → length src ≤ s.at → drive_text context n src s ≡ text_ends context s
unfolding drive_text
ended context zero src s past = refl
ended context (suc n) src s past = let k = le-ltb _ _ past in rw k refl

spent : (context : Context) (n : ℕ) (src : List ℕ) (s : State) → n ≡ 0 → drive_text context n src s ≡ text_ends context s
unfolding drive_text
spent context n src s none = rw none refl

moved : (limit end : ℕ) (b : Builder) (r : Result (Unit {0}) ParseError) (one other : Result State Refusal) → one ≡ other → ParsesToHeld limit end r b one → ParsesToHeld limit end r b other
moved limit end b r one other e h = rw (← e) h

pub text_at_end : (context : Context) (end : ℕ) (src : List ℕ) (whole : Result State Refusal) (n : ℕ) (c : Cursor) (b : Builder) (r : Result (Unit {0}) ParseError) (g : Texting context end src whole n c b)
    → length src ≤ g.s.at → ParsesToHeld context.limit end r b (text_ends context g.s) → ParsesToHeld context.limit end r b whole
text_at_end context end src whole n c b r g past h = moved context.limit end b r (text_ends context g.s) whole (sym (ended context n src g.s past) ∙ g.same) h

pub text_spent : (context : Context) (end : ℕ) (src : List ℕ) (whole : Result State Refusal) (n : ℕ) (c : Cursor) (b : Builder) (r : Result (Unit {0}) ParseError) (g : Texting context end src whole n c b)
    → n ≡ 0 → ParsesToHeld context.limit end r b (text_ends context g.s) → ParsesToHeld context.limit end r b whole
text_spent context end src whole n c b r g none h = moved context.limit end b r (text_ends context g.s) whole (sym (spent context n src g.s none) ∙ g.same) h

-- ---- whether it ends where it began

pub opened_depth : (limit end : ℕ) (s : State) (b : Builder) → HoldsState limit end s b → length b.opened.items ≡ reading.depth_of s.stack
opened_depth limit end s b h = opened_deep end s.stack s.done b h.shows

pub text_closed : (context : Context) (s : State) → reading.depth_of s.stack ≡ context.open_around → text_ends context s ≡ Ok s
text_closed context s h = let k = eq-eqb _ _ h in rw k refl

pub text_open : (context : Context) (s : State) → (reading.depth_of s.stack ≡ context.open_around → ⊥) → text_ends context s ≡ Err (refusal.here fault.UnexpectedEndOfStream)
text_open context s h = let k = ne_eqb _ _ h in rw k refl
