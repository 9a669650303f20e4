-- Constructs that are read one behind another, in a loop.
use Rattle.std.proofs.Common.{◌≡◌, ℕ, ◌+◌, ◌<◌, ◌≤◌, false, List, length, vec_len, slice_index, refl, sym, ap, subst, ◌∙◌, arith, Result, Ok}
use Rattle.rox_grammar.specs.State.{Open, root, inside, is_root}
use Rattle.rox_grammar.specs.Written.{Text}
use Rattle.rox_grammar.specs.declared.failure.Failure.{Failure}
use Rattle.rox_reading.specs.Refusals.{Refusal, lifted}
use Rattle.rox_reading.specs.Values.{ReadText}
use Rattle.rox_reading.specs.State.{State, depth_of}
use Rattle.rox_reading.specs.Machine.{Context, step, with_item}
use Rattle.rox_scan.specs.declared.cursor.Cursor.{Cursor}
use Rattle.rox_builder.specs.BuilderState.{Adds, IsInState, IsReady, IsReadyTo, KeepsOpen, Represents, ScansTo}
use Rattle.rox_sections.specs.PlainSteps.{Steps, no_step, one_more, Reads}
use Rattle.rox_bytes.proofs.RunLemmas.{stands_within}
use Rattle.rox_builder.proofs.Stepping.{opened_deep, text_stepped}
use Rattle.rox_builder.specs.declared.builder.Builder.{Builder}

still_inside : (o p : Open) → depth_of o ≡ depth_of p → is_root o ≡ false → is_root p ≡ false
still_inside root p same inner = cc inner
still_inside (inside start tag before up) root same inner = absurd (omega (arith, same))
still_inside (inside start tag before up) (inside start' tag' before' up') same inner = refl

-- where there is room for so many rows in all, there is room for fewer more
pub ready_within : (most n : ℕ) (b : Builder) → vec_len b.nodes.rows + n ≤ most → IsReadyTo most b → IsReady n b
ready_within most n b fewer h =
    record { room = omega (arith, fewer, h.room); few = omega (arith, fewer, h.few); small = omega (arith, fewer, h.small); settled = h.settled }

-- the place alone counts, not the cursor that stands there
pub stands_there : (limit end : ℕ) (s : State) (c d : Cursor) (b : Builder) → d.pos ≡ c.pos → IsInState limit end s c b → IsInState limit end s d b
stands_there limit end s c d b same h = record {
  here = same ∙ h.here;
  limit_is = h.limit_is;
  shows = h.shows;
  namespaces = h.namespaces;
  attributes = h.attributes;
  openings_left_is = h.openings_left_is;
}

pub scans_there : (limit end : ℕ) (c d : Cursor) (b : Builder) (read : Result State Refusal) → d.pos ≡ c.pos → ScansTo limit end (Ok tt) c b read → ScansTo limit end (Ok tt) d b read
scans_there limit end c d b read same (t, is, sees) = (t, is, stands_there limit end t c d b same sees)

-- a text between two offsets was added
pub text_stepped_at : (limit end : ℕ) (s : State) (c d : Cursor) (i j : ℕ) (b u : Builder) (r : Result (Unit {0}) Failure) (t : ReadText) → c.pos ≡ i → d.pos ≡ j → IsInState limit end s c b
    → KeepsOpen b u → Adds end r u (with_item b.nodes_limit s j (Text i j t.value t.borrowed)) → ScansTo limit end r d u (lifted (with_item limit s j (Text s.at j t.value t.borrowed)))
text_stepped_at limit end s c d i j b u r t start stop h kept adds =
    subst (λ (n : ℕ). ScansTo limit end r d u (lifted (with_item limit s n (Text s.at n t.value t.borrowed)))) stop
    (text_stepped limit end s c d b u r t h kept.tables kept.limit kept.openings_left
    (subst (λ (n : ℕ). Adds end r u (with_item b.nodes_limit s n (Text c.pos n t.value t.borrowed))) (sym stop)
    (subst (λ (n : ℕ). Adds end r u (with_item b.nodes_limit s j (Text n j t.value t.borrowed))) (sym start) adds)))

-- nothing was read
pub reads_none : (context : Context) (end : ℕ) (src : List ℕ) (s : State) (c : Cursor) (b : Builder) → IsInState context.limit end s c b → Reads context end 0 c b src s
reads_none context end src s c b h = record { behind = s; steps = no_step s; sees = h }

-- one step was read
pub reads_one : (context : Context) (end : ℕ) (src : List ℕ) (s : State) (c : Cursor) (b : Builder) → is_root s.stack ≡ false → s.at < length src → ScansTo context.limit end (Ok tt) c b (step context src s)
    → Reads context end 1 c b src s
reads_one context end src s c b inner within (t, read, sees) = record { behind = t; steps = one_more 0 s t t inner within read (no_step t); sees = sees }

-- a text opens and closes nothing
pub inside_still : (end : ℕ) (s t : State) (b u : Builder) → Represents end s.stack s.done b → Represents end t.stack t.done u → u.opened ≡ b.opened → is_root s.stack ≡ false → is_root t.stack ≡ false
inside_still end s t b u shows after opens inner =
    let deep : depth_of s.stack ≡ depth_of t.stack = sym (opened_deep end s.stack s.done b shows) ∙ ap (λ os. length os.items) (sym opens) ∙ opened_deep end t.stack t.done u after in
    still_inside s.stack t.stack deep inner

-- a run opens and closes nothing, and `<` stands behind it
run_behind : (context : Context) (end : ℕ) (src : List ℕ) (s t : State) (c d : Cursor) (b u : Builder) → IsInState context.limit end s c b → is_root s.stack ≡ false → u.opened ≡ b.opened
    → IsInState context.limit end t d u → slice_index src d.pos ≡ 60 → (is_root t.stack ≡ false) × (t.at < length src)
run_behind context end src s t c d b u h inner opens sees here =
    (inside_still end s t b u h.shows sees.shows opens inner, subst (λ (n : ℕ). n < length src) sees.here (stands_within src d.pos 60 here (omega arith)))

steps_then : (context : Context) (src : List ℕ) (n m : ℕ) (s t u : State) → Steps context src n s t → Steps context src m t u → Steps context src (n + m) s u
steps_then context src n m s t u (no_step _) more = let e : m ≡ 0 + m = omega arith in subst (λ (j : ℕ). Steps context src j s u) e more
steps_then context src n m s t u (one_more k _ r _ inner within read rest) more =
    subst (λ (j : ℕ). Steps context src j s u) (omega arith) (one_more (k + m) s r u inner within read (steps_then context src k m r t u rest more))

-- what was read, and what was read behind it
pub reads_then : (context : Context) (end n m : ℕ) (src : List ℕ) (s : State) (c d : Cursor) (b u : Builder) (x : Reads context end n c b src s) → Reads context end m d u src x.behind → Reads context end (n + m) d u src s
reads_then context end n m src s c d b u x y = record { behind = y.behind; steps = steps_then context src n m s x.behind y.behind x.steps y.steps; sees = y.sees }

-- what was read up to a place inside the root element and before the end
abbrev pub Between : (context : Context) (end n : ℕ) (c : Cursor) (b : Builder) (src : List ℕ) (s : State) → Type 0
Between context end n c b src s = (x : Reads context end n c b src s) × (is_root x.behind.stack ≡ false) × (x.behind.at < length src)

-- and a run behind it, before `<`
pub reads_run : (context : Context) (end n : ℕ) (src : List ℕ) (s : State) (c d : Cursor) (b u : Builder) (x : Between context end n c b src s) → u.opened ≡ b.opened
    → ScansTo context.limit end (Ok tt) d u (step context src x.0.behind) → slice_index src d.pos ≡ 60 → Between context end (n + 1) d u src s
reads_run context end n src s c d b u (g, inner, within) opens (t, read, sees) here =
    let behind = run_behind context end src g.behind t c d b u g.sees inner opens sees here in
    (record { behind = t; steps = steps_then context src n 1 s g.behind t g.steps (one_more 0 g.behind t t inner within read (no_step t)); sees = sees }, behind.0, behind.1)

-- and markup behind it
pub reads_markup : (context : Context) (end n : ℕ) (src : List ℕ) (s : State) (c d : Cursor) (b u : Builder) → Between context end n c b src s
    → ((t : State) → IsInState context.limit end t c b → ScansTo context.limit end (Ok tt) d u (step context src t)) → Reads context end (n + 1) d u src s
reads_markup context end n src s c d b u (g, inner, within) next = reads_then context end n 1 src s c d b u g (reads_one context end src g.behind d u inner within (next g.behind g.sees))

-- where nothing was read behind it
pub reads_kept : (context : Context) (end n : ℕ) (src : List ℕ) (s : State) (c d : Cursor) (b u : Builder) → Reads context end n c b src s
    → ((t : State) → IsInState context.limit end t c b → IsInState context.limit end t d u) → Reads context end n d u src s
reads_kept context end n src s c d b u g other = record { behind = g.behind; steps = g.steps; sees = other g.behind g.sees }
