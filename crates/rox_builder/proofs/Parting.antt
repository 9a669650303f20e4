-- The parts of a run, one after another, and the replacement texts between them.
use Rattle.std.proofs.Common.{◌≡◌, ℕ, suc, ◌-◌, Bool, false, List, [], Result, Ok, Err, refl, sym, ap, subst, ◌∙◌, arith, append-nil}
use Rattle.rox_grammar.specs.declared.fault.Fault.{Fault}
use Rattle.rox_grammar.specs.Entities.{Replacement}
use Rattle.rox_grammar.specs.Written.{Text}
use Rattle.rox_reading.specs.Lexical.{◌>>=◌}
use Rattle.rox_reading.specs.Refusals.{Refusal, lifted}
use Rattle.rox_reading.specs.State.{State}
use Rattle.rox_reading.specs.Values.{Next, at_end, opening, data_part, part_text}
use Rattle.rox_reading.specs.Machine.{Context, with_item, with_piece, after_part, at_place, data_parts}
use Rattle.rox_grammar.specs.Failures.{Fails}
use Rattle.rox_scan.specs.declared.cursor.Cursor.{Cursor}
use Rattle.rox_grammar.specs.declared.failure.Failure.{Failure}
use Rattle.rox_grammar.specs.declared.failure.Failure.TheVariants as failure
use Rattle.rox_values.specs.Refusals.{IsRefusal, of_failure}
use Rattle.rox_builder.specs.DataParts.{next_part}
use Rattle.rox_builder.specs.BuilderState.{Adds, IsInState, HoldsState}
use Rattle.rox_values.specs.declared.parse_error.ParseError.{ParseError}
use Rattle.rox_builder.specs.declared.builder.Builder.{Builder}
use Rattle.rox_values.proofs.PartLemmas.{refuses_by}
use Rattle.rox_theory.proofs.Standing.{pairs-item, attributes-item}

pub rests_of : (limit end : ℕ) (s : State) (c : Cursor) (b : Builder) → IsInState limit end s c b → HoldsState limit end s b
rests_of limit end s c b h = record { limit_is = h.limit_is; shows = h.shows; namespaces = h.namespaces; attributes = h.attributes; openings_left_is = h.openings_left_is }

pub sees_at : (limit end : ℕ) (s : State) (c : Cursor) (b : Builder) → c.pos ≡ s.at → HoldsState limit end s b → IsInState limit end s c b
sees_at limit end s c b here h = record { here = here; limit_is = h.limit_is; shows = h.shows; namespaces = h.namespaces; attributes = h.attributes; openings_left_is = h.openings_left_is }

-- ---- a piece

-- a piece of text adds no declaration and no attribute
pub text_rests : (limit end : ℕ) (s : State) (b u : Builder) (x : Unit {0}) (start stop : ℕ) (text : List ℕ) (borrowed : Bool) → HoldsState limit end s b → u.tables ≡ b.tables → u.nodes_limit ≡ b.nodes_limit → u.openings_left ≡ b.openings_left
    → Adds end (Ok x) u (with_item b.nodes_limit s stop (Text start stop text borrowed)) → (t : State) × (with_item limit s stop (Text start stop text borrowed) ≡ Ok t) × HoldsState limit end t u
text_rests limit end s b u x start stop text borrowed h tables same openings_left adds = grind (arith, pairs-item, append-nil, attributes-item)

-- it is refused
pub text_refused : (limit end : ℕ) (s : State) (b u : Builder) (e : Failure) (start stop : ℕ) (text : List ℕ) (borrowed : Bool) → HoldsState limit end s b
    → Adds end (Err e) u (with_item b.nodes_limit s stop (Text start stop text borrowed)) → Fails e (with_item limit s stop (Text start stop text borrowed))
text_refused limit end s b u e start stop text borrowed h adds = subst (λ (n : ℕ). Fails e (with_item n s stop (Text start stop text borrowed))) h.limit_is adds

-- ---- one part

with_text : (context : Context) (src : List ℕ) (start stop : ℕ) (s : State) (bs text : List ℕ) (next : Next) → data_part context.values.main context.values.entities (stop - s.at) src stop s.at ≡ Ok (bs, next)
    → text ≡ part_text context.values.main bs → (text ≡ [] → ⊥) → next_part context src start stop s ≡ (with_item context.limit s stop (Text start stop text false) >>= λ t. Ok (t, next))
with_text context src start stop s bs text next h is some = grind arith

pub part_piece_is : (context : Context) (src : List ℕ) (start stop : ℕ) (s t : State) (bs text : List ℕ) (next : Next) → data_part context.values.main context.values.entities (stop - s.at) src stop s.at ≡ Ok (bs, next)
    → text ≡ part_text context.values.main bs → (text ≡ [] → ⊥) → with_item context.limit s stop (Text start stop text false) ≡ Ok t → next_part context src start stop s ≡ Ok (t, next)
part_piece_is context src start stop s t bs text next h is some read = with_text context src start stop s bs text next h is some ∙ ap (λ (r : Result State Fault). r >>= λ t. Ok (t, next)) read

pub part_piece_fails : (context : Context) (src : List ℕ) (start stop : ℕ) (s : State) (bs text : List ℕ) (next : Next) (e : Failure) → data_part context.values.main context.values.entities (stop - s.at) src stop s.at ≡ Ok (bs, next)
    → text ≡ part_text context.values.main bs → (text ≡ [] → ⊥) → Fails e (with_item context.limit s stop (Text start stop text false)) → Fails e (next_part context src start stop s)
part_piece_fails context src start stop s bs text next e h is some read = grind arith

-- ---- and the others

abbrev paired : {Y Z : Type 0} → Y → Result Z Fault → Result (Z × Y) Fault
paired y r = r >>= λ t. Ok (t, y)

beside : {Y Z : Type 0} (r : Result Z Fault) (y : Y) (h : Z → Y → Result Z Refusal) → (lifted r >>= λ t. h t y) ≡ (lifted (paired y r) >>= λ p. h p.0 p.1)
beside r y h = grind arith

-- the parts of a run are one and those behind it
grouped : {X Y Z : Type 0} (r : Result (X × Y) Fault) (g : X → Result Z Fault) (h : Z → Y → Result Z Refusal)
    → (lifted r >>= λ x. lifted (g x.0) >>= λ t. h t x.1) ≡ (lifted (r >>= λ x. paired x.1 (g x.0)) >>= λ p. h p.0 p.1)
grouped r g h = grind arith

parts_step : (context : Context) (n m : ℕ) (src : List ℕ) (start stop : ℕ) (s : State) → n ≡ suc m
    → data_parts context n src start stop s ≡ (lifted (next_part context src start stop s) >>= λ p. after_part context (λ u. data_parts context m src start stop u) stop p.0 p.1)
unfolding data_parts
parts_step context n m src start stop s one =
    rw one (grouped (data_part context.values.main context.values.entities (stop - s.at) src stop s.at) (λ bs. with_piece context.limit s start stop (part_text context.values.main bs))
    (λ t next. after_part context (λ u. data_parts context m src start stop u) stop t next))

pub record Parting (context : Context) (end : ℕ) (src : List ℕ) (start stop : ℕ) (whole : Result State Refusal) (n : ℕ) (c : Cursor) (b : Builder) : Type 0 where
  pub s : State
  pub sees : IsInState context.limit end s c b
  pub same : data_parts context n src start stop s ≡ whole

-- at the run's end
pub parting_ends : (context : Context) (end : ℕ) (src : List ℕ) (start stop : ℕ) (whole : Result State Refusal) (n m : ℕ) (c d : Cursor) (b u : Builder) (t : State) (g : Parting context end src start stop whole n c b) → n ≡ suc m
    → next_part context src start stop g.s ≡ Ok (t, at_end) → HoldsState context.limit end t u → d.pos ≡ stop → (r : State) × (whole ≡ Ok r) × IsInState context.limit end r d u
parting_ends context end src start stop whole n m c d b u t g one is rests place = (
  at_place stop t,
  sym g.same ∙ parts_step context n m src start stop g.s one ∙ rw is refl,
  sees_at context.limit end (at_place stop t) d u place
      (record { limit_is = rests.limit_is; shows = rests.shows; namespaces = rests.namespaces; attributes = rests.attributes; openings_left_is = rests.openings_left_is }),
)

-- a replacement text
pub parting_on : (context : Context) (end : ℕ) (src : List ℕ) (start stop : ℕ) (whole : Result State Refusal) (n m : ℕ) (c d : Cursor) (b u : Builder) (t v : State) (text : Replacement) (j : ℕ)
    → (g : Parting context end src start stop whole n c b) → n ≡ suc m
    → next_part context src start stop g.s ≡ Ok (t, opening text j) → context.opener text j t ≡ Ok v → d.pos ≡ v.at → HoldsState context.limit end v u → Parting context end src start stop whole m d u
parting_on context end src start stop whole n m c d b u t v text j g one is opens place rests =
    record { s = v; sees = sees_at context.limit end v d u place rests; same = sym (parts_step context n m src start stop g.s one ∙ rw (is, opens) refl) ∙ g.same }

pub parting_fails : (context : Context) (end : ℕ) (src : List ℕ) (start stop : ℕ) (whole : Result State Refusal) (n m : ℕ) (c : Cursor) (b : Builder) (e : Failure) (g : Parting context end src start stop whole n c b) → n ≡ suc m
    → Fails e (next_part context src start stop g.s) → IsRefusal (of_failure e) whole
parting_fails context end src start stop whole n m c b failure.Memory g one h = tt
parting_fails context end src start stop whole n m c b (failure.Fault f) g one h = sym g.same ∙ parts_step context n m src start stop g.s one ∙ rw h refl

pub parting_stops : (context : Context) (end : ℕ) (src : List ℕ) (start stop : ℕ) (whole : Result State Refusal) (n m : ℕ) (c : Cursor) (b : Builder) (t : State) (text : Replacement) (j : ℕ) (e : ParseError)
    → (g : Parting context end src start stop whole n c b) → n ≡ suc m → next_part context src start stop g.s ≡ Ok (t, opening text j) → IsRefusal e (context.opener text j t) → IsRefusal e whole
parting_stops context end src start stop whole n m c b t text j e g one is h =
    refuses_by e (context.opener text j t) whole (λ r err. sym g.same ∙ parts_step context n m src start stop g.s one ∙ rw (is, err) refl) h

-- the turns are used up
pub parting_out : (context : Context) (end : ℕ) (src : List ℕ) (start stop : ℕ) (whole : Result State Refusal) (n : ℕ) (c d : Cursor) (b : Builder) (g : Parting context end src start stop whole n c b) → n ≡ 0
    → d.pos ≡ stop → (r : State) × (whole ≡ Ok r) × IsInState context.limit end r d b
unfolding data_parts
parting_out context end src start stop whole n c d b g none place =
    (at_place stop g.s, sym g.same ∙ rw none refl, record { here = place; limit_is = g.sees.limit_is; shows = g.sees.shows; namespaces = g.sees.namespaces; attributes = g.sees.attributes; openings_left_is = g.sees.openings_left_is })
