-- What a look answers that reads nothing.
use Rattle.std.proofs.Common.{◌≡◌, ◌≤◌, ◌^◌, ℕ, List, Result, refl, ap, ◌∙◌, arith}
use Rattle.rox_reading.specs.Machine as machine
use Rattle.rox_reading.specs.Refusals.{Refusal}
use Rattle.rox_reading.specs.State.{State}
use Rattle.rox_names.specs.declared.tables.ElementTables.{ElementTables}
use Rattle.rox_builder.specs.BuilderState.{HoldsState, IsConsistent, IsReadyTo, KeepsState}
use Rattle.rox_builder.specs.Outcomes.{ReadsAt}
use Rattle.rox_builder.proofs.Stepping.{same_shows, state_kept}
use Rattle.rox_sections.specs.PlainOutcomes.{ReadsRunAt}
use Rattle.rox_builder.specs.declared.builder.Builder.{Builder}

pub keeps_all : (b : Builder) → KeepsState b b
keeps_all b = record { nodes = refl; opened = refl; pending = refl; joined = refl; limit = refl; openings_left = refl; others = refl; attributes = refl }

-- what equal rows hold
pub kept_rests : (limit end : ℕ) (s : State) (b u : Builder) → KeepsState b u → u.tables ≡ b.tables → HoldsState limit end s b → HoldsState limit end s u
kept_rests limit end s b u k tables h = record {
  limit_is = k.limit ∙ h.limit_is;
  shows = same_shows end s.stack s.done b u h.shows k.nodes tables k.opened k.pending k.joined;
  namespaces = rw tables h.namespaces;
  attributes = rw tables h.attributes;
  openings_left_is = k.openings_left ∙ h.openings_left_is;
}

pub fine_same : (b u : Builder) → IsConsistent b.tables b.opened.items → u.tables ≡ b.tables → u.opened ≡ b.opened → IsConsistent u.tables u.opened.items
fine_same b u fine tables opens = rw (tables, opens) fine

pub keeps_same : (b u : Builder) → u ≡ b → KeepsState b u
keeps_same b u same = rw same (keeps_all b)

pub reads_not : {such : machine.Context → Type 0} (read : machine.Context → List ℕ → State → Result State Refusal) (src : List ℕ) (i j : ℕ) (b u : Builder) → 2 ^ 32 ≤ j → KeepsState b u → IsConsistent u.tables u.opened.items → ReadsAt such read src i j b u
reads_not read src i j b u not_read kept fine = record {
  value = λ less. absurd (omega (arith, less, not_read));
  other = λ _. kept;
  cut = λ less. absurd (omega (arith, less, not_read));
  ready = λ less. absurd (omega (arith, less, not_read));
  moves = λ less. absurd (omega (arith, less, not_read));
  fine = fine;
}

keeps_on : (a b c : Builder) → KeepsState a b → KeepsState b c → KeepsState a c
keeps_on a b c k l = record {
  nodes = l.nodes ∙ k.nodes;
  opened = l.opened ∙ k.opened;
  pending = l.pending ∙ k.pending;
  joined = l.joined ∙ k.joined;
  limit = l.limit ∙ k.limit;
  openings_left = l.openings_left ∙ k.openings_left;
  others = l.others ∙ ap (λ (t : ElementTables). record t { attributes = c.tables.attributes }) k.others;
  attributes = l.attributes ∙ k.attributes;
}

ready_kept : (most : ℕ) (b u : Builder) → KeepsState b u → IsReadyTo most b → IsReadyTo most u
ready_kept most b u k h = record { room = rw k.nodes h.room; few = rw k.limit h.few; small = h.small; settled = rw k.pending h.settled }

-- what is read where the builder holds equal rows
pub reads_kept : {such : machine.Context → Type 0} (read : machine.Context → List ℕ → State → Result State Refusal) (src : List ℕ) (i j : ℕ) (b u after : Builder) → KeepsState b u → ReadsAt such read src i j u after → ReadsAt such read src i j b after
reads_kept read src i j b u after k r = record {
  value = λ less context end s here behind main start stop h. r.value less context end s here behind main start stop (state_kept context.limit end s here here b u h refl k);
  other = λ no. keeps_on b u after k (r.other no);
  cut = r.cut;
  ready = λ less most h. r.ready less most (ready_kept most b u k h);
  moves = r.moves;
  fine = r.fine;
}

-- a run that is read where the builder holds equal rows
pub run_kept : (such : machine.Context → Type 0) (src : List ℕ) (i j : ℕ) (b v u : Builder) → KeepsState b v → v.tables ≡ b.tables → ReadsRunAt such src i j v u → ReadsRunAt such src i j b u
run_kept such src i j b v u kept same h = record {
  value = λ less context end s here behind may start stop state. h.value less context end s here behind may start stop (state_kept context.limit end s here here b v state refl kept);
  other = λ no. keeps_on b v u kept (h.other no);
  cut = h.cut;
  ready = λ less most r. h.ready less most (ready_kept most b v kept r);
  moves = h.moves;
  tables = h.tables ∙ same;
  opened = h.opened ∙ kept.opened;
  rows = λ less. rw kept.nodes at (h.rows less);
  behind = h.behind;
}
