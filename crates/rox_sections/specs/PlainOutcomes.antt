-- What the fast path requires, and how it changes the cursor and the builder. It reads a construct only if that is plain.
use Rattle.std.specs.Prelude.{◌≡◌, ◌≢◌, ℕ, ◌+◌, ◌<◌, ◌≤◌, ◌^◌, true, false, Bool, List, IfOk, OnOk, Result, Ok, length, slice_index, vec_len, IsCharBoundary}
use Rattle.std.specs.declared.alloc.AllocError.{AllocError}
use Rattle.rox_grammar.specs.Chars.{is_part_char}
use Rattle.rox_grammar.specs.Runs.{run_end}
use Rattle.rox_grammar.specs.State.{is_root}
use Rattle.rox_reading.specs.Machine as machine
use Rattle.rox_reading.specs.Refusals.{Refusal}
use Rattle.rox_reading.specs.State.{State}
use Rattle.rox_bytes.specs.ByteSets.{is_part_byte}
use Rattle.rox_bytes.specs.ScanResults.{Finds}
use Rattle.rox_scan.specs.declared.cursor.Cursor.{Cursor}
use Rattle.rox_builder.specs.BuilderState.{GoesOn, IsConsistent, IsInState, IsReadyTo, KeepsOpen, KeepsState, ScansTo}
use Rattle.rox_builder.specs.PendingText.{waiting}
use Rattle.rox_sections.specs.PlainSteps.{Reads}
use Rattle.rox_bytes.specs.RunEnds.{EndsRun}
use Rattle.rox_bytes.specs.declared.byte_set.RunEnd.{RunEnd}
use Rattle.rox_builder.specs.Readiness.{HasRoom}
use Rattle.rox_builder.specs.declared.builder.Builder.{Builder}
use Rattle.rox_builder.specs.declared.pending.Pending.TheVariants as pending

-- `<` is at the cursor, and there is room for one more row.
pub record MayReadPlain (c : Cursor) (b : Builder) : Type 0 where
  pub here : slice_index c.text.now c.pos ≡ 60
  pub room : HasRoom c.text.now b

-- `</` is at the cursor, no text waits for its row, and what the builder holds is consistent.
pub record MayReadEnd (c : Cursor) (b : Builder) : Type 0 where
  pub here : slice_index c.text.now c.pos ≡ 60
  pub next : slice_index c.text.now (c.pos + 1) ≡ 47
  pub short : length c.text.now < 2 ^ 32
  pub settled : waiting b.pending ≡ 0
  pub fine : IsConsistent b.tables b.opened.items

-- A start tag may be at `i`, `e` ends the first ASCII bytes of its name, and there is room for its row.
pub record MayReadFirst (src : List ℕ) (i : ℕ) (e : RunEnd) (b : Builder) : Type 0 where
  pub here : slice_index src i ≡ 60
  pub start : IsCharBoundary src i
  pub run : EndsRun is_part_byte src (i + 1) e
  pub letter : 63 < slice_index src (i + 1)
  pub room : HasRoom src b

-- A start tag may be at `i`, the first part of its name ends at `j`, and there is room for its row.
pub record MayReadPart (src : List ℕ) (i j : ℕ) (b : Builder) : Type 0 where
  pub here : slice_index src i ≡ 60
  pub start : IsCharBoundary src i
  pub part : Finds src (i + 1) j (run_end is_part_char src (i + 1))
  pub room : HasRoom src b

abbrev pub any_context : machine.Context → Type 0
any_context context = Unit {0}

-- No text is open that character data at the cursor would continue.
abbrev pub StandsApart : Cursor → Builder → Type 0
StandsApart c b = slice_index c.text.now c.pos ≢ 60 → b.pending ≡ pending.None

-- Character data may be at the cursor, there is room for its row, and no text is open that it would continue.
pub record MayReadRun (c : Cursor) (b : Builder) : Type 0 where
  pub here : slice_index c.text.now c.pos ≢ 60
  pub room : HasRoom c.text.now b
  pub apart : b.pending ≡ pending.None

-- Character data may be at `i`, there is room for its row, and no text is open that it would continue.
pub record MayReadRunAt (src : List ℕ) (i : ℕ) (b : Builder) : Type 0 where
  pub cut : IsCharBoundary src i
  pub room : HasRoom src b
  pub apart : b.pending ≡ pending.None

-- The construct at the cursor was read as `read` does, in a context that meets `such`, or nothing was read. It is read in the
-- room that there is for rows, which leaves the builder as `leaves` says.
pub record ReadsIf (leaves : ℕ → Builder → Type 0) (such : machine.Context → Type 0) (read : machine.Context → List ℕ → State → Result State Refusal) (old new : Cursor) (b after : Builder) (result : Bool) : Type 0 where
  pub value : result ≡ true → (context : machine.Context) (end : ℕ) (s : State) → such context → IsInState context.limit end s old b
      → ScansTo context.limit end (Ok tt) new after (read context old.text.now s)
  pub other : result ≡ false → (new ≡ old) × (after ≡ b)
  pub ready : result ≡ true → (most : ℕ) → IsReadyTo most b → leaves most after
  pub moves : result ≡ true → old.pos < new.pos
  pub goes : GoesOn old new after

-- Character data before `<` was read, in a context that meets `such`. Or nothing was, and the builder holds equal rows.
pub record ReadsRun (such : machine.Context → Type 0) (old new : Cursor) (b after : Builder) (result : Bool) : Type 0 where
  pub value : result ≡ true → (context : machine.Context) (end : ℕ) (s : State) → such context → IsInState context.limit end s old b
      → ScansTo context.limit end (Ok tt) new after (machine.character_data_step context old.text.now s)
  pub other : result ≡ false → (new ≡ old) × KeepsState b after
  pub ready : result ≡ true → (most : ℕ) → IsReadyTo most b → IsReadyTo most after
  pub moves : result ≡ true → old.pos < new.pos
  pub goes : GoesOn old new after
  pub opened : after.opened ≡ b.opened
  pub rows : result ≡ true → vec_len after.nodes.rows ≡ vec_len b.nodes.rows + 1
  pub behind : result ≡ true → slice_index old.text.now new.pos ≡ 60

-- Character data from `i` up to the `<` at `j` was read, in a context that meets `such`. Or nothing was, and the builder holds
-- equal rows.
pub record ReadsRunAt (such : machine.Context → Type 0) (src : List ℕ) (i j : ℕ) (b after : Builder) : Type 0 where
  pub value : j < 2 ^ 32 → (context : machine.Context) (end : ℕ) (s : State) (here behind : Cursor) → such context → here.pos ≡ i → behind.pos ≡ j → IsInState context.limit end s here b
      → ScansTo context.limit end (Ok tt) behind after (machine.character_data_step context src s)
  pub other : 2 ^ 32 ≤ j → KeepsState b after
  pub cut : j < 2 ^ 32 → IsCharBoundary src j
  pub ready : j < 2 ^ 32 → (most : ℕ) → IsReadyTo most b → IsReadyTo most after
  pub moves : j < 2 ^ 32 → i < j
  pub tables : after.tables ≡ b.tables
  pub opened : after.opened ≡ b.opened
  pub rows : j < 2 ^ 32 → vec_len after.nodes.rows ≡ vec_len b.nodes.rows + 1
  pub behind : j < 2 ^ 32 → slice_index src j ≡ 60

-- The construct at the cursor was read, in a context that meets `such`. Or nothing was, and the builder holds equal rows.
pub record ReadsStep (such : machine.Context → Type 0) (old new : Cursor) (b after : Builder) (result : Bool) : Type 0 where
  pub value : result ≡ true → (context : machine.Context) (end : ℕ) (s : State) → such context → IsInState context.limit end s old b
      → ScansTo context.limit end (Ok tt) new after (machine.step context old.text.now s)
  pub other : result ≡ false → (new ≡ old) × KeepsState b after
  pub goes : GoesOn old new after

-- Some constructs were read, in a context that meets `such`, or none.
pub record ReadsRows (such : machine.Context → Type 0) (old new : Cursor) (b after : Builder) (result : Bool) : Type 0 where
  pub value : (context : machine.Context) (end : ℕ) (s : State) → such context → IsInState context.limit end s old b
      → (n : ℕ) × Reads context end n new after old.text.now s
  pub moves : result ≡ true → old.pos < new.pos
  pub goes : GoesOn old new after

-- Some constructs were read, in any context of a text. Or nothing was, and the builder holds equal rows.
pub record ReadsSteps (old new : Cursor) (b after : Builder) (result : Result Bool AllocError) : Type 0 where
  pub value : IfOk result (λ yes. yes ≡ true → (context : machine.Context) (end : ℕ) (s : State) → is_root s.stack ≡ false → IsInState context.limit end s old b
      → (n : ℕ) × Reads context end n new after old.text.now s)
  pub moves : IfOk result (λ yes. yes ≡ true → old.pos < new.pos)
  pub other : IfOk result (λ yes. yes ≡ false → (new ≡ old) × KeepsState b after)
  pub goes : OnOk result (GoesOn old new after)

-- Character data was read, or nothing was.
pub record JoinsRun (old new : Cursor) (b after : Builder) (result : Result (Unit {0}) AllocError) : Type 0 where
  pub value : OnOk result ((context : machine.Context) (end : ℕ) (s : State) → is_root s.stack ≡ false → IsInState context.limit end s old b
      → (n : ℕ) × Reads context end n new after old.text.now s)
  pub onward : OnOk result (old.pos ≤ new.pos)
  pub source : OnOk result (new.text ≡ old.text)
  pub kept : KeepsOpen b after

-- The markup at `i` was read, up to `j`, or nothing was. If it was read, `j` fits a row and is after `i`, the rows were put into
-- the room that there was, and no text is open that character data at `j` would continue.
pub record ReadsSection (src : List ℕ) (i j : ℕ) (b after : Builder) : Type 0 where
  pub value : j < 2 ^ 32 → (context : machine.Context) (end : ℕ) (s : State) (here behind : Cursor) → here.pos ≡ i → behind.pos ≡ j → IsInState context.limit end s here b
      → ScansTo context.limit end (Ok tt) behind after (machine.step context src s)
  pub other : 2 ^ 32 ≤ j → after ≡ b
  pub cut : j < 2 ^ 32 → IsCharBoundary src j
  pub ready : j < 2 ^ 32 → (most : ℕ) → IsReadyTo most b → IsReadyTo most after
  pub apart : j < 2 ^ 32 → slice_index src j ≢ 60 → after.pending ≡ pending.None
  pub moves : j < 2 ^ 32 → i < j
  pub fine : IsConsistent after.tables after.opened.items
