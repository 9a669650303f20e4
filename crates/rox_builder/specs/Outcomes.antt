-- How a call changes the cursor and the builder that it borrows.
use Rattle.std.specs.Prelude.{◌≡◌, ℕ, ◌+◌, ◌++◌, ◌∷◌, [], ◌<◌, ◌≤◌, ◌^◌, false, List, OnOk, Result, Ok, length, vec_len, IsCharBoundary}
use Rattle.rox_grammar.specs.Entities.{Entity}
use Rattle.rox_grammar.specs.Forest.{Forest}
use Rattle.rox_grammar.specs.State.{Open, inside, scope_of}
use Rattle.rox_grammar.specs.Written.{Item, Tag}
use Rattle.rox_grammar.specs.declared.failure.Failure.{Failure}
use Rattle.rox_grammar.specs.declared.fault.Span.{Span}
use Rattle.rox_reading.specs.Machine as machine
use Rattle.rox_reading.specs.Machine.{name_span, opened_by, with_item}
use Rattle.rox_reading.specs.Refusals.{Refusal}
use Rattle.rox_reading.specs.State.{State}
use Rattle.rox_scan.specs.declared.cursor.Cursor.{Cursor}
use Rattle.rox_values.specs.Contexts.{context_of}
use Rattle.rox_values.specs.DeclaredEntities.{AreDeclared}
use Rattle.rox_values.specs.declared.context.Context.{Context}
use Rattle.rox_values.specs.declared.parse_error.ParseError.{ParseError}
use Rattle.rox_builder.specs.BuilderState.{Adds, GoesOn, IsConsistent, IsInState, IsNode, IsOpening, IsReadyTo, KeepsOpen, KeepsState, KeepsTables, ParsesTo, Represents, RepresentsFlushed, ScansTo}
use Rattle.rox_names.specs.OpenElements.{IsOpened}
use Rattle.rox_builder.specs.PendingText.{waiting}
use Rattle.rox_builder.specs.Readiness.{IsApart}
use Rattle.rox_builder.specs.declared.builder.Builder.{Builder}
use Rattle.rox_names.specs.declared.open_element.OpenElement.{OpenElement}
use Rattle.rox_names.specs.declared.start_tag.StartTag.{StartTag}
use Rattle.rox_rows.specs.declared.row.NodeKind.{NodeKind}

-- A byte is at the cursor, and what the builder holds is consistent.
pub record MayStep (c : Cursor) (b : Builder) : Type 0 where
  pub there : c.pos < length c.text.now
  pub fine : IsConsistent b.tables b.opened.items

-- The call does what `read` does, from whatever state it finds, and continues in its source.
pub record ParsesAs (read : machine.Context → List ℕ → State → Result State Refusal) (context : Context) (old new : Cursor) (b after : Builder) (result : Result (Unit {0}) ParseError) : Type 0 where
  pub value : (limit end : ℕ) (es : List Entity) (s : State) → AreDeclared es context.entities.now → IsInState limit end s old b
      → ParsesTo limit end result new after (read (context_of limit es context) old.text.now s)
  pub goes : OnOk result (GoesOn old new after)

-- The call does what `read` does, which refers to no entity, from whatever state it finds.
pub record ScansAs (read : ℕ → List ℕ → State → Result State Refusal) (old new : Cursor) (b after : Builder) (result : Result (Unit {0}) Failure) : Type 0 where
  pub value : (limit end : ℕ) (s : State) → IsInState limit end s old b → ScansTo limit end result new after (read limit old.text.now s)
  pub goes : OnOk result (GoesOn old new after)

-- The call does what `read` does in each context of a text, from whatever state it finds.
pub record ScansIn (read : machine.Context → List ℕ → State → Result State Refusal) (old new : Cursor) (b after : Builder) (result : Result (Unit {0}) Failure) : Type 0 where
  pub value : (context : machine.Context) (end : ℕ) (s : State) → IsInState context.limit end s old b → ScansTo context.limit end result new after (read context old.text.now s)
  pub goes : OnOk result (GoesOn old new after)

-- The call does what `read` does in the context `context`, whatever entities are declared.
pub record ScansWithin (read : machine.Context → List ℕ → State → Result State Refusal) (context : Context) (old new : Cursor) (b after : Builder) (result : Result (Unit {0}) Failure) : Type 0 where
  pub value : (limit end : ℕ) (es : List Entity) (s : State) → IsInState limit end s old b → ScansTo limit end result new after (read (context_of limit es context) old.text.now s)
  pub goes : OnOk result (GoesOn old new after)

-- The construct at `i` was read as `read` does, up to `j`, in a context that meets `such`, or nothing was. If it was read, `j` fits
-- a row and is after `i`, and the rows were put into the room that there was.
pub record ReadsAt (such : machine.Context → Type 0) (read : machine.Context → List ℕ → State → Result State Refusal) (src : List ℕ) (i j : ℕ) (b after : Builder) : Type 0 where
  pub value : j < 2 ^ 32 → (context : machine.Context) (end : ℕ) (s : State) (here behind : Cursor) → such context → here.pos ≡ i → behind.pos ≡ j → IsInState context.limit end s here b
      → ScansTo context.limit end (Ok tt) behind after (read context src s)
  pub other : 2 ^ 32 ≤ j → KeepsState b after
  pub cut : j < 2 ^ 32 → IsCharBoundary src j
  pub ready : j < 2 ^ 32 → (most : ℕ) → IsReadyTo most b → IsApart most after
  pub moves : j < 2 ^ 32 → i < j
  pub fine : IsConsistent after.tables after.opened.items

-- The call adds the piece `item` of a text after what the builder represents. The open elements and their tables stay.
pub record AddsText (old new : Builder) (result : Result (Unit {0}) Failure) (item : Item) : Type 0 where
  pub value : (total at : ℕ) (s : State) → Represents total s.stack s.done old → Adds total result new (with_item old.nodes_limit s at item)
  pub kept : KeepsOpen old new

-- The call adds a node, which is not a text and has no descendants. The open elements and their tables stay.
pub record AddsNode (old new : Builder) (result : Result (Unit {0}) Failure) (start end : ℕ) (k : NodeKind) : Type 0 where
  pub value : (total at : ℕ) (s : State) (item : Item) → Represents total s.stack s.done old → IsNode old.tables (scope_of s.stack) start end k item → Adds total result new (with_item old.nodes_limit s at item)
  pub kept : KeepsOpen old new

-- The call opens the element of the tag `tag`, which starts at `start` in `text`.
pub record OpensElement (old new : Builder) (result : Result (Unit {0}) Failure) (text : List ℕ) (start : ℕ) (tag : StartTag) : Type 0 where
  pub value : (total at openings_left : ℕ) (s : State) (t : Tag) → Represents total s.stack s.done old → s.at ≡ start → IsOpening old.tables (scope_of s.stack) start tag t
      → Adds total result new (opened_by old.nodes_limit s t false openings_left at)
  pub kept : KeepsTables old new
  pub opened : OnOk result ((x : OpenElement) × (new.opened.items ≡ old.opened.items ++ x ∷ []) × IsOpened text tag x)

-- The span `span` is where the name of the innermost open element is written.
abbrev pub SpansOpen : Builder → OpenElement → Span → Type 0
SpansOpen b o span = (end start : ℕ) (tag : Tag) (before : Forest Item) (up : Open) (done : Forest Item) (outer : List OpenElement)
    → Represents end (inside start tag before up) done b → b.opened.items ≡ outer ++ o ∷ [] → span ≡ name_span tag.name (start + 1) tag.name_end

-- The call writes the text that waits for its row, and ends the one that may continue.
pub record Flushes {E : Type 0} (old new : Builder) (result : Result (Unit {0}) E) : Type 0 where
  pub ok : OnOk result ((end : ℕ) (stack : Open) (done : Forest Item) → Represents end stack done old → RepresentsFlushed end stack done new)
  pub empty : OnOk result (waiting new.pending ≡ 0)
  pub count : OnOk result (vec_len new.nodes.rows ≡ vec_len old.nodes.rows + waiting old.pending)
  pub kept : KeepsOpen old new
