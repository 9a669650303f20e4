-- A part of character data, and its piece.
use Rattle.std.specs.Prelude.{◌≡◌, ℕ, ◌-◌, List, ◌++◌, length, Option, Result, Ok, Err, string_bytes}
use Rattle.rox_grammar.specs.declared.fault.Fault.{Fault}
use Rattle.rox_reading.specs.Lexical.{◌>>=◌}
use Rattle.rox_reading.specs.State.{State}
use Rattle.rox_reading.specs.Values.{Next, data_part, part_text}
use Rattle.rox_reading.specs.Machine.{Context, with_piece}
use Rattle.rox_grammar.specs.Failures.{Fails}
use Rattle.rox_scan.specs.declared.cursor.Cursor.{Cursor}
use Rattle.rox_grammar.specs.declared.failure.Failure.{Failure}
use Rattle.rox_values.specs.Values.{next_view}
use Rattle.rox_builder.specs.BuilderState.{HoldsState}
use Rattle.rox_builder.specs.PendingText.{written, text_before}
use Rattle.rox_builder.specs.declared.builder.Builder.{Builder}

-- A part of the character data from `start` up to `stop`, from the state's offset on. It gives the state with its piece, if it
-- has one, and what ends the part.
abbrev pub next_part : Context → List ℕ → (start stop : ℕ) → State → Result (State × Next) Fault
next_part context src start stop s =
    data_part context.values.main context.values.entities (stop - s.at) src stop s.at >>= λ x.
    with_piece context.limit s start stop (part_text context.values.main x.0) >>= λ t. Ok (t, x.1)

-- A part of character data was read as `read` says.
abbrev pub GivesDataPart : ℕ → ℕ → Result (Option Cursor) Failure → Cursor → Builder → Result (State × Next) Fault → Type 0
GivesDataPart limit end (Ok next) c b read = (t : State) × (read ≡ Ok (t, next_view next c.pos)) × HoldsState limit end t b
GivesDataPart limit end (Err e) c b read = Fails e read

-- No text that has its row may continue. The bytes `bs` were appended to what the buffer has of the text, `before` bytes.
pub record HasPart (before : ℕ) (bs : List ℕ) (old new : Builder) : Type 0 where
  pub unwritten : written old.pending ≡ 0
  pub bytes : string_bytes new.joined.text ≡ text_before old.pending (string_bytes old.joined.text) ++ bs
  pub count : before ≡ length (text_before old.pending (string_bytes old.joined.text))
  pub start : new.joined.start ≡ old.joined.start
  pub end : new.joined.end ≡ old.joined.end
  pub slice : new.joined.slice ≡ old.joined.slice
  pub pending : new.pending ≡ old.pending
  pub nodes : new.nodes ≡ old.nodes
  pub opened : new.opened ≡ old.opened
  pub tables : new.tables ≡ old.tables
  pub limit : new.nodes_limit ≡ old.nodes_limit
  pub openings_left : new.openings_left ≡ old.openings_left
