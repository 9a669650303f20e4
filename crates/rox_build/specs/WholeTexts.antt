-- The parts of a whole text, and what is read of them.
use Rattle.std.specs.Prelude.{◌≡◌, ℕ, Bool, List, [], Result, Ok, Err, length}
use Rattle.rox_grammar.specs.Forest.{Forest, Nil}
use Rattle.rox_grammar.specs.Written.{Item}
use Rattle.rox_grammar.specs.Entities.{Entity}
use Rattle.rox_grammar.specs.Doctype.{Asked}
use Rattle.rox_grammar.specs.State.{root}
use Rattle.rox_reading.specs.Lexical.{◌>>=◌}
use Rattle.rox_reading.specs.Refusals.{Refusal, lifted}
use Rattle.rox_reading.specs.State.{State}
use Rattle.rox_reading.specs.Answering.{Yields}
use Rattle.rox_reading.specs.WholeText.{body, finished, reading}
use Rattle.rox_reading.specs.HasDoctype.{has_doctype}
use Rattle.rox_values.specs.Refusals.{IsRefusal}
use Rattle.rox_builder.specs.BuilderState.{Represents, IsConsistent, names_in}
use Rattle.rox_rows.specs.Rows.{attribute_rows}
use Rattle.rox_builder.specs.declared.builder.Builder.{Builder}
use Rattle.rox_values.specs.declared.parse_error.ParseError.{ParseError}

-- The builder represents the root node alone, of a text of `end` bytes.
pub record IsBegun (end : ℕ) (b : Builder) : Type 0 where
  pub shows : Represents end root Nil b
  pub namespaces : names_in b.tables ≡ []
  pub attributes : length (attribute_rows b.tables.attributes) ≡ 0
  pub openings_left : b.openings_left ≡ 255
  pub consistent : IsConsistent b.tables b.opened.items

-- The root element and what follows it.
abbrev pub root_read : ℕ → List Entity → List ℕ → State → Result (Forest Item) Refusal
root_read limit es src s = body limit es src s >>= λ x. lifted (finished src x)

-- The builder represents the top items, unless memory ran out.
abbrev pub Finishes : (end : ℕ) → Result (Unit {0}) ParseError → Builder → Result (Forest Item) Refusal → Type 0
Finishes end (Ok x) b read = (tops : Forest Item) × (read ≡ Ok tops) × Represents end root tops b
Finishes end (Err e) b read = IsRefusal e read

-- A whole text was read, with these requests, into the top items `tops`.
pub record IsWholeRead (limit end : ℕ) (allow : Bool) (src : List ℕ) (b : Builder) (asked : List Asked) (dtd : Bool) : Type 0 where
  pub tops : Forest Item
  pub read : Yields (λ replies. reading limit allow replies src) asked tops
  pub told : dtd ≡ has_doctype limit src
  pub shows : Represents end root tops b
