-- Whether a text has a document type declaration.
use Rattle.std.specs.Prelude.{ℕ, Bool, false, List, Result, Ok, Err, length}
use Rattle.rox_grammar.specs.declared.fault.Fault.{Fault}
use Rattle.rox_grammar.specs.declared.fault.Word.TheVariants as word
use Rattle.rox_grammar.specs.FixedTexts.{at}
use Rattle.rox_grammar.specs.TextStart.{after_bom}
use Rattle.rox_reading.specs.Lexical.{◌>>=◌}
use Rattle.rox_reading.specs.State.{State, start_state}
use Rattle.rox_reading.specs.WholeText.{misc, prolog}

-- Whether a document type declaration starts at the offset of the state.
abbrev pub begins_doctype : List ℕ → Result State Fault → Bool
begins_doctype src (Ok s) = at word.DoctypeStart src s.at
begins_doctype src (Err f) = false

-- Whether the text has a document type declaration.
unfoldable pub has_doctype : ℕ → List ℕ → Bool
has_doctype limit src =
    begins_doctype src (prolog src (after_bom src) >>= λ i. misc limit (length src) src (start_state i))
