-- Why a text is refused: the fault, and the source in which its offsets count.
use Rattle.std.specs.Prelude.{ℕ, List, Result, Ok, Err}
use Rattle.rox_grammar.specs.declared.fault.Fault.{Fault}
use Rattle.rox_grammar.specs.Doctype.{Request}

pub data Refusal : Type 0 where
  -- The fault is in the source that is being read.
  here : Fault → Refusal
  -- The fault is in another source, `source`.
  there : (source : List ℕ) → Fault → Refusal
  -- The resolver refused this request, which is made at this offset of the main text, with this message.
  refused : Request → ℕ → (message : List ℕ) → Refusal

-- The result of a step that opens no entity. Its fault is in the source that is being read.
abbrev pub lifted : {A : Type 0} → Result A Fault → Result A Refusal
lifted (Ok x) = Ok x
lifted (Err f) = Err (here f)

-- The result of reading `source`, as a result of the text around it.
abbrev pub elsewhere : {A : Type 0} → List ℕ → Result A Refusal → Result A Refusal
elsewhere source (Ok x) = Ok x
elsewhere source (Err (here f)) = Err (there source f)
elsewhere source (Err (there s f)) = Err (there s f)
elsewhere source (Err (refused request at message)) = Err (refused request at message)
