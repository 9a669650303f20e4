-- Reading of a document.
use Prim.Native.Char.{code}
use Rattle.std.specs.Prelude.{ℕ, zero, suc, ◌==◌, Bool, true, false, List, [], Result, Ok, Err, length, slice_index, nat_lt, if◌then◌else◌}
use Rattle.rox_grammar.specs.declared.fault.Fault.{Fault}
use Rattle.rox_grammar.specs.declared.fault.Fault.TheVariants as fault
use Rattle.rox_grammar.specs.declared.fault.Word.TheVariants as word
use Rattle.rox_grammar.specs.Forest.{Forest}
use Rattle.rox_grammar.specs.Written.{Item}
use Rattle.rox_grammar.specs.Names.{spaces_end}
use Rattle.rox_grammar.specs.FixedTexts.{at}
use Rattle.rox_grammar.specs.TextStart.{after_bom}
use Rattle.rox_grammar.specs.Entities.{Entity}
use Rattle.rox_reading.specs.Lexical.{◌>>=◌}
use Rattle.rox_reading.specs.Markup.{xml_decl_at}
use Rattle.rox_reading.specs.Refusals.{Refusal, here, lifted}
use Rattle.rox_reading.specs.State.{State, start_state}
use Rattle.rox_reading.specs.Machine.{comment_step, instruction_step, at_place, main_text, tag_step, drive}
use Rattle.rox_reading.specs.Doctype.{Reply, Asks, asks_nothing, ◌>>>◌, Dtd, with_state, doctype_step}

-- Reads comments, processing instructions and white space, at most `n`.
unfoldable pub misc : ℕ → ℕ → List ℕ → State → Result State Fault
misc limit zero src s = Ok s
misc limit (suc n) src s =
    let t = at_place (spaces_end src s.at) s in
    if at word.CommentStart src t.at then (comment_step limit src t >>= λ u. misc limit n src u)
    else if at word.PIStart src t.at then (instruction_step limit src t >>= λ u. misc limit n src u)
    else Ok t

-- Reads the root element, if `<` is at the offset of the state, and what follows it.
unfoldable pub body : ℕ → List Entity → List ℕ → State → Result (State × Bool) Refusal
body limit es src s =
    if slice_index src s.at == code "<" then
    (tag_step (main_text limit es) src s >>= λ t. drive (main_text limit es) (length src) src t >>= λ u. lifted (misc limit (length src) src u) >>= λ v. Ok (v, true))
    else Ok (s, false)

-- The top items, if the whole text is read and there is an element.
unfoldable pub finished : List ℕ → State × Bool → Result (Forest Item) Fault
finished src (s, some) =
    if nat_lt s.at (length src) then Err (fault.UnknownToken s.at)
    else if some then Ok s.done else Err fault.NoRootNode

-- Reads the XML declaration, if it is at `i`.
unfoldable pub prolog : List ℕ → ℕ → Result ℕ Fault
prolog src i = if at word.XmlDeclStart src i then (xml_decl_at src i >>= λ x. Ok x.1) else Ok i

-- Reads the document type declaration, if it is at the offset of the state, and what follows it.
unfoldable pub doctype : ℕ → (allow : Bool) → List ℕ → Dtd → Asks Dtd
doctype limit allow src d =
    if at word.DoctypeStart src d.state.at then
    (if allow then (doctype_step limit src d >>> λ e. asks_nothing (lifted (misc limit (length src) src e.state)) >>> λ s. asks_nothing (Ok (with_state e s)))
    else ([], Err (here fault.DtdDetected)))
    else ([], Ok d)

-- Reads a whole text: the requests that it makes, and its top items, or why it is refused.
unfoldable pub reading : ℕ → (allow : Bool) → List Reply → List ℕ → Asks (Forest Item)
reading limit allow replies src =
    asks_nothing (lifted (prolog src (after_bom src))) >>> λ i.
    asks_nothing (lifted (misc limit (length src) src (start_state i))) >>> λ s.
    doctype limit allow src (record { state = s; entities = []; replies = replies }) >>> λ d.
    asks_nothing (body limit d.entities src d.state) >>> λ x. asks_nothing (lifted (finished src x))
