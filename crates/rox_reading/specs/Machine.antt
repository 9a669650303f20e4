-- Reading of content, one construct a step. A replacement text is read as content by steps of its own, over its own source. They
-- add to the items and open elements of the text around it. At its end as many elements must be open as at its start.
use Prim.Native.Char.{code}
use Rattle.std.specs.Prelude.{ℕ, zero, suc, ◌+◌, ◌-◌, ◌==◌, not, Bool, true, false, List, [], ◌∷◌, Result, Ok, Err, length, slice_index, nat_lt, nat_le, bytes_eq, if◌then◌else◌}
use Rattle.rox_grammar.specs.declared.fault.Fault.{Fault}
use Rattle.rox_grammar.specs.declared.fault.Span.{Span}
use Rattle.rox_grammar.specs.declared.fault.Fault.TheVariants as fault
use Rattle.rox_grammar.specs.declared.fault.Word.TheVariants as word
use Rattle.rox_grammar.specs.Forest.{Forest, Nil, Cons, join}
use Rattle.rox_grammar.specs.Written.{Name, Tag, Item, Element, Text, Comment, PI, merge, leaf}
use Rattle.rox_grammar.specs.NameParts.{same_qname, local_span}
use Rattle.rox_grammar.specs.FixedTexts.{at}
use Rattle.rox_grammar.specs.Content.{is_verbatim, section}
use Rattle.rox_grammar.specs.Counts.{distinct_pairs}
use Rattle.rox_grammar.specs.Entities.{Replacement, Entity, most_within, most_deep}
use Rattle.rox_grammar.specs.Faults.{cut_off}
use Rattle.rox_reading.specs.Lexical.{◌>>=◌}
use Rattle.rox_reading.specs.Refusals.{Refusal, here, lifted, elsewhere}
use Rattle.rox_reading.specs.Markup.{comment_at, instruction_at, cdata_at, end_tag_at}
use Rattle.rox_reading.specs.Values.{Next, at_end, opening, data_part, part_text, raw_character_data_at, ValueInclusion, value_text}
use Rattle.rox_reading.specs.Tags.{Values, tag_at}
use Rattle.rox_grammar.specs.State.{Open, root, inside, is_root, scope_of, nodes_so_far, attributes_so_far, pairs_so_far}
use Rattle.rox_reading.specs.State.{State, depth_of}

-- How a text is read: the limit of nodes, how values are read, how many elements are open around the text, and how a replacement
-- text is read, given the offset after its reference.
pub record Context : Type 0 where
  pub limit : ℕ
  pub values : Values
  pub open_around : ℕ
  pub opener : Replacement → ℕ → State → Result State Refusal

-- The state, if its nodes are within the limit; otherwise the fault.
abbrev pub counted : ℕ → State → Result State Fault
counted limit s = if nat_le (nodes_so_far s.stack s.done) limit then Ok s else Err fault.NodesLimitReached

-- Adds an item without children, which ends at `j`.
abbrev pub with_item : ℕ → State → ℕ → Item → Result State Fault
with_item limit s j item = counted limit (record { at = j; done = join s.done (leaf item); stack = s.stack; openings_left = s.openings_left })

unfoldable pub comment_step : ℕ → List ℕ → State → Result State Fault
comment_step limit src s = comment_at src s.at >>= λ x. with_item limit s x.1 (Comment s.at x.1 x.0)

unfoldable pub instruction_step : ℕ → List ℕ → State → Result State Fault
instruction_step limit src s = instruction_at src s.at >>= λ x. with_item limit s x.1 (PI s.at x.1 x.0.target x.0.value)

unfoldable pub cdata_step : ℕ → List ℕ → State → Result State Fault
cdata_step limit src s =
    cdata_at src s.at >>= λ x. with_item limit s x.1 (section s.at x.1 x.0)

-- Adds the piece of a part of the run from `i` up to `j`, if it has a character.
abbrev pub with_piece : ℕ → State → ℕ → ℕ → List ℕ → Result State Fault
with_piece limit s i j [] = Ok s
with_piece limit s i j (b ∷ bs) = with_item limit s j (Text i j (b ∷ bs) false)

abbrev pub at_place : ℕ → State → State
at_place j s = record { at = j; done = s.done; stack = s.stack; openings_left = s.openings_left }

-- Continues after a part. `more` reads the parts from the state after a reference.
abbrev pub after_part : Context → (State → Result State Refusal) → ℕ → State → Next → Result State Refusal
after_part context more stop s at_end = Ok (at_place stop s)
after_part context more stop s (opening t j) = context.opener t j s >>= more

-- Reads at most `n` parts of the run from `start` up to `stop`, from the offset of the state on.
unfoldable pub data_parts : Context → ℕ → List ℕ → (start stop : ℕ) → State → Result State Refusal
data_parts context zero src start stop s = Ok (at_place stop s)
data_parts context (suc n) src start stop s =
    lifted (data_part context.values.main context.values.entities (stop - s.at) src stop s.at) >>= λ x.
    lifted (with_piece context.limit s start stop (part_text context.values.main x.0)) >>= λ t. after_part context (λ u. data_parts context n src start stop u) stop t x.1

-- Reads a run. Without `&` and CR it is one slice of the source.
unfoldable pub character_data_step : Context → List ℕ → State → Result State Refusal
character_data_step context src s =
    lifted (raw_character_data_at src s.at) >>= λ x.
    if is_verbatim x.0 then lifted (with_item context.limit s x.1 (Text s.at x.1 x.0 true)) else data_parts context (length src) src s.at x.1 s

abbrev pub opened_by : ℕ → State → Tag → Bool → ℕ → ℕ → Result State Fault
opened_by limit s t true openings_left j = with_item limit (record { at = s.at; done = s.done; stack = s.stack; openings_left = openings_left }) j (Element s.at j t)
opened_by limit s t false openings_left j = counted limit (record { at = j; done = Nil; stack = inside s.at t s.done s.stack; openings_left = openings_left })

unfoldable pub tag_step : Context → List ℕ → State → Result State Refusal
tag_step context src s =
    tag_at context.values (cut_off context.values.main s.stack) (scope_of s.stack) (attributes_so_far s.stack s.done) (distinct_pairs (pairs_so_far s.stack s.done)) src s.at s.openings_left
    >>= λ x. lifted (opened_by context.limit s x.0.tag x.0.empty x.0.openings_left x.1)

-- The span of a name that ends at `n`, in a tag whose name starts at `i`. Without a prefix it has no colon.
abbrev pub name_span : Name → ℕ → ℕ → Span
name_span name i n = if bytes_eq name.prefix [] then local_span name n else record { start = i; end = n }

-- Closes the open element by an end tag of this name, which is from `i` up to `j`, with its name up to `n`.
unfoldable pub closed_by : ℕ → Name → ℕ → ℕ → Forest Item → Open → ℕ → Result State Fault
closed_by i name n j done root openings_left = Err (fault.UnexpectedEntityCloseTag i)
closed_by i name n j done (inside start tag before up) openings_left =
    if same_qname tag.name name then Ok (record { at = j; done = join before (Cons (Element start j tag) (merge done) Nil); stack = up; openings_left = openings_left })
    else Err (fault.UnexpectedCloseTag (name_span tag.name (start + 1) tag.name_end) (name_span name (i + 2) n) i)

-- Reads an end tag. It may close only an element that the text itself opened.
unfoldable pub end_step : Context → List ℕ → State → Result State Fault
end_step context src s =
    end_tag_at src s.at >>= λ x.
    if nat_le (depth_of s.stack) context.open_around then Err (fault.UnexpectedEntityCloseTag s.at) else closed_by s.at x.0.name x.0.name_end x.1 s.done s.stack s.openings_left

-- Reads one construct of content.
unfoldable pub step : Context → List ℕ → State → Result State Refusal
step context src s =
    if not (slice_index src s.at == code "<") then character_data_step context src s
    else if nat_le (length src) (s.at + 1) then Err (here (fault.UnknownToken s.at))
    else if slice_index src (s.at + 1) == code "!" then
    (if at word.CommentStart src s.at then lifted (comment_step context.limit src s)
    else if at word.CDataStart src s.at then lifted (cdata_step context.limit src s)
    else Err (here (fault.UnknownToken s.at)))
    else if slice_index src (s.at + 1) == code "?" then lifted (instruction_step context.limit src s)
    else if slice_index src (s.at + 1) == code "/" then lifted (end_step context src s)
    else tag_step context src s

-- Reads content of the main text up to the end tag of the root element, in at most `n` steps.
unfoldable pub drive : Context → ℕ → List ℕ → State → Result State Refusal
drive context zero src s = if is_root s.stack then Ok s else Err (here fault.UnclosedRootNode)
drive context (suc n) src s =
    if is_root s.stack then Ok s
    else if nat_lt s.at (length src) then (step context src s >>= λ t. drive context n src t)
    else Err (here fault.UnclosedRootNode)

-- Ends a replacement text: no element may be open that it opened.
abbrev pub text_ends : Context → State → Result State Refusal
text_ends context s = if depth_of s.stack == context.open_around then Ok s else Err (here fault.UnexpectedEndOfStream)

-- Reads content of a replacement text up to its end, in at most `n` steps.
unfoldable pub drive_text : Context → ℕ → List ℕ → State → Result State Refusal
drive_text context zero src s = text_ends context s
drive_text context (suc n) src s = if nat_lt s.at (length src) then (step context src s >>= λ t. drive_text context n src t) else text_ends context s

-- ---- What a reference opens.

-- The openings inside a replacement text whose reference ends at `after`, if `openings_left` are left before the reference.
abbrev pub budget : (main : Bool) → (after openings_left : ℕ) → Result ℕ Fault
budget true after openings_left = Ok most_within
budget false after zero = Err (fault.EntityReferenceLoop after)
budget false after (suc r) = Ok r

-- The openings that are left after the reference. `before` are left before it, and `inner` at the end of its replacement text.
abbrev pub left_behind : (main : Bool) → (before inner : ℕ) → ℕ
left_behind true before inner = before
left_behind false before inner = inner

-- Reads a replacement text as a part of a value. At most `depth_left` replacement texts may be opened inside one another.
unfoldable pub value_opener : List Entity → (depth_left : ℕ) → (main : Bool) → ValueInclusion
value_opener es zero main t after openings_left = Err (here (fault.EntityReferenceLoop after))
value_opener es (suc d) main t after openings_left =
    lifted (budget main after openings_left) >>= λ r.
    elsewhere t.source (value_text false es (value_opener es d false) (length t.source) t.source (length t.source) t.start r) >>= λ x.
    Ok (x.0, left_behind main openings_left x.1)

abbrev pub values_of : List Entity → (depth_left : ℕ) → (main : Bool) → Values
values_of es d main = record { main = main; entities = es; opener = value_opener es d main }

-- Reads a replacement text in content.
unfoldable pub opener : ℕ → List Entity → (depth_left : ℕ) → (main : Bool) → Replacement → ℕ → State → Result State Refusal
opener limit es zero main t after s = Err (here (fault.EntityReferenceLoop after))
opener limit es (suc d) main t after s =
    lifted (budget main after s.openings_left) >>= λ r.
    elsewhere t.source (drive_text (record { limit = limit; values = values_of es d false; open_around = depth_of s.stack; opener = opener limit es d false }) (length t.source) t.source
    (record { at = t.start; done = s.done; stack = s.stack; openings_left = r })) >>= λ u.
    Ok (record { at = after; done = u.done; stack = u.stack; openings_left = left_behind main s.openings_left u.openings_left })

-- How the main text is read.
abbrev pub main_text : ℕ → List Entity → Context
main_text limit es = record { limit = limit; values = values_of es most_deep true; open_around = 0; opener = opener limit es most_deep true }
