-- Reading of a document type declaration. The resolver gives the replies, in order. After the last reply, each request gets no
-- text.
use Prim.Native.Char.{code}
use Rattle.std.specs.Prelude.{ℕ, zero, suc, ◌+◌, ◌==◌, ◌||◌, Bool, true, false, List, [], ◌∷◌, ◌++◌, Option, Some, None, Result, Ok, Err, length, take, drop, slice_index, slice_range, nat_lt, nat_le, if◌then◌else◌, IsUtf8}
use Rattle.rox_grammar.specs.declared.fault.Fault.TheVariants as fault
use Rattle.rox_grammar.specs.declared.fault.Due.TheVariants as due
use Rattle.rox_grammar.specs.declared.fault.Word.TheVariants as word
use Rattle.rox_grammar.specs.Search.{byte_from}
use Rattle.rox_grammar.specs.Names.{spaces_end}
use Rattle.rox_grammar.specs.FixedTexts.{at}
use Rattle.rox_grammar.specs.TextStart.{after_bom}
use Rattle.rox_grammar.specs.Entities.{Replacement, Entity}
use Rattle.rox_grammar.specs.Doctype.{Request, Asked, entry}
pub use Rattle.rox_grammar.specs.Doctype.{Reply}
use Rattle.rox_reading.specs.Lexical.{Read, ◌>>=◌, byte_at, space_at, quote_at, name_at}
use Rattle.rox_reading.specs.Markup.{xml_decl_at}
use Rattle.rox_reading.specs.Refusals.{Refusal, here, refused, lifted, elsewhere}
use Rattle.rox_reading.specs.State.{State}
use Rattle.rox_reading.specs.Machine.{comment_step, instruction_step, at_place}

-- The answers to these requests, as replies.
abbrev pub replies_of : List Asked → List Reply
replies_of [] = []
replies_of (a ∷ as') = Ok a.answer ∷ replies_of as'

-- If the reply is a text, it is in UTF-8.
abbrev pub IsTextReply : Reply → Type 0
IsTextReply (Ok None) = Unit {0}
IsTextReply (Ok (Some text)) = IsUtf8 text
IsTextReply (Err message) = Unit {0}

-- Each reply that is a text is in UTF-8.
abbrev pub AreTextReplies : List Reply → Type 0
AreTextReplies [] = Unit {0}
AreTextReplies (r ∷ rs) = IsTextReply r × AreTextReplies rs

-- The requests that a reading makes, and its result.
abbrev pub Asks : Type 0 → Type 0
Asks A = List Asked × Result A Refusal

abbrev pub asks_nothing : {A : Type 0} → Result A Refusal → Asks A
asks_nothing r = ([], r)

infixl 10 ◌>>>◌
-- Continues with a second reading, whose requests follow those of the first. A refusal of the first ends both.
abbrev pub ◌>>>◌ : {A B : Type 0} → Asks A → (A → Asks B) → Asks B
(asked, Ok x) >>> f = (let rest = f x in (asked ++ rest.0, rest.1))
(asked, Err e) >>> f = (asked, Err e)

-- ---- Readings that make no request.

-- Reads a text in quotes, which may have any bytes except the quote.
unfoldable pub quoted_at : List ℕ → ℕ → Read (List ℕ)
quoted_at src i =
    quote_at src i >>= λ quote. (let e = byte_from (λ c. c == quote.0) src quote.1 in byte_at quote.0 src e >>= λ x. Ok (slice_range src quote.1 e, x.1))

unfoldable pub system_at : List ℕ → ℕ → Read Request
system_at src i = space_at src (i + 6) >>= λ s. quoted_at src s.1 >>= λ uri. Ok (record { public_id = None; uri = uri.0 }, uri.1)

unfoldable pub public_at : List ℕ → ℕ → Read Request
public_at src i =
    space_at src (i + 6) >>= λ p. quoted_at src p.1 >>= λ id. space_at src id.1 >>= λ s. quoted_at src s.1 >>= λ uri.
    Ok (record { public_id = Some id.0; uri = uri.0 }, uri.1)

-- Reads an external identifier from `SYSTEM` or `PUBLIC` on.
unfoldable pub external_id_at : List ℕ → ℕ → Read Request
external_id_at src i =
    if at word.System src i then system_at src i
    else if at word.Public src i then public_at src i
    else Err (fault.InvalidExternalID i)

-- Reads a name, or nothing at the end of the source.
unfoldable pub name_or_end_at : List ℕ → ℕ → Read (List ℕ)
name_or_end_at src i = if nat_le (length src) i then Ok ([], i) else name_at src i

-- Reads up to where the request for an entity is made. For a general entity, that is after its notation, or after white space.
unfoldable pub notation_at : (parameter : Bool) → List ℕ → ℕ → Read (Unit {0})
notation_at parameter src i =
    if parameter then Ok (tt, i)
    else if at word.NData src (spaces_end src i) then (space_at src (spaces_end src i + 5) >>= λ s. name_or_end_at src s.1 >>= λ name. Ok (tt, name.1))
    else Ok (tt, spaces_end src i)

pub data Definition : Type 0 where
  inner : Replacement → Definition
  outer : Request → Definition

-- Reads a definition: a replacement text, or the request for it.
unfoldable pub definition_at : (parameter : Bool) → List ℕ → ℕ → Read Definition
definition_at parameter src i =
    if nat_le (length src) i then Err fault.UnexpectedEndOfStream
    else if slice_index src i == code "\"" || slice_index src i == code "'" then
    (quoted_at src i >>= λ x. Ok (inner (record { source = take (i + 1 + length x.0) src; start = i + 1 }), x.1))
    else if slice_index src i == code "S" || slice_index src i == code "P" then (external_id_at src i >>= λ x. notation_at parameter src x.1 >>= λ y. Ok (outer x.0, y.1))
    else Err (fault.InvalidChar2 due.EntityDefinition (slice_index src i) i)

pub record EntityHead : Type 0 where
  pub parameter : Bool
  pub name : List ℕ

unfoldable pub kind_at : List ℕ → ℕ → Read Bool
kind_at src i = if slice_index src i == code "%" then (space_at src (i + 1) >>= λ s. Ok (true, s.1)) else Ok (false, i)

-- Reads from `<!ENTITY` up to the definition.
unfoldable pub entity_head_at : List ℕ → ℕ → Read EntityHead
entity_head_at src i =
    space_at src (i + 8) >>= λ k. kind_at src k.1 >>= λ kind. name_at src kind.1 >>= λ name. space_at src name.1 >>= λ d.
    Ok (record { parameter = kind.0; name = name.0 }, d.1)

-- The replacement text of an answer: what follows its byte order mark and declaration.
unfoldable pub answer_text : Option (List ℕ) → Result (Option Replacement) Refusal
answer_text None = Ok None
answer_text (Some t) =
    elsewhere t (lifted (if at word.XmlDeclStart t (after_bom t) then xml_decl_at t (after_bom t) else Ok (tt, after_bom t))) >>= λ x.
    Ok (Some (record { source = drop x.1 t; start = 0 }))

-- ---- Readings that make requests.

-- The state within the declaration: the nodes, the entities, and the replies that are left.
pub record Dtd : Type 0 where
  pub state : State
  pub entities : List Entity
  pub replies : List Reply

abbrev pub next_reply : List Reply → Reply
next_reply [] = Ok None
next_reply (r ∷ rs) = r

abbrev pub other_replies : List Reply → List Reply
other_replies [] = []
other_replies (r ∷ rs) = rs

-- The result of the reply to a request that is made at `p`.
abbrev pub replied : Request → ℕ → Reply → Asks (Option Replacement)
replied request p (Err message) = ([], Err (refused request p message))
replied request p (Ok answer) = (record { request = request; answer = answer } ∷ [], answer_text answer)

abbrev pub defined : Definition → ℕ → List Reply → Asks (Option Replacement × List Reply)
defined (inner t) p replies = ([], Ok (Some t, replies))
defined (outer request) p replies = replied request p (next_reply replies) >>> λ t. ([], Ok (t, other_replies replies))

-- Reads an entity declaration from `<!ENTITY` on.
unfoldable pub entity_step : List ℕ → Dtd → Asks Dtd
entity_step src d =
    asks_nothing (lifted (entity_head_at src d.state.at)) >>> λ head.
    asks_nothing (lifted (definition_at head.0.parameter src head.1)) >>> λ definition.
    defined definition.0 definition.1 d.replies >>> λ text.
    asks_nothing (lifted (byte_at (code ">") src (spaces_end src definition.1))) >>> λ end.
    asks_nothing (Ok (record { state = at_place end.1 d.state; entities = d.entities ++ entry head.0.name text.0; replies = text.1 }))

-- Skips a declaration. The document type declaration starts at `i`.
unfoldable pub skipped_declaration : ℕ → List ℕ → Dtd → Asks Dtd
skipped_declaration i src d =
    let e = byte_from (λ c. c == code ">") src d.state.at in
    if nat_lt e (length src) then ([], Ok (record { state = at_place (e + 1) d.state; entities = d.entities; replies = d.replies }))
    else ([], Err (here (fault.UnknownToken i)))

abbrev pub with_state : Dtd → State → Dtd
with_state d s = record { state = s; entities = d.entities; replies = d.replies }

-- Reads `>` after the subset.
unfoldable pub subset_end : List ℕ → Dtd → Asks Dtd
subset_end src d =
    let e = spaces_end src (d.state.at + 1) in
    if nat_le (length src) e then ([], Err (here fault.UnexpectedEndOfStream))
    else if slice_index src e == code ">" then ([], Ok (with_state d (at_place (e + 1) d.state)))
    else ([], Err (here (fault.InvalidChar2 due.End (slice_index src e) e)))

-- Reads the items up to `]`, and the end of the declaration, which starts at `i`. If the source ends right after `[` or an item, it
-- stops there without a fault. At most `n` items are read.
unfoldable pub subset : ℕ → ℕ → ℕ → List ℕ → Dtd → Asks Dtd
subset limit i zero src d = ([], Ok d)
subset limit i (suc n) src d =
    if nat_le (length src) d.state.at then ([], Ok d)
    else (let s = at_place (spaces_end src d.state.at) d.state in
    if at word.EntityStart src s.at then (entity_step src (with_state d s) >>> λ e. subset limit i n src e)
    else if at word.CommentStart src s.at then (asks_nothing (lifted (comment_step limit src s)) >>> λ t. subset limit i n src (with_state d t))
    else if at word.PIStart src s.at then (asks_nothing (lifted (instruction_step limit src s)) >>> λ t. subset limit i n src (with_state d t))
    else if at word.ElementStart src s.at || (at word.AttlistStart src s.at || at word.NotationStart src s.at) then
    (skipped_declaration i src (with_state d s) >>> λ e. subset limit i n src e)
    else if slice_index src s.at == code "]" then subset_end src (with_state d s)
    else ([], Err (here (fault.UnknownToken s.at))))

-- Reads an external identifier, if there is one.
unfoldable pub external_id_if : List ℕ → ℕ → Read (Unit {0})
external_id_if src i =
    if at word.System src i || at word.Public src i then (external_id_at src i >>= λ x. Ok (tt, x.1)) else Ok (tt, i)

-- Reads from `<!DOCTYPE` up to `[` or `>`.
unfoldable pub doctype_head_at : List ℕ → ℕ → Read (Unit {0})
doctype_head_at src i =
    space_at src (i + 9) >>= λ n. name_or_end_at src n.1 >>= λ name. external_id_if src (spaces_end src name.1) >>= λ x. Ok (tt, spaces_end src x.1)

unfoldable pub doctype_step : ℕ → List ℕ → Dtd → Asks Dtd
doctype_step limit src d =
    asks_nothing (lifted (doctype_head_at src d.state.at)) >>> λ head.
    if nat_le (length src) head.1 then ([], Err (here fault.UnexpectedEndOfStream))
    else if slice_index src head.1 == code ">" then ([], Ok (with_state d (at_place (head.1 + 1) d.state)))
    else if slice_index src head.1 == code "[" then subset limit d.state.at (length src) src (with_state d (at_place (head.1 + 1) d.state))
    else ([], Err (here (fault.InvalidChar2 due.SubsetOrEnd (slice_index src head.1) head.1)))
