-- What the builder holds, compared with the state of reading.
use Rattle.std.specs.Prelude.{◌≡◌, vec_len, vec_capacity, ℕ, ◌+◌, ◌-◌, nat_lt, ◌&&◌, ◌^◌, ◌<◌, ◌≤◌, Bool, true, false, List, [], ◌∷◌, ◌++◌, Option, is_some, Result, Ok, Err, length, map, string_bytes}
use Rattle.std.specs.List.{AllByRecursion}
use Rattle.rox_grammar.specs.declared.fault.Fault.{Fault}
use Rattle.rox_grammar.specs.Forest.{Forest, Nil, join, size}
use Rattle.rox_grammar.specs.Written.{Name, NamespaceDecl, Tag, Item, Element, Text, merge, leaf, is_text, Clean}
use Rattle.rox_grammar.specs.Tree.{listed, scope_in, node_in}
use Rattle.rox_grammar.specs.Document.{most_pairs, most_attributes}
use Rattle.rox_grammar.specs.Counts.{distinct_pairs}
use Rattle.rox_reading.specs.Refusals.{Refusal}
use Rattle.rox_reading.specs.State.{State}
use Rattle.rox_grammar.specs.State.{Open, root, inside, scope_of, pairs_so_far, attributes_so_far}
use Rattle.rox_grammar.specs.Failures.{Fails, name_view}
use Rattle.rox_scan.specs.declared.cursor.Cursor.{Cursor}
use Rattle.rox_grammar.specs.declared.failure.Failure.{Failure}
use Rattle.rox_rows.specs.Rows.{node_rows, RowView, row_view, node, NamespaceWithin, KindWithin, AttributeRow, attribute_rows}
use Rattle.rox_grammar.specs.AtIndex.{scope_at}
use Rattle.rox_scopes.specs.ScopeRows.{AreScopes}
use Rattle.rox_scopes.specs.NamespaceViews.{namespace_view}
use Rattle.rox_reading.specs.Values.{Next, part_text}
use Rattle.rox_values.specs.Refusals.{IsFailure, IsRefusal}
use Rattle.rox_values.specs.Values.{next_view, IsItsSlice}
use Rattle.rox_values.specs.declared.parse_error.ParseError.{ParseError}
use Rattle.rox_builder.specs.OpenRows.{top, so_far}
use Rattle.rox_builder.specs.PendingText.{waiting}
use Rattle.rox_names.specs.TagScopes.{HasBindings, lists_in}
use Rattle.rox_rows.specs.declared.row.NodeKind.{NodeKind}
use Rattle.rox_rows.specs.declared.row.NodeData.{NodeData}
use Rattle.rox_names.specs.declared.tables.ElementTables.{ElementTables}
use Rattle.rox_names.specs.declared.tables.Tables.{Tables}
use Rattle.rox_rows.specs.declared.row.NodeKind.TheVariants as kind
use Rattle.rox_names.specs.declared.start_tag.StartTag.{StartTag}
use Rattle.rox_builder.specs.declared.pending.Pending.{Pending}
use Rattle.rox_builder.specs.declared.pending.JoinedText.{JoinedText}
use Rattle.rox_builder.specs.declared.pending.Pending.TheVariants as pending
use Rattle.rox_names.specs.declared.open_element.OpenElement.{OpenElement}
use Rattle.rox_builder.specs.declared.builder.Builder.{Builder}
use Rattle.rox_names.specs.OpenElements.{name_length, open_name, IsOpenWithin}

-- The tables of the builder that stay at the end of a text.
abbrev pub tables_of : Builder → Tables
tables_of b = record { nodes = b.nodes; attributes = b.tables.attributes; namespaces = b.tables.namespaces.items; listed = b.tables.listed; scopes = b.tables.scopes }

-- The stored part of an open element.
pub record OpenRow : Type 0 where
  pub row : ℕ
  pub name : Name
  pub name_length : ℕ
  -- Whether the name ends at an offset that a text can have, and not before it starts.
  pub is_placed : Bool
  pub scope : List NamespaceDecl

abbrev pub opened : List (List NamespaceDecl) → OpenElement → OpenRow
opened lists o = record { row = o.row; name = open_name o; name_length = name_length o; is_placed = true; scope = scope_at lists o.scope }

-- The stored part of the element in the row `row` that the tag `tag` opens at `start`, and that lists `scope`.
abbrev pub tag_row : ℕ → ℕ → Tag → List NamespaceDecl → OpenRow
tag_row row start tag scope =
    record { row = row; name = tag.name; name_length = tag.name_end - (start + 1); is_placed = nat_lt start tag.name_end && nat_lt tag.name_end (2 ^ 64); scope = scope }

-- The open elements, outermost first.
abbrev pub open_lines : Open → List OpenRow
open_lines root = []
open_lines (inside start tag before up) =
    open_lines up ++ tag_row (top up + 1 + size (merge before)) start tag (listed (scope_of up) tag.declarations) ∷ []

-- The row of the last open element, or that of the root node.
abbrev pub last_row : List OpenRow → ℕ
last_row [] = 0
last_row (o ∷ []) = o.row
last_row (o ∷ p ∷ ps) = last_row (p ∷ ps)

-- The text that may continue, if the buffer is `joined`: none, a piece, or what the buffer holds.
abbrev pub IsPending : Pending → JoinedText → Forest Item → Type 0
IsPending pending.None joined last = last ≡ Nil
IsPending pending.Written joined last = (start : ℕ) × (end : ℕ) × (text : List ℕ) × (borrowed : Bool) × (last ≡ leaf (Text start end text borrowed))
IsPending pending.Joined joined last = (last ≡ leaf (Text joined.start joined.end (string_bytes joined.text) (is_some joined.slice))) × IsItsSlice joined.slice (string_bytes joined.text)

-- The items that have rows, if those of `front` do, and `last` is the text after them that may continue.
abbrev pub with_rows : Pending → (front last : Forest Item) → Forest Item
with_rows pending.None front last = front
with_rows pending.Written front last = join front last
with_rows pending.Joined front last = front

abbrev pub names_in : ElementTables → List NamespaceDecl
names_in t = map namespace_view t.namespaces.items.items

abbrev pub line_in : ElementTables → NodeData → RowView
line_in t row = row_view (attribute_rows t.attributes) (names_in t) (lists_in t) row

abbrev pub opened_in : ElementTables → List OpenElement → List OpenRow
opened_in t os = map (opened (lists_in t)) os

-- What a row names is in the tables.
abbrev pub IsRowWithin : ElementTables → NodeKind → Type 0
IsRowWithin t k = KindWithin (length (attribute_rows t.attributes)) (length t.namespaces.items.items) (length t.scopes.items) k

-- The builder holds the open elements of `stack`, with the items `done` in the innermost, of a text of `end` bytes.
pub record Represents (end : ℕ) (stack : Open) (done : Forest Item) (b : Builder) : Type 0 where
  -- The items of the innermost are `front`, and `last` is the text after them that may continue.
  pub front : Forest Item
  pub last : Forest Item
  pub merged : merge done ≡ join front last
  pub is_last : IsPending b.pending b.joined last
  pub clean : Clean front
  pub rows : map (line_in b.tables) (node_rows b.nodes) ≡ so_far end stack (with_rows b.pending front last)
  pub open_rows : opened_in b.tables b.opened.items ≡ open_lines stack
  pub within : AllByRecursion (λ r. IsRowWithin b.tables r.kind) (node_rows b.nodes)

-- The builder holds the open elements of `stack`, with the items `done` in the innermost, and no text may continue.
pub record RepresentsFlushed (end : ℕ) (stack : Open) (done : Forest Item) (b : Builder) : Type 0 where
  pub rows : map (line_in b.tables) (node_rows b.nodes) ≡ so_far end stack (merge done)
  pub open_rows : opened_in b.tables b.opened.items ≡ open_lines stack
  pub within : AllByRecursion (λ r. IsRowWithin b.tables r.kind) (node_rows b.nodes)
  pub empty : b.pending ≡ pending.None

-- The row kind `k` represents `item`, which has no descendants, in an element that lists `above`.
pub record IsNode (t : ElementTables) (above : List NamespaceDecl) (start end : ℕ) (k : NodeKind) (item : Item) : Type 0 where
  pub is : node (attribute_rows t.attributes) (names_in t) (lists_in t) start end k ≡ node_in (scope_in above item) item
  pub within : IsRowWithin t k
  pub no_text : is_text item ≡ false

-- The start tag `tag` holds the tag `t` at `start`, in an element that lists `above`.
pub record IsOpening (tables : ElementTables) (above : List NamespaceDecl) (start : ℕ) (tag : StartTag) (t : Tag) : Type 0 where
  pub node : IsNode tables above start 0 (kind.Element tag.element) (Element start 0 t)
  pub name : name_view tag.name ≡ t.name
  pub name_start : tag.name_start ≡ start + 1
  pub name_end : tag.name_end ≡ t.name_end
  pub scope : scope_at (lists_in tables) tag.element.scope ≡ listed above t.declarations

-- Attributes and listed places name only namespaces that the table has, and scopes only places that are listed.
pub record AreSound (t : ElementTables) : Type 0 where
  pub attributes : AllByRecursion (λ a. NamespaceWithin (length t.namespaces.items.items) a.0.namespace) (attribute_rows t.attributes)
  pub listed : AllByRecursion (λ i. i < length t.namespaces.items.items) t.listed.items
  pub scopes : AreScopes (length t.listed.items) t.scopes.items

-- The builder holds what is read, unless memory ran out.
abbrev pub Adds : ℕ → Result (Unit {0}) Failure → Builder → Result State Fault → Type 0
Adds end (Ok x) b read = (s : State) × (read ≡ Ok s) × Represents end s.stack s.done b
Adds end (Err e) b read = Fails e read

-- The first scope lists nothing.
pub record HasEmpty (t : ElementTables) : Type 0 where
  pub there : 0 < length t.scopes.items
  pub none : scope_at (lists_in t) 0 ≡ []

-- The tables and the open elements are consistent, which they are between any two constructs of a text.
pub record IsConsistent (t : ElementTables) (opened : List OpenElement) : Type 0 where
  pub sound : AreSound t
  pub elements : AllByRecursion (IsOpenWithin t) opened
  pub empty : HasEmpty t
  pub kept : HasBindings t
  pub few_names : length t.namespaces.items.items ≤ most_pairs
  pub few_attributes : length (attribute_rows t.attributes) ≤ most_attributes

-- The cursor and the builder are in the state `s` of reading, in a text of `end` bytes.
pub record IsInState (limit end : ℕ) (s : State) (c : Cursor) (b : Builder) : Type 0 where
  pub here : c.pos ≡ s.at
  pub limit_is : b.nodes_limit ≡ limit
  pub shows : Represents end s.stack s.done b
  pub namespaces : names_in b.tables ≡ distinct_pairs (pairs_so_far s.stack s.done)
  pub attributes : length (attribute_rows b.tables.attributes) ≡ attributes_so_far s.stack s.done
  pub openings_left_is : b.openings_left ≡ s.openings_left

-- The cursor and the builder are in the state that `read` gives, unless memory ran out.
abbrev pub ScansTo : ℕ → ℕ → Result (Unit {0}) Failure → Cursor → Builder → Result State Refusal → Type 0
ScansTo limit end (Ok x) c b read = (s : State) × (read ≡ Ok s) × IsInState limit end s c b
ScansTo limit end (Err e) c b read = IsFailure e read

-- The cursor and the builder are in the state that `read` gives, if entities may be opened, unless memory ran out.
abbrev pub ParsesTo : ℕ → ℕ → Result (Unit {0}) ParseError → Cursor → Builder → Result State Refusal → Type 0
ParsesTo limit end (Ok x) c b read = (s : State) × (read ≡ Ok s) × IsInState limit end s c b
ParsesTo limit end (Err e) c b read = IsRefusal e read

-- The builder is in the state `s` of reading, whatever the source and the offset in it.
pub record HoldsState (limit end : ℕ) (s : State) (b : Builder) : Type 0 where
  pub limit_is : b.nodes_limit ≡ limit
  pub shows : Represents end s.stack s.done b
  pub namespaces : names_in b.tables ≡ distinct_pairs (pairs_so_far s.stack s.done)
  pub attributes : length (attribute_rows b.tables.attributes) ≡ attributes_so_far s.stack s.done
  pub openings_left_is : b.openings_left ≡ s.openings_left

-- The builder is in the state that `read` gives after a replacement text, unless memory ran out.
abbrev pub ParsesToHeld : ℕ → ℕ → Result (Unit {0}) ParseError → Builder → Result State Refusal → Type 0
ParsesToHeld limit end (Ok x) b read = (s : State) × (read ≡ Ok s) × HoldsState limit end s b
ParsesToHeld limit end (Err e) b read = IsRefusal e read

-- The cursor and the builder are in the state that `read` gives after the root element. The result is whether it is there.
abbrev pub ParsesToWith : ℕ → ℕ → Result Bool ParseError → Cursor → Builder → Result (State × Bool) Refusal → Type 0
ParsesToWith limit end (Ok x) c b read = (s : State) × (read ≡ Ok (s, x)) × IsInState limit end s c b
ParsesToWith limit end (Err e) c b read = IsRefusal e read

-- A part of character data is in the buffer for values, up to its end or a reference.
abbrev pub GivesPart : Bool → List ℕ → Cursor → Result (Option Cursor) Failure → Result (List ℕ × Next) Fault → Type 0
GivesPart main text after (Ok next) read = (bs : List ℕ) × (read ≡ Ok (bs, next_view next after.pos)) × (text ≡ part_text main bs)
GivesPart main text after (Err e) read = Fails e read

-- The tables `new` are `old` with more rows.
pub record Grown (old new : ElementTables) : Type 0 where
  pub more_attributes : List AttributeRow
  pub attributes : (attribute_rows new.attributes) ≡ (attribute_rows old.attributes) ++ more_attributes
  pub more_names : List NamespaceDecl
  pub namespaces : names_in new ≡ names_in old ++ more_names
  pub more_lists : List (List NamespaceDecl)
  pub lists : lists_in new ≡ lists_in old ++ more_lists

-- There is room for `most` rows in all, and no text waits for its row.
pub record IsReadyTo (most : ℕ) (b : Builder) : Type 0 where
  pub room : most ≤ vec_capacity b.nodes.rows
  pub few : most ≤ b.nodes_limit
  pub small : most < 2 ^ 32
  pub settled : waiting b.pending ≡ 0

-- There is room for `n` more rows, and no text waits for its row.
abbrev pub IsReady : ℕ → Builder → Type 0
IsReady n b = IsReadyTo (vec_len b.nodes.rows + n) b

-- A step stays in its source, and the builder stays consistent.
pub record GoesOn (old new : Cursor) (b : Builder) : Type 0 where
  pub source : new.text ≡ old.text
  pub fine : IsConsistent b.tables b.opened.items

-- Neither the tables of elements change nor the limits.
pub record KeepsTables (old new : Builder) : Type 0 where
  pub tables : new.tables ≡ old.tables
  pub limit : new.nodes_limit ≡ old.nodes_limit
  pub openings_left : new.openings_left ≡ old.openings_left

-- Neither the open elements change, nor the tables of elements, nor the limits.
pub record KeepsOpen (old new : Builder) : Type 0 where
  pub opened : new.opened ≡ old.opened
  pub tables : new.tables ≡ old.tables
  pub limit : new.nodes_limit ≡ old.nodes_limit
  pub openings_left : new.openings_left ≡ old.openings_left

-- The builder holds equal rows, whatever room it has for attributes.
pub record KeepsState (old new : Builder) : Type 0 where
  pub nodes : new.nodes ≡ old.nodes
  pub opened : new.opened ≡ old.opened
  pub pending : new.pending ≡ old.pending
  pub joined : new.joined ≡ old.joined
  pub limit : new.nodes_limit ≡ old.nodes_limit
  pub openings_left : new.openings_left ≡ old.openings_left
  pub others : new.tables ≡ record old.tables { attributes = new.tables.attributes }
  pub attributes : attribute_rows new.tables.attributes ≡ attribute_rows old.tables.attributes
