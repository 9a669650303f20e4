-- What the calls of the builder require, and how they change it.
use Rattle.std.specs.Prelude.{◌≡◌, ℕ, ◌-◌, ◌∷◌, [], ◌<◌, true, false, Bool, List, OnOk, IfOk, Result, Ok, length, take, vec_len, vec_capacity}
use Rattle.std.specs.declared.alloc.AllocError.{AllocError}
use Rattle.rox_grammar.specs.Forest.{Forest, Nil, Cons, join}
use Rattle.rox_grammar.specs.State.{Open, inside, root, scope_of}
use Rattle.rox_grammar.specs.Written.{Element, Item, Tag, Text, merge}
use Rattle.rox_reading.specs.Machine.{with_item}
use Rattle.rox_reading.specs.State.{State}
use Rattle.rox_reading.specs.Values.{ReadText}
use Rattle.rox_rows.specs.Rows.{attribute_rows, node_rows}
use Rattle.rox_scopes.specs.Scopes.{PrefixesOnce}
use Rattle.rox_rows.specs.declared.row.NodeKind.{NodeKind}
use Rattle.rox_rows.specs.declared.row.NodeKind.TheVariants as kind
use Rattle.rox_builder.specs.BuilderState.{Adds, IsConsistent, IsReadyTo, KeepsOpen, KeepsState, KeepsTables, Represents, names_in}
use Rattle.rox_names.specs.TagScopes.{scope_in_tables}
use Rattle.rox_builder.specs.Outcomes.{AddsNode, OpensElement}
use Rattle.rox_builder.specs.Readiness.{IsApart, MayPutRow}
use Rattle.rox_names.specs.SpelledNames.{SpellsName, long_name}
use Rattle.rox_builder.specs.declared.builder.Builder.{Builder}
use Rattle.rox_builder.specs.declared.builder.FirstTables.{FirstTables}
use Rattle.rox_builder.specs.declared.pending.Pending.TheVariants as pending
use Rattle.rox_names.specs.declared.start_tag.StartTag.{StartTag}

-- The builder has only the root node.
pub record IsOfRoot (first : FirstTables) (most : ℕ) (b : Builder) : Type 0 where
  pub empty : (names_in b.tables ≡ []) × (length (attribute_rows b.tables.attributes) ≡ 0)
  pub fine : IsConsistent b.tables b.opened.items
  pub shows : (bytes : ℕ) → node_rows first.nodes ≡ record { start = 0; end = bytes; parent = 0; subtree_end = 0; kind = kind.Root } ∷ [] → Represents bytes root Nil b
  pub limit : b.nodes_limit ≡ most
  pub openings_left : b.openings_left ≡ 255

-- `n` is the scope of the innermost open element, or of the root node.
pub record IsInnermostScope (b : Builder) (n : ℕ) : Type 0 where
  pub value : IsConsistent b.tables b.opened.items → (end : ℕ) (stack : Open) (done : Forest Item) → Represents end stack done b → scope_in_tables b.tables n ≡ scope_of stack
  pub within : IsConsistent b.tables b.opened.items → n < length b.tables.scopes.items
  pub once : IsConsistent b.tables b.opened.items → PrefixesOnce (scope_in_tables b.tables n)

-- Character data ended.
pub record EndsRun (old new : Builder) (result : Result (Unit {0}) AllocError) : Type 0 where
  pub ok : OnOk result ((end : ℕ) (stack : Open) (done : Forest Item) → Represents end stack done old → Represents end stack done new)
  pub kept : KeepsOpen old new

-- The builder holds equal rows, whatever room it has for rows.
pub record KeepsRows (old new : Builder) : Type 0 where
  pub shows : (end : ℕ) (stack : Open) (done : Forest Item) → Represents end stack done old → Represents end stack done new
  pub kept : KeepsOpen old new

-- The builder holds the piece `item` of a text after what it represented before.
abbrev pub HasAdded : Builder → Builder → Item → Type 0
HasAdded old new item = (total at : ℕ) (s : State) → Represents total s.stack s.done old → Adds total (Ok tt) new (with_item old.nodes_limit s at item)

-- The piece joined the text that may continue, which waits for its row.
pub record JoinsText (old new : Builder) (result : Result (Unit {0}) AllocError) (piece : ReadText) : Type 0 where
  pub value : OnOk result ((start end : ℕ) → HasAdded old new (Text start end piece.value piece.borrowed))
  pub waits : OnOk result (new.pending ≡ pending.Joined)
  pub kept : KeepsOpen old new

-- The piece joined the text that may continue, or waits for its row if there was none. Or the builder holds equal rows.
pub record AddsWaiting (old new : Builder) (result : Result Bool AllocError) (item : Item) : Type 0 where
  pub value : IfOk result (λ yes. yes ≡ true → HasAdded old new item)
  pub waits : IfOk result (λ yes. yes ≡ true → new.pending ≡ pending.Joined)
  pub other : IfOk result (λ yes. yes ≡ false → KeepsState old new)
  pub kept : KeepsOpen old new

-- The node has its row.
pub record PutsLeaf (old new : Builder) (i j : ℕ) (k : NodeKind) : Type 0 where
  pub adds : AddsNode old new (Ok tt) i j k
  pub ready : (most : ℕ) → IsReadyTo most old → IsApart most new

-- There is room for the element that the tag `tag` opens at `i`.
pub record MayPutOpen (b : Builder) (above : ℕ) (text : List ℕ) (i : ℕ) (tag : StartTag) : Type 0 where
  pub row : MayPutRow b above i
  pub depth : vec_len b.opened < vec_capacity b.opened
  pub named : SpellsName text tag
  pub narrow : tag.name_end - tag.name_start < long_name

-- The element is open.
pub record PutsOpen (old new : Builder) (text : List ℕ) (i : ℕ) (tag : StartTag) : Type 0 where
  pub adds : OpensElement old new (Ok tt) text i tag
  pub ready : (most : ℕ) → IsReadyTo most old → IsApart most new

-- The innermost open element ends at `end`.
pub record Closes (old new : Builder) (result : Result (Unit {0}) AllocError) (end : ℕ) : Type 0 where
  pub ok : OnOk result ((total start : ℕ) (t : Tag) (before : Forest Item) (up : Open) (done : Forest Item) → Represents total (inside start t before up) done old
      → Represents total up (join before (Cons (Element start end t) (merge done) Nil)) new)
  pub kept : KeepsTables old new
  pub opened : OnOk result (new.opened.items ≡ take (length old.opened.items - 1) old.opened.items)
