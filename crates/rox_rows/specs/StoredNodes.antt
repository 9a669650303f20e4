-- The rows of nodes as their table stores them.
use Rattle.std.specs.declared.alloc.Global.{Global}
use Rattle.std.specs.Prelude.{ℕ, ◌+◌, ◌-◌, ◌*◌, ◌/◌, ◌^◌, ◌<◌, ◌≤◌, ◌≡◌, ◌==◌, ◌&&◌, Bool, true, false, not, List, [], ◌∷◌, Result, IfOk, IfErr, OnOk, Vec, vec_len, vec_capacity, length, take, set, get_or, nat_lt, if◌then◌else◌}
use Rattle.std.specs.Mem.{manually_drop_value}
use Rattle.std.specs.List.{list_all}
use Rattle.rox_storage.specs.Storage.{is_borrowed}
use Rattle.rox_rows.specs.declared.row.PI.{PI}
use Rattle.rox_rows.specs.declared.row.NodeKind.{NodeKind}
use Rattle.rox_rows.specs.declared.row.NodeKind.TheVariants as kind
use Rattle.rox_rows.specs.declared.row.NodeData.{NodeData}
use Rattle.rox_rows.specs.declared.stored_node.StoredKind.{StoredKind}
use Rattle.rox_rows.specs.declared.stored_node.StoredKind.TheVariants as stored
use Rattle.rox_rows.specs.declared.stored_node.StoredNode.{StoredNode}
use Rattle.rox_rows.specs.declared.stored_node.HighPlaces.{HighPlaces}
use Rattle.rox_rows.specs.declared.stored_node.KindRef.{KindRef}
use Rattle.rox_rows.specs.declared.stored_node.KindRef.TheVariants as lent
use Rattle.rox_rows.specs.declared.stored_node.RowRef.{RowRef}

-- The offset whose halves are `low` and `high`.
abbrev pub whole_place : ℕ → ℕ → ℕ
whole_place low high = high * 2 ^ 32 + low

-- The processing instruction at the index `i`.
abbrev pub instruction_at : List PI → ℕ → NodeKind
instruction_at [] i = kind.Root
instruction_at (p ∷ ps) Prim.Native.Nat.zero = kind.PI p
instruction_at (p ∷ ps) (Prim.Native.Nat.suc i) = instruction_at ps i

-- The kind of a node.
abbrev pub whole_kind : List PI → StoredKind → NodeKind
whole_kind pis stored.Root = kind.Root
whole_kind pis (stored.Element namespace scope local from until) =
    kind.Element (record { local = local; attributes_from = from; attributes_until = until; scope = scope; namespace = namespace })
whole_kind pis (stored.Text previous text) = kind.Text (manually_drop_value text)
whole_kind pis (stored.Comment previous text) = kind.Comment (manually_drop_value text)
whole_kind pis (stored.Instruction i) = instruction_at pis i

-- A row, with the upper halves of its offsets.
abbrev pub whole_row : List PI → HighPlaces → StoredNode → NodeData
whole_row pis high row = record {
  start = whole_place row.start high.start;
  end = whole_place row.end high.end;
  parent = row.parent;
  subtree_end = row.subtree_end;
  kind = whole_kind pis row.kind;
}

abbrev pub no_high : HighPlaces
no_high = record { start = 0; end = 0 }

-- The upper halves at the index `i`, which are 0 past the end.
abbrev pub high_at : List HighPlaces → ℕ → HighPlaces
high_at [] i = no_high
high_at (h ∷ hs) Prim.Native.Nat.zero = h
high_at (h ∷ hs) (Prim.Native.Nat.suc i) = high_at hs i

-- The upper halves for the root node of a text of `bytes` bytes.
abbrev pub root_high : ℕ → List HighPlaces
root_high bytes = if nat_lt bytes (2 ^ 32) then [] else record { start = 0; end = bytes / 2 ^ 32 } ∷ []

-- The rows. The first have upper halves of their offsets; those of the others are 0.
abbrev pub whole_rows : List PI → List HighPlaces → List StoredNode → List NodeData
whole_rows pis highs [] = []
whole_rows pis [] (r ∷ rs) = whole_row pis no_high r ∷ whole_rows pis [] rs
whole_rows pis (h ∷ hs) (r ∷ rs) = whole_row pis h r ∷ whole_rows pis hs rs

-- A row names only one of `n` processing instructions.
abbrev pub is_kind_within : ℕ → StoredKind → Bool
is_kind_within n stored.Root = true
is_kind_within n (stored.Element namespace scope local from until) = true
is_kind_within n (stored.Text previous text) = true
is_kind_within n (stored.Comment previous text) = true
is_kind_within n (stored.Instruction i) = nat_lt i n

abbrev pub are_within : ℕ → List StoredNode → Bool
are_within n rows = list_all (λ r. is_kind_within n r.kind) rows

-- Whether a row owns its text. `previous` is the number that is stored with the text.
abbrev pub owns : StoredKind → Bool
owns stored.Root = false
owns (stored.Element namespace scope local from until) = false
owns (stored.Text previous text) = not (is_borrowed (manually_drop_value text))
owns (stored.Comment previous text) = not (is_borrowed (manually_drop_value text))
owns (stored.Instruction i) = false

abbrev pub previous : StoredKind → ℕ
previous stored.Root = 0
previous (stored.Element namespace scope local from until) = 0
previous (stored.Text number text) = number
previous (stored.Comment number text) = number
previous (stored.Instruction i) = 0

abbrev pub owns_text : NodeKind → Bool
owns_text kind.Root = false
owns_text (kind.Element e) = false
owns_text (kind.Text text) = not (is_borrowed text)
owns_text (kind.Comment text) = not (is_borrowed text)
owns_text (kind.PI pi) = false

-- The row `row` stores whether the node `k` owns a text. If it does, its number is `last`, that of the last earlier row that owns
-- one.
pub record IsChainedTo (last : ℕ) (k : NodeKind) (row : StoredKind) : Type 0 where
  pub owned : owns row ≡ owns_text k
  pub behind : owns row ≡ true → previous row ≡ last

-- The row stores the node, beside the processing instructions `pis`.
pub record Stores (pis : List PI) (last : ℕ) (k : NodeKind) (row : StoredKind) : Type 0 where
  pub value : whole_kind pis row ≡ k
  pub within : is_kind_within (length pis) row ≡ true
  pub chained : IsChainedTo last k row

-- Whether the row owns no text, or its number is `last`, that of the last earlier row that owns one.
abbrev pub is_linked : ℕ → StoredKind → Bool
is_linked last k = if owns k then previous k == last else true

-- The number of the last row that owns a text, after a row of the kind `k` is put after `count` rows.
abbrev pub last_with : ℕ → ℕ → StoredKind → ℕ
last_with count last k = if owns k then count + 1 else last

-- Each of these rows that owns a text names the last earlier one that does. They follow `count` rows; `last` is that number
-- before them, `end` after them.
abbrev pub is_chain : (count last end : ℕ) → List StoredNode → Bool
is_chain count last end [] = last == end
is_chain count last end (r ∷ rs) = is_linked last r.kind && is_chain (count + 1) (last_with count last r.kind) end rs

-- A node that needs no other table than that of the rows: it is not a processing instruction.
abbrev pub IsSmallKind : NodeKind → Type 0
IsSmallKind kind.Root = Unit {0}
IsSmallKind (kind.Element e) = Unit {0}
IsSmallKind (kind.Text text) = Unit {0}
IsSmallKind (kind.Comment text) = Unit {0}
IsSmallKind (kind.PI pi) = ⊥

-- The row at the index `row` is changed in place if it is there.
pub record ChangesRow {A : Type 0} (row : ℕ) (change : A → A) (old new : Vec A Global) : Type 0 where
  pub rows : (d : A) → new.items ≡ set old.items row (change (get_or old.items row d))
  pub count : vec_len new ≡ vec_len old
  pub room : vec_capacity new ≡ vec_capacity old

-- The last row is removed. `last` was the number of the last row that owns a text, and `before` is that number afterwards.
pub record TakesLast (last before : ℕ) (old new : Vec StoredNode Global) : Type 0 where
  pub rows : new.items ≡ take (vec_len old - 1) old.items
  pub count : 0 < vec_len old → vec_len new + 1 ≡ vec_len old
  pub room : vec_capacity new ≡ vec_capacity old
  pub chain : is_chain 0 0 last old.items ≡ true → is_chain 0 0 before new.items ≡ true

-- Upper halves of 0 are appended. There are then `rows_there`, and room for one more, unless memory ran out.
pub record FillsHigh {E : Type 0} (rows_there : ℕ) (old new : Vec HighPlaces Global) (result : Result (Unit {0}) E) : Type 0 where
  pub same : (pis : List PI) (rows : List StoredNode) → whole_rows pis new.items rows ≡ whole_rows pis old.items rows
  pub count : OnOk result (vec_len new ≡ rows_there)
  pub most : vec_len new ≤ rows_there
  pub room : OnOk result (vec_len new < vec_capacity new)

-- A node is stored unless memory ran out, with a processing instruction appended to the list. Earlier rows keep their meaning.
pub record StoresKind {E : Type 0} (last : ℕ) (k : NodeKind) (old new : List PI) (result : Result StoredKind E) : Type 0 where
  pub stored : IfOk result (Stores new last k)
  pub same : (high : List HighPlaces) (rows : List StoredNode) → are_within (length old) rows ≡ true → whole_rows new high rows ≡ whole_rows old high rows
  pub more : length old ≤ length new
  pub none : IfErr result (λ e. new ≡ old)

-- A processing instruction is stored, and appended to the list. Earlier rows keep their meaning.
pub record PutsKind (pi : PI) (old new : List PI) (result : StoredKind) : Type 0 where
  pub stored : (last : ℕ) → Stores new last (kind.PI pi) result
  pub same : (high : List HighPlaces) (rows : List StoredNode) → are_within (length old) rows ≡ true → whole_rows new high rows ≡ whole_rows old high rows
  pub more : length old ≤ length new
  pub owns : owns result ≡ false

-- The node kind that `KindRef` borrows.
abbrev pub kind_of : KindRef → NodeKind
kind_of lent.Root = kind.Root
kind_of (lent.Element e) = kind.Element e
kind_of (lent.Text text) = kind.Text text.now
kind_of (lent.Comment text) = kind.Comment text.now
kind_of (lent.PI pi) = kind.PI pi

abbrev pub data_of : RowRef → NodeData
data_of row = record {
  start = row.start;
  end = row.end;
  parent = row.parent;
  subtree_end = row.subtree_end;
  kind = kind_of row.kind;
}

-- Whether a node is an element; `is_text` is whether it is a text node.
abbrev pub is_element : NodeKind → Bool
is_element (kind.Element e) = true
is_element other = false

abbrev pub is_text : NodeKind → Bool
is_text (kind.Text text) = true
is_text other = false
