-- What each change of the builder does to the items that it shows.
use Rattle.std.proofs.Common.{◌≡◌, ℕ, zero, suc, ◌+◌, ◌-◌, ◌<◌, Bool, false, List, [], ◌∷◌, ◌++◌, length, map, set, get_or, take, refl, sym, ap, subst, ◌∙◌, arith, Err, append_assoc, string_bytes, Bor}
use Rattle.std.specs.List.{AllByRecursion}
use Rattle.std.proofs.Math.ListN.{get_or-map}
use Rattle.std.proofs.lemmas.Bool.{lt-leb}
use Rattle.std.proofs.lemmas.List.{map-append, length-map, map-set, same_from_push, get_or_at, take_all, take_more}
use Rattle.rox_grammar.specs.declared.fault.Fault.TheVariants as fault
use Rattle.rox_grammar.specs.Forest.{Forest, Nil, Cons, join, size}
use Rattle.rox_grammar.specs.Written.{Tag, Item, Element, Text, NamespaceDecl, merge, leaf, is_text}
use Rattle.rox_grammar.specs.Tree as tree
use Rattle.rox_grammar.specs.Tree.{Node, listed, node_in, scope_in, resolved}
use Rattle.rox_grammar.specs.State.{Open, root, inside, scope_of, nodes_so_far}
use Rattle.rox_reading.specs.State.{State}
use Rattle.rox_reading.specs.Machine.{counted}
use Rattle.rox_reading.proofs.Forests.{add, join-nil, size-join, merge-piece, add-text, add_clean, merge-item, clean-item}
use Rattle.rox_rows.specs.Rows.{RowView, row_view, preorder_rows, node, AttributeRow, attribute_rows, node_rows}
use Rattle.rox_builder.specs.OpenRows.{top, open_line, rows_to, so_far}
use Rattle.rox_builder.specs.PendingText.{text_of, waiting}
use Rattle.rox_names.specs.TagScopes.{lists_in}
use Rattle.rox_builder.specs.BuilderState.{OpenRow, opened, tag_row, open_lines, last_row, IsPending, with_rows, names_in, line_in, opened_in, IsRowWithin, Represents, RepresentsFlushed, IsNode}
use Rattle.rox_rows.specs.declared.row.NodeKind.{NodeKind}
use Rattle.rox_rows.specs.declared.row.NodeKind.TheVariants as kind
use Rattle.rox_rows.specs.declared.row.NodeData.{NodeData}
use Rattle.rox_names.specs.declared.tables.ElementTables.{ElementTables}
use Rattle.rox_builder.specs.declared.pending.Pending.{Pending}
use Rattle.rox_builder.specs.declared.pending.JoinedText.{JoinedText}
use Rattle.rox_values.specs.Values.{IsItsSlice}
use Rattle.std.specs.Prelude.{Option, None, is_some}
use Rattle.rox_builder.specs.declared.pending.Pending.TheVariants as pending
use Rattle.rox_names.specs.declared.open_element.OpenElement.{OpenElement}
use Rattle.rox_builder.specs.declared.builder.Builder.{Builder}
use Rattle.rox_builder.proofs.Rows.{length-so_far, nodes_are, so_far-join, so_far-open, so_far-closed, closed_line}
use Rattle.rox_grammar.proofs.Lists.{all_append}

-- ---- the open elements

last_row-push : (xs : List OpenRow) (y : OpenRow) → last_row (xs ++ y ∷ []) ≡ y.row
last_row-push [] y = refl
last_row-push (x ∷ []) y = refl
last_row-push (x ∷ z ∷ xs) y = last_row-push (z ∷ xs) y

pub last_row-open_lines : (o : Open) → last_row (open_lines o) ≡ top o
last_row-open_lines root = refl
last_row-open_lines (inside start tag before up) = last_row-push (open_lines up) _

parent_is : (t : ElementTables) (o : Open) (os : List OpenElement) → opened_in t os ≡ open_lines o → last_row (opened_in t os) ≡ top o
parent_is t o os h = ap last_row h ∙ last_row-open_lines o

-- ---- how many rows

pub rows_count : (t : ElementTables) (end : ℕ) (o : Open) (front : Forest Item) (rows : List NodeData) → map (line_in t) rows ≡ so_far end o front → length rows ≡ top o + 1 + size front
rows_count t end o front rows h = sym (length-map rows (line_in t)) ∙ ap length h ∙ length-so_far end o front

-- where nothing goes on
pub nothing_last : (b : Builder) (joined : JoinedText) (last : Forest Item) → b.pending ≡ pending.None → IsPending b.pending joined last → last ≡ Nil
nothing_last b joined last was h = subst (λ (p : Pending). IsPending p joined last) was h

pub rows_none : (end : ℕ) (o : Open) (done : Forest Item) (b : Builder) (h : Represents end o done b) → b.pending ≡ pending.None → map (line_in b.tables) (node_rows b.nodes) ≡ so_far end o h.front
rows_none end o done b h was = h.rows ∙ ap (λ (p : Pending). so_far end o (with_rows p h.front h.last)) was

pub merged_none : (end : ℕ) (o : Open) (done : Forest Item) (b : Builder) (h : Represents end o done b) → b.pending ≡ pending.None → merge done ≡ h.front
merged_none end o done b h was = h.merged ∙ ap (join h.front) (nothing_last b b.joined h.last was h.is_last) ∙ join-nil h.front

-- where the buffer has the text that may go on
pub rows_joined : (end : ℕ) (o : Open) (done : Forest Item) (b : Builder) (h : Represents end o done b) → b.pending ≡ pending.Joined
    → map (line_in b.tables) (node_rows b.nodes) ≡ so_far end o h.front
rows_joined end o done b h was = h.rows ∙ ap (λ (p : Pending). so_far end o (with_rows p h.front h.last)) was

pub joined_is : (end : ℕ) (o : Open) (done : Forest Item) (b : Builder) (h : Represents end o done b) → b.pending ≡ pending.Joined
    → (h.last ≡ leaf (Text b.joined.start b.joined.end (string_bytes b.joined.text) (is_some b.joined.slice))) × IsItsSlice b.joined.slice (string_bytes b.joined.text)
joined_is end o done b h was = subst (λ (p : Pending). IsPending p b.joined h.last) was h.is_last

pub merged_joined : (end : ℕ) (o : Open) (done : Forest Item) (b : Builder) (h : Represents end o done b) → b.pending ≡ pending.Joined
    → merge done ≡ join h.front (leaf (Text b.joined.start b.joined.end (string_bytes b.joined.text) (is_some b.joined.slice)))
merged_joined end o done b h was = h.merged ∙ ap (join h.front) (joined_is end o done b h was).0

-- where its row is written
pub rows_written : (end : ℕ) (o : Open) (done : Forest Item) (b : Builder) (h : Represents end o done b) → b.pending ≡ pending.Written
    → map (line_in b.tables) (node_rows b.nodes) ≡ so_far end o (merge done)
rows_written end o done b h was = h.rows ∙ ap (λ (p : Pending). so_far end o (with_rows p h.front h.last)) was ∙ ap (so_far end o) (sym h.merged)

abbrev pub IsPiece : Forest Item → Type 0
IsPiece last = (start : ℕ) × (end : ℕ) × (text : List ℕ) × (borrowed : Bool) × (last ≡ leaf (Text start end text borrowed))

pub written_is : (end : ℕ) (o : Open) (done : Forest Item) (b : Builder) (h : Represents end o done b) → b.pending ≡ pending.Written → IsPiece h.last
written_is end o done b h was = subst (λ (p : Pending). IsPending p b.joined h.last) was h.is_last

pub counted_err : (limit : ℕ) (s : State) → limit < nodes_so_far s.stack s.done → counted limit s ≡ Err fault.NodesLimitReached
counted_err limit s h = let k = lt-leb (nodes_so_far s.stack s.done) limit h in rw k refl

-- ---- one more row

leaf_line : (p at : ℕ) (scope : List NamespaceDecl) (i : Item)
    → preorder_rows p at (resolved scope (leaf i)) ≡ record { parent = p; subtree_end = at + 1; node = node_in (scope_in scope i) i } ∷ []
leaf_line p at scope i = let e : at + 1 + 0 ≡ at + 1 = omega arith in rw e refl

abbrev pub row_of : ElementTables → List NodeData → List OpenElement → ℕ → ℕ → NodeKind → NodeData
row_of t rows os s e k = record { start = s; end = e; parent = last_row (opened_in t os); subtree_end = length rows + 1; kind = k }

-- the row of an element that opens
abbrev pub row_open : ElementTables → ℕ → List OpenElement → ℕ → NodeKind → NodeData
row_open t subtree_end os s k = record { start = s; end = 0; parent = last_row (opened_in t os); subtree_end = subtree_end; kind = k }

row_shows : (t : ElementTables) (end : ℕ) (o : Open) (front : Forest Item) (i : Item) (rows : List NodeData) (os : List OpenElement) (s e : ℕ) (k : NodeKind)
    → map (line_in t) rows ≡ so_far end o front → opened_in t os ≡ open_lines o
    → node (attribute_rows t.attributes) (names_in t) (lists_in t) s e k ≡ node_in (scope_in (scope_of o) i) i
    → map (line_in t) (rows ++ row_of t rows os s e k ∷ []) ≡ so_far end o (join front (leaf i))
row_shows t end o front i rows os s e k h opens is =
    let r = row_of t rows os s e k in
    let row : line_in t r ≡ record { parent = top o; subtree_end = top o + 1 + size front + 1; node = node_in (scope_in (scope_of o) i) i } =
    rw (parent_is t o os opens, (rows_count t end o front rows h), is) refl in
    map-append (line_in t) rows (r ∷ []) ∙ ap (λ xs. xs ++ line_in t r ∷ []) h ∙ ap (λ x. so_far end o front ++ x ∷ []) row
    ∙ ap (λ xs. so_far end o front ++ xs) (sym (leaf_line (top o) (top o + 1 + size front) (scope_of o) i)) ∙ sym (so_far-join end o front (leaf i))

-- ---- the text that may go on

pub settled_none : (end : ℕ) (o : Open) (done : Forest Item) (b u : Builder) → Represents end o done b → b.pending ≡ pending.None → u.nodes ≡ b.nodes → u.tables ≡ b.tables → u.opened ≡ b.opened
    → u.pending ≡ pending.None → RepresentsFlushed end o done u
settled_none end o done b u h was nodes tables opens empty =
    record {
      rows = rw (nodes, tables) (rows_none end o done b h was ∙ ap (so_far end o) (sym (merged_none end o done b h was)));
      open_rows = rw (tables, opens) h.open_rows;
      within = rw (nodes, tables) h.within;
      empty = empty;
    }

pub settled_written : (end : ℕ) (o : Open) (done : Forest Item) (b u : Builder) → Represents end o done b → b.pending ≡ pending.Written → u.nodes ≡ b.nodes → u.tables ≡ b.tables → u.opened ≡ b.opened
    → u.pending ≡ pending.None → RepresentsFlushed end o done u
settled_written end o done b u h was nodes tables opens empty =
    record {
      rows = rw (nodes, tables) (rows_written end o done b h was);
      open_rows = rw (tables, opens) h.open_rows;
      within = rw (nodes, tables) h.within;
      empty = empty;
    }

pub settled_joined : (end : ℕ) (o : Open) (done : Forest Item) (b u : Builder) (k : NodeKind) → Represents end o done b
    → b.pending ≡ pending.Joined
    → node (attribute_rows b.tables.attributes) (names_in b.tables) (lists_in b.tables) b.joined.start b.joined.end k
    ≡ node_in (scope_of o) (Text b.joined.start b.joined.end (string_bytes b.joined.text) (is_some b.joined.slice))
    → IsRowWithin b.tables k → (node_rows u.nodes) ≡ (node_rows b.nodes) ++ row_of b.tables (node_rows b.nodes) b.opened.items b.joined.start b.joined.end k ∷ [] → u.tables ≡ b.tables → u.opened ≡ b.opened
    → u.pending ≡ pending.None → RepresentsFlushed end o done u
settled_joined end o done b u k h was is within nodes tables opens empty =
    let s = b.joined.start in
    let e = b.joined.end in
    let i : Item = Text s e (string_bytes b.joined.text) (is_some b.joined.slice) in
    let r = row_shows b.tables end o h.front i (node_rows b.nodes) b.opened.items s e k (rows_joined end o done b h was) h.open_rows is in
    let w = all_append (λ (r : NodeData). IsRowWithin b.tables r.kind) (node_rows b.nodes) (row_of b.tables (node_rows b.nodes) b.opened.items s e k ∷ []) h.within (within, tt) in
    record {
      rows = rw (nodes, tables) (r ∙ ap (so_far end o) (sym (merged_joined end o done b h was)));
      open_rows = rw (tables, opens) h.open_rows;
      within = rw (nodes, tables) w;
      empty = empty;
    }

-- where none waits for its row
pub settled : (end : ℕ) (o : Open) (done : Forest Item) (b u : Builder) → Represents end o done b → waiting b.pending ≡ 0 → u.nodes ≡ b.nodes → u.tables ≡ b.tables → u.opened ≡ b.opened
    → u.pending ≡ pending.None → RepresentsFlushed end o done u
settled end o done b u h none nodes tables opens empty = by_cases b.pending refl
  where
    by_cases : (p : Pending) → p ≡ b.pending → RepresentsFlushed end o done u
    by_cases pending.None e = settled_none end o done b u h (sym e) nodes tables opens empty
    by_cases pending.Written e = settled_written end o done b u h (sym e) nodes tables opens empty
    by_cases pending.Joined e = absurd (let w : 1 ≡ 0 = ap waiting e ∙ none in omega arith)

-- ---- items

pub leaf_shows : (end : ℕ) (o : Open) (done : Forest Item) (b u : Builder) (s e : ℕ) (k : NodeKind) (i : Item) → RepresentsFlushed end o done b → IsNode b.tables (scope_of o) s e k i
    → (node_rows u.nodes) ≡ (node_rows b.nodes) ++ row_of b.tables (node_rows b.nodes) b.opened.items s e k ∷ [] → u.tables ≡ b.tables → u.opened ≡ b.opened → u.pending ≡ b.pending
    → Represents end o (join done (leaf i)) u
leaf_shows end o done b u s e k i h is nodes tables opens same =
    let r = row_shows b.tables end o (merge done) i (node_rows b.nodes) b.opened.items s e k h.rows h.open_rows is.is in
    let w = all_append (λ (r : NodeData). IsRowWithin b.tables r.kind) (node_rows b.nodes) (row_of b.tables (node_rows b.nodes) b.opened.items s e k ∷ []) h.within (is.within, tt) in
    let z : u.pending ≡ pending.None = same ∙ h.empty in
    record {
      front = join (merge done) (leaf i);
      last = Nil;
      merged = merge-item done i Nil is.no_text ∙ sym (join-nil (join (merge done) (leaf i)));
      is_last = rw z refl;
      clean = clean-item (merge done) i Nil is.no_text;
      rows = rw (z, nodes, tables) r;
      open_rows = rw (tables, opens) h.open_rows;
      within = rw (nodes, tables) w;
    }

-- one node more
pub leaf_count : (o : Open) (done : Forest Item) (i : Item) → is_text i ≡ false → nodes_so_far o (join done (leaf i)) ≡ nodes_so_far o done + 1
leaf_count o done i no_text =
    let m = ap size (merge-item done i Nil no_text) ∙ size-join (merge done) (leaf i) in
    omega (arith, m, nodes_are o done, nodes_are o (join done (leaf i)))

pub settled_count : (end : ℕ) (o : Open) (done : Forest Item) (b : Builder) → RepresentsFlushed end o done b → length (node_rows b.nodes) ≡ nodes_so_far o done
settled_count end o done b h = omega (arith, rows_count b.tables end o (merge done) (node_rows b.nodes) h.rows, nodes_are o done)

-- ---- text

-- the first piece of a text, whose row is written
pub piece_first : (end : ℕ) (o : Open) (done : Forest Item) (b u : Builder) (s e : ℕ) (v : List ℕ) (p : Bool) (k : NodeKind) → Represents end o done b → b.pending ≡ pending.None
    → node (attribute_rows b.tables.attributes) (names_in b.tables) (lists_in b.tables) s e k ≡ node_in (scope_of o) (Text s e v p) → IsRowWithin b.tables k
    → (node_rows u.nodes) ≡ (node_rows b.nodes) ++ row_of b.tables (node_rows b.nodes) b.opened.items s e k ∷ [] → u.tables ≡ b.tables → u.opened ≡ b.opened → u.pending ≡ pending.Written
    → Represents end o (join done (leaf (Text s e v p))) u
piece_first end o done b u s e v p k h was is within nodes tables opens waits =
    let i : Item = Text s e v p in
    let r = row_shows b.tables end o h.front i (node_rows b.nodes) b.opened.items s e k (rows_none end o done b h was) h.open_rows is in
    let w = all_append (λ (r : NodeData). IsRowWithin b.tables r.kind) (node_rows b.nodes) (row_of b.tables (node_rows b.nodes) b.opened.items s e k ∷ []) h.within (within, tt) in
    record {
      front = h.front;
      last = leaf i;
      merged = merge-piece done s e v p ∙ ap (add s e v p) (merged_none end o done b h was) ∙ add_clean h.front s e v p h.clean;
      is_last = rw waits (s, e, v, p, refl);
      clean = h.clean;
      rows = rw (waits, nodes, tables) r;
      open_rows = rw (tables, opens) h.open_rows;
      within = rw (nodes, tables) w;
    }

-- the first piece of a text that waits
pub waiting_first : (end : ℕ) (o : Open) (done : Forest Item) (b u : Builder) (s e : ℕ) (v : List ℕ) (slice : Option (Bor (List ℕ))) → Represents end o done b → b.pending ≡ pending.None
    → u.nodes ≡ b.nodes → u.tables ≡ b.tables → u.opened ≡ b.opened → u.pending ≡ pending.Joined
    → u.joined.start ≡ s → u.joined.end ≡ e → string_bytes u.joined.text ≡ v → u.joined.slice ≡ slice → IsItsSlice slice v → Represents end o (join done (leaf (Text s e v (is_some slice)))) u
waiting_first end o done b u s e v slice h was nodes tables opens waits from until joined sliced its =
    let p = is_some slice in
    record {
      front = h.front;
      last = leaf (Text s e v p);
      merged = merge-piece done s e v p ∙ ap (add s e v p) (merged_none end o done b h was) ∙ add_clean h.front s e v p h.clean;
      is_last = rw (waits, from, until, joined, sliced) (refl, its);
      clean = h.clean;
      rows = rw (waits, nodes, tables) (rows_none end o done b h was);
      open_rows = rw (tables, opens) h.open_rows;
      within = rw (nodes, tables) h.within;
    }

-- one more piece of what is in the buffer
pub piece_more : (end : ℕ) (o : Open) (done : Forest Item) (b u : Builder) (s e : ℕ) (v : List ℕ) (p : Bool) → Represents end o done b
    → b.pending ≡ pending.Joined → u.nodes ≡ b.nodes → u.tables ≡ b.tables → u.opened ≡ b.opened
    → u.pending ≡ pending.Joined → u.joined.start ≡ b.joined.start → u.joined.end ≡ b.joined.end → string_bytes u.joined.text ≡ string_bytes b.joined.text ++ v
    → u.joined.slice ≡ None → Represents end o (join done (leaf (Text s e v p))) u
piece_more end o done b u s e v p h was nodes tables opens waits from until joined own =
    let x = b.joined.start in
    let y = b.joined.end in
    let w = string_bytes b.joined.text in
    record {
      front = h.front;
      last = leaf (Text x y (w ++ v) false);
      merged = merge-piece done s e v p ∙ ap (add s e v p) (merged_joined end o done b h was) ∙ add-text h.front x y w (is_some b.joined.slice) s e v p;
      is_last = rw (waits, from, until, joined, own) (refl, tt);
      clean = h.clean;
      rows = rw (waits, nodes, tables) (rows_joined end o done b h was);
      open_rows = rw (tables, opens) h.open_rows;
      within = rw (nodes, tables) h.within;
    }

-- the text of a row that shows a text
text_in : (as' : List AttributeRow) (namespaces : List NamespaceDecl) (ls : List (List NamespaceDecl)) (s e x y : ℕ) (w : List ℕ) (q : Bool) (k : NodeKind) → node as' namespaces ls s e k ≡ tree.Text x y w q
    → (s ≡ x) × (e ≡ y) × (text_of k ≡ w)
text_in as' namespaces ls s e x y w q kind.Root h = cc h
text_in as' namespaces ls s e x y w q (kind.Element d) h = cc h
text_in as' namespaces ls s e x y w q (kind.Text v) h = (cc h, cc h, cc h)
text_in as' namespaces ls s e x y w q (kind.Comment t) h = cc h
text_in as' namespaces ls s e x y w q (kind.PI p) h = cc h

-- the last row, where it shows a text, and the rows before it
pub last_text : (t : ElementTables) (end : ℕ) (o : Open) (front : Forest Item) (rows : List NodeData) (last : NodeData) (x y : ℕ) (w : List ℕ) (q : Bool)
    → map (line_in t) (rows ++ last ∷ []) ≡ so_far end o (join front (leaf (Text x y w q)))
    → (map (line_in t) rows ≡ so_far end o front) × (last.start ≡ x) × (last.end ≡ y) × (text_of last.kind ≡ w)
last_text t end o front rows last x y w q h =
    let i : Item = Text x y w q in
    let line = preorder_rows (top o) (top o + 1 + size front) (resolved (scope_of o) (leaf i)) in
    let is : map (line_in t) rows ++ line_in t last ∷ [] ≡ so_far end o front ++ record { parent = top o; subtree_end = top o + 1 + size front + 1; node = node_in (scope_of o) i } ∷ [] =
    sym (map-append (line_in t) rows (last ∷ [])) ∙ h ∙ so_far-join end o front (leaf i)
    ∙ ap (λ xs. so_far end o front ++ xs) (leaf_line (top o) (top o + 1 + size front) (scope_of o) i) in
    let both = same_from_push (map (line_in t) rows) (so_far end o front) (line_in t last) _ is in
    let text = text_in (attribute_rows t.attributes) (names_in t) (lists_in t) last.start last.end x y w q last.kind (ap (λ (l : RowView). l.node) both.1) in
    (both.0, text.0, text.1, text.2)

all_front : {X : Type 0} (P : X → Type 0) (xs : List X) (x : X) → AllByRecursion P (xs ++ x ∷ []) → AllByRecursion P xs
all_front P [] x h = tt
all_front P (y ∷ ys) x (p, h) = (p, all_front P ys x h)

-- a piece that joins a text whose row is written: it is taken back
pub slice_more : (end : ℕ) (o : Open) (done : Forest Item) (b u : Builder) (last : NodeData) (s e : ℕ) (v : List ℕ) (p : Bool) → Represents end o done b
    → b.pending ≡ pending.Written → (node_rows b.nodes) ≡ (node_rows u.nodes) ++ last ∷ [] → u.tables ≡ b.tables → u.opened ≡ b.opened
    → u.pending ≡ pending.Joined → u.joined.start ≡ last.start → u.joined.end ≡ last.end → string_bytes u.joined.text ≡ text_of last.kind ++ v
    → u.joined.slice ≡ None → Represents end o (join done (leaf (Text s e v p))) u
slice_more end o done b u last s e v p h was nodes tables opens waits from until joined own =
    let piece = written_is end o done b h was in
    let x = piece.0 in let y = piece.1 in let w = piece.2 in let q = piece.3 in
    let m : merge done ≡ join h.front (leaf (Text x y w q)) = h.merged ∙ ap (join h.front) piece.4 in
    let all : map (line_in b.tables) ((node_rows u.nodes) ++ last ∷ []) ≡ so_far end o (join h.front (leaf (Text x y w q))) =
    ap (map (line_in b.tables)) (sym nodes) ∙ rows_written end o done b h was ∙ ap (so_far end o) m in
    let text = last_text b.tables end o h.front (node_rows u.nodes) last x y w q all in
    let kept : AllByRecursion (λ (r : NodeData). IsRowWithin b.tables r.kind) ((node_rows u.nodes) ++ last ∷ []) = subst (AllByRecursion (λ (r : NodeData). IsRowWithin b.tables r.kind)) nodes h.within in
    let all_within = all_front (λ (r : NodeData). IsRowWithin b.tables r.kind) (node_rows u.nodes) last kept in
    record {
      front = h.front;
      last = leaf (Text x y (w ++ v) false);
      merged = merge-piece done s e v p ∙ ap (add s e v p) m ∙ add-text h.front x y w q s e v p;
      is_last = rw (waits, from, until, text.1, text.2, (joined ∙ ap (λ (l : List ℕ). l ++ v) text.3), own) (refl, tt);
      clean = h.clean;
      rows = rw (waits, tables) text.0;
      open_rows = rw (tables, opens) h.open_rows;
      within = rw tables all_within;
    }

pub first_count : (end : ℕ) (o : Open) (done : Forest Item) (b : Builder) (s e : ℕ) (v : List ℕ) (p : Bool) → Represents end o done b → b.pending ≡ pending.None
    → nodes_so_far o (join done (leaf (Text s e v p))) ≡ length (node_rows b.nodes) + 1
first_count end o done b s e v p h was =
    let k = ap size (merge-piece done s e v p ∙ ap (add s e v p) (merged_none end o done b h was) ∙ add_clean h.front s e v p h.clean) ∙ size-join h.front (leaf (Text s e v p)) in
    omega (arith, k, nodes_are o (join done (leaf (Text s e v p))), rows_count b.tables end o h.front (node_rows b.nodes) (rows_none end o done b h was))

pub more_count : (end : ℕ) (o : Open) (done : Forest Item) (b : Builder) (s e : ℕ) (v : List ℕ) (p : Bool) → Represents end o done b
    → b.pending ≡ pending.Joined → nodes_so_far o (join done (leaf (Text s e v p))) ≡ length (node_rows b.nodes) + 1
more_count end o done b s e v p h was =
    let x = b.joined.start in
    let y = b.joined.end in
    let w = string_bytes b.joined.text in
    let m = merged_joined end o done b h was in
    let k = ap size (merge-piece done s e v p ∙ ap (add s e v p) m ∙ add-text h.front x y w (is_some b.joined.slice) s e v p) ∙ size-join h.front (leaf (Text x y (w ++ v) false)) in
    omega (arith, k, nodes_are o (join done (leaf (Text s e v p))), rows_count b.tables end o h.front (node_rows b.nodes) (rows_joined end o done b h was))

pub written_count : (end : ℕ) (o : Open) (done : Forest Item) (b : Builder) (s e : ℕ) (v : List ℕ) (p : Bool) → Represents end o done b
    → b.pending ≡ pending.Written → nodes_so_far o (join done (leaf (Text s e v p))) ≡ length (node_rows b.nodes)
written_count end o done b s e v p h was =
    let piece = written_is end o done b h was in
    let x = piece.0 in let y = piece.1 in let w = piece.2 in let q = piece.3 in
    let m : merge done ≡ join h.front (leaf (Text x y w q)) = h.merged ∙ ap (join h.front) piece.4 in
    let k = ap size (merge-piece done s e v p ∙ ap (add s e v p) m ∙ add-text h.front x y w q s e v p) ∙ size-join h.front (leaf (Text x y (w ++ v) false)) in
    let n = ap size m ∙ size-join h.front (leaf (Text x y w q)) in
    omega (arith, k, n, nodes_are o (join done (leaf (Text s e v p))), rows_count b.tables end o (merge done) (node_rows b.nodes) (rows_written end o done b h was))

-- ---- elements

pub open_shows : (end : ℕ) (o : Open) (done : Forest Item) (b u : Builder) (s : ℕ) (k : NodeKind) (t : Tag) (x : OpenElement) → RepresentsFlushed end o done b
    → node (attribute_rows b.tables.attributes) (names_in b.tables) (lists_in b.tables) s 0 k ≡ node_in (listed (scope_of o) t.declarations) (Element s 0 t) → IsRowWithin b.tables k
    → x.row ≡ length (node_rows b.nodes) → opened (lists_in b.tables) x ≡ tag_row x.row s t (listed (scope_of o) t.declarations)
    → (node_rows u.nodes) ≡ (node_rows b.nodes) ++ row_open b.tables 0 b.opened.items s k ∷ [] → u.tables ≡ b.tables → u.opened.items ≡ b.opened.items ++ x ∷ [] → u.pending ≡ b.pending
    → Represents end (inside s t done o) Nil u
open_shows end o done b u s k t x h is within place view nodes tables opens same =
    let r = row_open b.tables 0 b.opened.items s k in
    let row : line_in b.tables r ≡ open_line s t o = rw (parent_is b.tables o b.opened.items h.open_rows, is) refl in
    let n = rows_count b.tables end o (merge done) (node_rows b.nodes) h.rows in
    let w = all_append (λ (r : NodeData). IsRowWithin b.tables r.kind) (node_rows b.nodes) (r ∷ []) h.within (within, tt) in
    let z : u.pending ≡ pending.None = same ∙ h.empty in
    let g = map-append (line_in b.tables) (node_rows b.nodes) (r ∷ []) ∙ ap (λ xs. xs ++ line_in b.tables r ∷ []) h.rows ∙ ap (λ x. so_far end o (merge done) ++ x ∷ []) row ∙ sym (so_far-open end o s t done) in
    let v : opened (lists_in b.tables) x ≡ tag_row (top o + 1 + size (merge done)) s t (listed (scope_of o) t.declarations) =
    view ∙ ap (λ (n : ℕ). tag_row n s t (listed (scope_of o) t.declarations)) (place ∙ n) in
    let os = map-append (opened (lists_in b.tables)) b.opened.items (x ∷ []) ∙ ap (λ xs. xs ++ opened (lists_in b.tables) x ∷ []) h.open_rows
    ∙ ap (λ l. open_lines o ++ l ∷ []) v in
    record {
      front = Nil;
      last = Nil;
      merged = refl;
      is_last = rw z refl;
      clean = tt;
      rows = rw (z, nodes, tables) g;
      open_rows = rw (tables, opens) os;
      within = rw (nodes, tables) w;
    }

-- one node more
pub open_count : (o : Open) (s : ℕ) (t : Tag) (done : Forest Item) → nodes_so_far (inside s t done o) Nil ≡ nodes_so_far o done + 1
open_count o s t done = omega arith

pub last_split : (os : List OpenElement) (o : OpenElement) → 0 < length os → o ≡ get_or os (length os - 1) o → os ≡ take (length os - 1) os ++ o ∷ []
last_split os o some is =
    let n = length os - 1 in
    sym (take_all (n + 1) os (omega arith)) ∙ take_more os n o (omega arith) ∙ ap (λ x. take n os ++ x ∷ []) (sym is)

pub split_at : (os : List OpenElement) (n : ℕ) (o : OpenElement) → n ≡ length os → 0 < n → o ≡ get_or os (n - 1) o → os ≡ take (n - 1) os ++ o ∷ []
split_at os n o count some is =
    subst (λ (m : ℕ). os ≡ take (m - 1) os ++ o ∷ []) (sym count) (last_split os o (omega (arith, count, some)) (subst (λ (m : ℕ). o ≡ get_or os (m - 1) o) count is))

-- the row of the innermost
pub innermost_row : (t : ElementTables) (os outer : List OpenElement) (o : OpenElement) → os ≡ outer ++ o ∷ [] → last_row (opened_in t os) ≡ o.row
innermost_row t os outer o split =
    ap (λ (xs : List OpenElement). last_row (opened_in t xs)) split ∙ ap last_row (map-append (opened (lists_in t)) outer (o ∷ [])) ∙ last_row-push (opened_in t outer) (opened (lists_in t) o)

pub some_row : (rows : List NodeData) → 0 < length rows → NodeData
some_row [] h = absurd (omega arith)
some_row (r ∷ rows) h = r

-- the row of an element, closed
pub within_set : (t : ElementTables) (rows : List NodeData) (i : ℕ) (r : NodeData) → AllByRecursion (λ (r : NodeData). IsRowWithin t r.kind) rows → IsRowWithin t r.kind
    → AllByRecursion (λ (r : NodeData). IsRowWithin t r.kind) (set rows i r)
within_set t [] i r h k = tt
within_set t (x ∷ xs) zero r (p, h) k = (k, h)
within_set t (x ∷ xs) (suc i) r (p, h) k = (p, within_set t xs i r h k)

pub within_at : (t : ElementTables) (rows : List NodeData) (i : ℕ) (d : NodeData) → AllByRecursion (λ (r : NodeData). IsRowWithin t r.kind) rows → IsRowWithin t d.kind → IsRowWithin t (get_or rows i d).kind
within_at t [] i d h k = k
within_at t (x ∷ xs) zero d (p, h) k = p
within_at t (x ∷ xs) (suc i) d (p, h) k = within_at t xs i d h k

pub first_within : (t : ElementTables) (rows : List NodeData) (h : 0 < length rows) → AllByRecursion (λ (r : NodeData). IsRowWithin t r.kind) rows → IsRowWithin t (some_row rows h).kind
unfolding some_row
first_within t [] h k = absurd (omega arith)
first_within t (r ∷ rows) h (p, k) = p

-- a node with another end
with_end : ℕ → Node → Node
with_end e (tree.Root x) = tree.Root e
with_end e (tree.Element s x n l ds as') = tree.Element s e n l ds as'
with_end e (tree.Text s x v b) = tree.Text s e v b
with_end e (tree.Comment s x t) = tree.Comment s e t
with_end e (tree.PI s x t v) = tree.PI s e t v

node_end : (as' : List AttributeRow) (namespaces : List NamespaceDecl) (ls : List (List NamespaceDecl)) (s x e : ℕ) (k : NodeKind) → node as' namespaces ls s e k ≡ with_end e (node as' namespaces ls s x k)
unfolding with_end
node_end as' namespaces ls s x e kind.Root = refl
node_end as' namespaces ls s x e (kind.Element d) = refl
node_end as' namespaces ls s x e (kind.Text v) = refl
node_end as' namespaces ls s x e (kind.Comment t) = refl
node_end as' namespaces ls s x e (kind.PI p) = refl

so_far-inside : (end : ℕ) (up : Open) (start : ℕ) (tag : Tag) (before front : Forest Item)
    → so_far end (inside start tag before up) front
    ≡ so_far end up (merge before) ++ open_line start tag up ∷ preorder_rows (top (inside start tag before up)) (top (inside start tag before up) + 1) (resolved (listed (scope_of up) tag.declarations) front)
so_far-inside end up start tag before front =
    let inner = preorder_rows (top (inside start tag before up)) (top (inside start tag before up) + 1) (resolved (listed (scope_of up) tag.declarations) front) in
    let below = preorder_rows (top up) (top up + 1) (resolved (scope_of up) (merge before)) in
    append_assoc (rows_to end up) (below ++ open_line start tag up ∷ []) inner
    ∙ ap (λ xs. rows_to end up ++ xs) (append_assoc below (open_line start tag up ∷ []) inner)
    ∙ sym (append_assoc (rows_to end up) below (open_line start tag up ∷ inner))

-- the row of the innermost open element
innermost_line : (t : ElementTables) (end start : ℕ) (tag : Tag) (before : Forest Item) (up : Open) (front : Forest Item) (rows : List NodeData) (d : NodeData)
    → map (line_in t) rows ≡ so_far end (inside start tag before up) front → line_in t (get_or rows (top (inside start tag before up)) d) ≡ open_line start tag up
innermost_line t end start tag before up front rows d h =
    let k = top (inside start tag before up) in
    let rest = preorder_rows k (k + 1) (resolved (listed (scope_of up) tag.declarations) front) in
    sym (get_or-map (line_in t) rows k d) ∙ ap (λ xs. get_or xs k (line_in t d)) (h ∙ so_far-inside end up start tag before front)
    ∙ get_or_at (so_far end up (merge before)) (open_line start tag up) rest (line_in t d) k (length-so_far end up (merge before))

-- where it begins
element_starts : (as' : List AttributeRow) (namespaces : List NamespaceDecl) (ls : List (List NamespaceDecl)) (s x start : ℕ) (scope : List NamespaceDecl) (tag : Tag) (k : NodeKind)
    → node as' namespaces ls s x k ≡ node_in scope (Element start 0 tag) → s ≡ start
element_starts as' namespaces ls s x start scope tag kind.Root h = absurd (cc h)
element_starts as' namespaces ls s x start scope tag (kind.Element d) h = cc h
element_starts as' namespaces ls s x start scope tag (kind.Text v) h = absurd (cc h)
element_starts as' namespaces ls s x start scope tag (kind.Comment t) h = absurd (cc h)
element_starts as' namespaces ls s x start scope tag (kind.PI p) h = absurd (cc h)

pub innermost_start : (t : ElementTables) (end start : ℕ) (tag : Tag) (before : Forest Item) (up : Open) (front : Forest Item) (rows : List NodeData) (d : NodeData)
    → map (line_in t) rows ≡ so_far end (inside start tag before up) front → (get_or rows (top (inside start tag before up)) d).start ≡ start
innermost_start t end start tag before up front rows d h =
    let r = get_or rows (top (inside start tag before up)) d in
    element_starts (attribute_rows t.attributes) (names_in t) (lists_in t) r.start r.end start (listed (scope_of up) tag.declarations) tag r.kind
    (ap (λ (l : RowView). l.node) (innermost_line t end start tag before up front rows d h))

closed_is : (as' : List AttributeRow) (namespaces : List NamespaceDecl) (ls : List (List NamespaceDecl)) (r : NodeData) (s e subtree_end : ℕ) (tag : Tag) (up : Open) → row_view as' namespaces ls r ≡ open_line s tag up
    → row_view as' namespaces ls (record r { end = e; subtree_end = subtree_end }) ≡ closed_line s e tag up subtree_end
unfolding with_end
closed_is as' namespaces ls r s e subtree_end tag up h =
    let n : node as' namespaces ls r.start e r.kind ≡ with_end e (node as' namespaces ls r.start r.end r.kind) = node_end as' namespaces ls r.start r.end e r.kind in
    ap (λ (n : Node). let l : RowView = record { parent = r.parent; subtree_end = subtree_end; node = n } in l) n
    ∙ ap (λ (l : RowView). record l { subtree_end = subtree_end; node = with_end e l.node }) h

close_with : (end s e : ℕ) (t : Tag) (before : Forest Item) (up : Open) (done : Forest Item) (b u : Builder) (outer : List OpenElement) (x : OpenElement) (d : NodeData)
    → RepresentsFlushed end (inside s t before up) done b → b.opened.items ≡ outer ++ x ∷ [] → u.opened.items ≡ outer → u.tables ≡ b.tables → u.pending ≡ b.pending
    → (node_rows u.nodes) ≡ set (node_rows b.nodes) x.row (record (get_or (node_rows b.nodes) x.row d) { end = e; subtree_end = length (node_rows b.nodes) }) → IsRowWithin b.tables d.kind
    → Represents end up (join before (Cons (Element s e t) (merge done) Nil)) u
close_with end s e t before up done b u outer x d h was opens tables same change fine =
    let tt' = b.tables in
    let view = opened (lists_in tt') in
    let k = top (inside s t before up) in
    let l : OpenRow = tag_row k s t (listed (scope_of up) t.declarations) in
    let both = same_from_push (map view outer) (open_lines up) (view x) l (sym (map-append view outer (x ∷ [])) ∙ ap (map view) (sym was) ∙ h.open_rows) in
    let row : x.row ≡ k = ap (λ (x : OpenRow). x.row) both.1 in
    let n = rows_count tt' end (inside s t before up) (merge done) (node_rows b.nodes) h.rows in
    let found : line_in tt' (get_or (node_rows b.nodes) k d) ≡ open_line s t up = innermost_line tt' end s t before up (merge done) (node_rows b.nodes) d h.rows in
    let new : NodeData = record (get_or (node_rows b.nodes) k d) { end = e; subtree_end = length (node_rows b.nodes) } in
    let is_closed : line_in tt' new ≡ closed_line s e t up (k + 1 + size (merge done)) =
    closed_is (attribute_rows tt'.attributes) (names_in tt') (lists_in tt') (get_or (node_rows b.nodes) k d) s e (length (node_rows b.nodes)) t up found ∙ ap (closed_line s e t up) n in
    let one = Cons (Element s e t) (merge done) Nil in
    let z : u.pending ≡ pending.None = same ∙ h.empty in
    let set_is : (node_rows u.nodes) ≡ set (node_rows b.nodes) k new = subst (λ (i : ℕ). (node_rows u.nodes) ≡ set (node_rows b.nodes) i (record (get_or (node_rows b.nodes) i d) { end = e; subtree_end = length (node_rows b.nodes) })) row change in
    let g = map-set (line_in tt') (node_rows b.nodes) k new ∙ ap (λ xs. set xs k (line_in tt' new)) h.rows ∙ ap (λ y. set (so_far end (inside s t before up) (merge done)) k y) is_closed
    ∙ sym (so_far-closed end up s e t before (merge done)) in
    let w = within_set tt' (node_rows b.nodes) k new h.within (within_at tt' (node_rows b.nodes) k d h.within fine) in
    record {
      front = join (merge before) one;
      last = Nil;
      merged = merge-item before (Element s e t) (merge done) refl ∙ sym (join-nil (join (merge before) one));
      is_last = rw z refl;
      clean = clean-item (merge before) (Element s e t) (merge done) refl;
      rows = rw (z, set_is, tables) g;
      open_rows = rw (opens, tables) both.0;
      within = rw (set_is, tables) w;
    }

pub close_shows : (end s e : ℕ) (t : Tag) (before : Forest Item) (up : Open) (done : Forest Item) (b u : Builder) (outer : List OpenElement) (x : OpenElement)
    → RepresentsFlushed end (inside s t before up) done b → b.opened.items ≡ outer ++ x ∷ [] → u.opened.items ≡ outer → u.tables ≡ b.tables → u.pending ≡ b.pending
    → ((d : NodeData) → (node_rows u.nodes) ≡ set (node_rows b.nodes) x.row (record (get_or (node_rows b.nodes) x.row d) { end = e; subtree_end = length (node_rows b.nodes) }))
    → Represents end up (join before (Cons (Element s e t) (merge done) Nil)) u
close_shows end s e t before up done b u outer x h was opens tables same change =
    let n = rows_count b.tables end (inside s t before up) (merge done) (node_rows b.nodes) h.rows in
    let some : 0 < length (node_rows b.nodes) = omega arith in
    let d = some_row (node_rows b.nodes) some in
    close_with end s e t before up done b u outer x d h was opens tables same (change d) (first_within b.tables (node_rows b.nodes) some h.within)
