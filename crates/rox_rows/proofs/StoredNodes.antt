-- The rows of nodes as their table stores them.
use Rattle.std.specs.declared.mem.ManuallyDrop.{ManuallyDrop}
use Rattle.rox_storage.specs.declared.storage.StringStorage.{StringStorage}
use Rattle.std.proofs.Common.{◌≡◌, ℕ, zero, suc, ◌+◌, ◌^◌, ◌<◌, ◌≤◌, ◌==◌, ◌&&◌, if◌then◌else◌, Bool, true, false, List, [], ◌∷◌, ◌++◌, length, take, set, get_or, vec_len, length-append, refl, sym, ap, ◌∙◌, arith, Bor}
use Rattle.std.proofs.lemmas.List.Folds.{list_all-append}
use Rattle.std.proofs.lemmas.Bool.{and_parts}
use Rattle.rox_rows.specs.declared.row.PI.{PI}
use Rattle.rox_rows.specs.declared.row.NodeKind.{NodeKind}
use Rattle.rox_rows.specs.declared.row.NodeKind.TheVariants as kind
use Rattle.rox_rows.specs.declared.row.NodeData.{NodeData}
use Rattle.rox_rows.specs.declared.stored_node.StoredKind.{StoredKind}
use Rattle.rox_rows.specs.declared.stored_node.StoredKind.TheVariants as stored
use Rattle.rox_rows.specs.declared.stored_node.StoredNode.{StoredNode}
use Rattle.rox_rows.specs.declared.stored_node.HighPlaces.{HighPlaces}
use Rattle.rox_rows.specs.declared.node_table.NodeTable.{NodeTable}
use Rattle.rox_rows.specs.declared.stored_node.KindRef.{KindRef}
use Rattle.rox_rows.specs.declared.stored_node.KindRef.TheVariants as lent
use Rattle.rox_rows.specs.declared.row.ElementData.{ElementData}
use Rattle.rox_rows.specs.StoredNodes.{whole_place, instruction_at, whole_kind, whole_row, no_high, high_at, whole_rows, is_kind_within, are_within, kind_of, is_element, is_text, owns, previous, owns_text, IsChainedTo, is_linked, last_with, is_chain}
use Rattle.rox_rows.specs.Rows.{node_rows}

-- there are as many
pub length-whole : (pis : List PI) (high : List HighPlaces) (rows : List StoredNode) → length (whole_rows pis high rows) ≡ length rows
length-whole pis high [] = refl
length-whole pis [] (r ∷ rs) = ap suc (length-whole pis [] rs)
length-whole pis (h ∷ hs) (r ∷ rs) = ap suc (length-whole pis hs rs)

-- one more, without upper halves and with them
pub whole-push : (pis : List PI) (high : List HighPlaces) (rows : List StoredNode) (r : StoredNode) → length high ≤ length rows
    → whole_rows pis high (rows ++ r ∷ []) ≡ whole_rows pis high rows ++ whole_row pis no_high r ∷ []
whole-push pis [] [] r l = refl
whole-push pis (h ∷ hs) [] r l = absurd (omega arith)
whole-push pis [] (x ∷ rows) r l = ap (λ (xs : List NodeData). whole_row pis no_high x ∷ xs) (whole-push pis [] rows r (omega arith))
whole-push pis (h ∷ hs) (x ∷ rows) r l = ap (λ (xs : List NodeData). whole_row pis h x ∷ xs) (whole-push pis hs rows r (omega arith))

pub whole-push_high : (pis : List PI) (high : List HighPlaces) (rows : List StoredNode) (h : HighPlaces) (r : StoredNode) → length high ≡ length rows
    → whole_rows pis (high ++ h ∷ []) (rows ++ r ∷ []) ≡ whole_rows pis high rows ++ whole_row pis h r ∷ []
whole-push_high pis [] [] h r l = refl
whole-push_high pis (y ∷ ys) [] h r l = absurd (omega arith)
whole-push_high pis [] (x ∷ rows) h r l = absurd (omega arith)
whole-push_high pis (y ∷ ys) (x ∷ rows) h r l = ap (λ (xs : List NodeData). whole_row pis y x ∷ xs) (whole-push_high pis ys rows h r (omega arith))

-- upper halves of 0 are none
pub whole-fill : (pis : List PI) (high : List HighPlaces) (rows : List StoredNode) → whole_rows pis (high ++ no_high ∷ []) rows ≡ whole_rows pis high rows
whole-fill pis [] [] = refl
whole-fill pis [] (x ∷ rows) = refl
whole-fill pis (h ∷ hs) [] = refl
whole-fill pis (h ∷ hs) (x ∷ rows) = ap (λ (xs : List NodeData). whole_row pis h x ∷ xs) (whole-fill pis hs rows)

-- the one at a place
pub whole-at : (pis : List PI) (high : List HighPlaces) (rows : List StoredNode) (i : ℕ) (r : StoredNode) (d : NodeData) → i < length rows
    → whole_row pis (high_at high i) (get_or rows i r) ≡ get_or (whole_rows pis high rows) i d
whole-at pis high [] i r d l = absurd (omega arith)
whole-at pis [] (x ∷ rows) zero r d l = refl
whole-at pis [] (x ∷ rows) (suc i) r d l = whole-at pis [] rows i r d (omega arith)
whole-at pis (h ∷ hs) (x ∷ rows) zero r d l = refl
whole-at pis (h ∷ hs) (x ∷ rows) (suc i) r d l = whole-at pis hs rows i r d (omega arith)

pub high-there : (high : List HighPlaces) (i : ℕ) (d : HighPlaces) → i < length high → get_or high i d ≡ high_at high i
high-there [] i d l = absurd (omega arith)
high-there (h ∷ hs) zero d l = refl
high-there (h ∷ hs) (suc i) d l = high-there hs i d (omega arith)

pub high-none : (high : List HighPlaces) (i : ℕ) → length high ≤ i → no_high ≡ high_at high i
high-none [] i l = refl
high-none (h ∷ hs) zero l = absurd (omega arith)
high-none (h ∷ hs) (suc i) l = high-none hs i (omega arith)

-- an end written
pub whole-end : (pis : List PI) (high : List HighPlaces) (rows : List StoredNode) (i low up n : ℕ) (g : HighPlaces) (r : StoredNode) (d : NodeData)
    → length high ≤ length rows → (i < length rows → length high ≤ i → up ≡ 0)
    → whole_rows pis (set high i (record (get_or high i g) { end = up })) (set rows i (record (get_or rows i r) { end = low; subtree_end = n }))
    ≡ set (whole_rows pis high rows) i (record (get_or (whole_rows pis high rows) i d) { end = whole_place low up; subtree_end = n })
whole-end pis [] [] i low up n g r d l z = refl
whole-end pis (h ∷ hs) [] i low up n g r d l z = absurd (omega arith)
whole-end pis [] (x ∷ rows) zero low up n g r d l z = grind arith
whole-end pis [] (x ∷ rows) (suc i) low up n g r d l z =
    ap (λ (xs : List NodeData). whole_row pis no_high x ∷ xs) (whole-end pis [] rows i low up n g r d (omega arith) (λ a b. z (omega arith) (omega arith)))
whole-end pis (h ∷ hs) (x ∷ rows) zero low up n g r d l z = refl
whole-end pis (h ∷ hs) (x ∷ rows) (suc i) low up n g r d l z =
    ap (λ (xs : List NodeData). whole_row pis h x ∷ xs) (whole-end pis hs rows i low up n g r d (omega arith) (λ a b. z (omega arith) (omega arith)))

pub whole-root : (pis : List PI) (high : List HighPlaces) (rows : List StoredNode) (n : ℕ) (r : StoredNode) (d : NodeData)
    → whole_rows pis high (set rows 0 (record (get_or rows 0 r) { subtree_end = n })) ≡ set (whole_rows pis high rows) 0 (record (get_or (whole_rows pis high rows) 0 d) { subtree_end = n })
whole-root pis high [] n r d = refl
whole-root pis [] (x ∷ rows) n r d = refl
whole-root pis (h ∷ hs) (x ∷ rows) n r d = refl

-- the first of them
take-none : {X : Type 0} (n : ℕ) → take {A = X} n [] ≡ []
take-none n = grind arith

pub whole-take : (pis : List PI) (n : ℕ) (high : List HighPlaces) (rows : List StoredNode) → whole_rows pis (take n high) (take n rows) ≡ take n (whole_rows pis high rows)
whole-take pis zero high rows = refl
whole-take pis (suc n) [] [] = refl
whole-take pis (suc n) (h ∷ hs) [] = refl
whole-take pis (suc n) [] (x ∷ rows) = ap (λ (xs : List NodeData). whole_row pis no_high x ∷ xs) (ap (λ (hs : List HighPlaces). whole_rows pis hs (take n rows)) (sym (take-none n)) ∙ whole-take pis n [] rows)
whole-take pis (suc n) (h ∷ hs) (x ∷ rows) = ap (λ (xs : List NodeData). whole_row pis h x ∷ xs) (whole-take pis n hs rows)

-- ---- processing instructions

instruction-more : (pis : List PI) (p : PI) (i : ℕ) → i < length pis → instruction_at (pis ++ p ∷ []) i ≡ instruction_at pis i
instruction-more [] p i l = absurd (omega arith)
instruction-more (q ∷ pis) p zero l = refl
instruction-more (q ∷ pis) p (suc i) l = instruction-more pis p i (omega arith)

pub instruction-last : (pis : List PI) (p : PI) → instruction_at (pis ++ p ∷ []) (length pis) ≡ kind.PI p
instruction-last [] p = refl
instruction-last (q ∷ pis) p = instruction-last pis p

pub instruction-there : (pis : List PI) (i : ℕ) (d : PI) → i < length pis → kind.PI (get_or pis i d) ≡ instruction_at pis i
instruction-there [] i d l = absurd (omega arith)
instruction-there (q ∷ pis) zero d l = refl
instruction-there (q ∷ pis) (suc i) d l = instruction-there pis i d (omega arith)

pub instruction-none : (pis : List PI) (i : ℕ) → length pis ≤ i → kind.Root ≡ instruction_at pis i
instruction-none [] i l = refl
instruction-none (q ∷ pis) zero l = absurd (omega arith)
instruction-none (q ∷ pis) (suc i) l = instruction-none pis i (omega arith)

kind-more : (pis : List PI) (p : PI) (k : StoredKind) → is_kind_within (length pis) k ≡ true → whole_kind (pis ++ p ∷ []) k ≡ whole_kind pis k
kind-more pis p k h = grind (arith, instruction-more)

pub head-within : (n : ℕ) (x : StoredNode) (rows : List StoredNode) → are_within n (x ∷ rows) ≡ true → is_kind_within n x.kind ≡ true
head-within n x rows w = (and_parts (is_kind_within n x.kind) (are_within n rows) w).0

pub tail-within : (n : ℕ) (x : StoredNode) (rows : List StoredNode) → are_within n (x ∷ rows) ≡ true → are_within n rows ≡ true
tail-within n x rows w = (and_parts (is_kind_within n x.kind) (are_within n rows) w).1

pub whole-more : (pis : List PI) (p : PI) (high : List HighPlaces) (rows : List StoredNode) → are_within (length pis) rows ≡ true
    → whole_rows (pis ++ p ∷ []) high rows ≡ whole_rows pis high rows
whole-more pis p high [] w = refl
whole-more pis p [] (x ∷ rows) w =
    rw (kind-more pis p x.kind (head-within (length pis) x rows w), whole-more pis p [] rows (tail-within (length pis) x rows w)) refl
whole-more pis p (h ∷ hs) (x ∷ rows) w =
    rw (kind-more pis p x.kind (head-within (length pis) x rows w), whole-more pis p hs rows (tail-within (length pis) x rows w)) refl

kind-within_more : (n m : ℕ) (k : StoredKind) → n ≤ m → is_kind_within n k ≡ true → is_kind_within m k ≡ true
kind-within_more n m k h p = grind arith

pub within-more : (n m : ℕ) (rows : List StoredNode) → n ≤ m → are_within n rows ≡ true → are_within m rows ≡ true
within-more n m [] l w = refl
within-more n m (x ∷ rows) l w =
    rw (kind-within_more n m x.kind l (head-within n x rows w), within-more n m rows l (tail-within n x rows w)) refl

pub within-push : (n : ℕ) (rows : List StoredNode) (r : StoredNode) → are_within n rows ≡ true → is_kind_within n r.kind ≡ true → are_within n (rows ++ r ∷ []) ≡ true
within-push n rows r w k = list_all-append (λ (x : StoredNode). is_kind_within n x.kind) rows (r ∷ []) ∙ rw (w, k) refl

pub within-take : (n k : ℕ) (rows : List StoredNode) → are_within n rows ≡ true → are_within n (take k rows) ≡ true
within-take n zero rows w = refl
within-take n (suc k) [] w = refl
within-take n (suc k) (x ∷ rows) w = rw (head-within n x rows w, within-take n k rows (tail-within n x rows w)) refl

-- a row changed, but for what it is
pub within-end : (n : ℕ) (rows : List StoredNode) (i low m : ℕ) (r : StoredNode) → are_within n rows ≡ true
    → are_within n (set rows i (record (get_or rows i r) { end = low; subtree_end = m })) ≡ true
within-end n [] i low m r w = refl
within-end n (x ∷ rows) zero low m r w = w
within-end n (x ∷ rows) (suc i) low m r w = rw (head-within n x rows w, within-end n rows i low m r (tail-within n x rows w)) refl

pub within-root : (n : ℕ) (rows : List StoredNode) (m : ℕ) (r : StoredNode) → are_within n rows ≡ true
    → are_within n (set rows 0 (record (get_or rows 0 r) { subtree_end = m })) ≡ true
within-root n [] m r w = refl
within-root n (x ∷ rows) m r w = w

-- ---- the chain of rows that own a text

one_chained : (count n last end : ℕ) (r : StoredNode) → n ≡ count → last == end ≡ true → is_linked end r.kind ≡ true
    → (is_linked last r.kind && last_with count last r.kind == last_with n end r.kind) ≡ true
one_chained count n last end r at e l = grind arith

pub chain_push : (count last end : ℕ) (rows : List StoredNode) (r : StoredNode) → is_chain count last end rows ≡ true → is_linked end r.kind ≡ true
    → is_chain count last (last_with (length rows + count) end r.kind) (rows ++ r ∷ []) ≡ true
chain_push count last end [] r h l = one_chained count (0 + count) last end r (omega arith) h l
chain_push count last end (x ∷ rows) r h l =
    let rest = (and_parts (is_linked last x.kind) (is_chain (count + 1) (last_with count last x.kind) end rows) h).1 in
    let n : length rows + (count + 1) ≡ suc (length rows) + count = omega arith in
    rw (and_parts (is_linked last x.kind) (is_chain (count + 1) (last_with count last x.kind) end rows) h).0
    (ap (λ (m : ℕ). is_chain (count + 1) (last_with count last x.kind) (last_with m end r.kind) (rows ++ r ∷ [])) (sym n) ∙ chain_push (count + 1) (last_with count last x.kind) end rows r rest l)

one_unchained : (count last end : ℕ) (r : StoredNode) → (is_linked last r.kind && last_with count last r.kind == end) ≡ true
    → last == (if owns r.kind then previous r.kind else end) ≡ true
one_unchained count last end r h = grind arith

-- without the last row
pub chain_pop : (count last end : ℕ) (rows : List StoredNode) (r : StoredNode) → is_chain count last end (rows ++ r ∷ []) ≡ true
    → is_chain count last (if owns r.kind then previous r.kind else end) rows ≡ true
chain_pop count last end [] r h = one_unchained count last end r h
chain_pop count last end (x ∷ rows) r h =
    let all = is_chain (count + 1) (last_with count last x.kind) end (rows ++ r ∷ []) in
    rw (and_parts (is_linked last x.kind) all h).0 (chain_pop (count + 1) (last_with count last x.kind) end rows r (and_parts (is_linked last x.kind) all h).1)

-- a row changed, but for what it is
pub chain_end : (count last end : ℕ) (rows : List StoredNode) (i low m : ℕ) (r : StoredNode) → is_chain count last end rows ≡ true
    → is_chain count last end (set rows i (record (get_or rows i r) { end = low; subtree_end = m })) ≡ true
chain_end count last end [] i low m r h = h
chain_end count last end (x ∷ rows) zero low m r h = h
chain_end count last end (x ∷ rows) (suc i) low m r h =
    let rest = is_chain (count + 1) (last_with count last x.kind) end rows in
    rw (and_parts (is_linked last x.kind) rest h).0 (chain_end (count + 1) (last_with count last x.kind) end rows i low m r (and_parts (is_linked last x.kind) rest h).1)

pub chain_root : (count last end : ℕ) (rows : List StoredNode) (m : ℕ) (r : StoredNode) → is_chain count last end rows ≡ true
    → is_chain count last end (set rows 0 (record (get_or rows 0 r) { subtree_end = m })) ≡ true
chain_root count last end [] m r h = h
chain_root count last end (x ∷ rows) m r h = h

link_is : (last : ℕ) (k : NodeKind) (r : StoredNode) → IsChainedTo last k r.kind → is_linked last r.kind ≡ true
link_is last k r is = grind arith

-- ---- the table

-- one row more in the chain
pub chain_grown : (t : NodeTable) (rows : List StoredNode) (x : StoredNode) (k : NodeKind) (own : Bool) (n number : ℕ) → rows ≡ t.rows.items ++ x ∷ []
    → IsChainedTo t.last_owned k x.kind → own ≡ owns_text k → n ≡ length t.rows.items → (n + 1 < 2 ^ 32 → number ≡ (if own then n + 1 else t.last_owned))
    → length rows < 2 ^ 32 → is_chain 0 0 number rows ≡ true
chain_grown t rows x k own n number grown is same count so few =
    let more = ap length grown ∙ length-append t.rows.items (x ∷ []) in
    let less : length t.rows.items < 2 ^ 32 = omega (arith, more, few) in
    let pushed = chain_push 0 0 t.last_owned t.rows.items x (t.chained less) (link_is t.last_owned k x is) in
    let at : n ≡ length t.rows.items + 0 = omega (arith, count) in
    let which : own ≡ owns x.kind = same ∙ sym is.owned in
    let last : number ≡ last_with (length t.rows.items + 0) t.last_owned x.kind =
    so (omega (arith, more, few, count)) ∙ ap (λ (b : Bool). if b then n + 1 else t.last_owned) which ∙ ap (λ (m : ℕ). last_with m t.last_owned x.kind) at in
    rw (last, grown) pushed

-- one fewer
pub chain_cut : (last number : ℕ) (old rows : List StoredNode) (x : StoredNode) → old ≡ rows ++ x ∷ [] → number ≡ (if owns x.kind then previous x.kind else last)
    → is_chain 0 0 last old ≡ true → is_chain 0 0 number rows ≡ true
chain_cut last number old rows x parts so h = rw so (chain_pop 0 0 last rows x (ap (is_chain 0 0 last) (sym parts) ∙ h))

pub length_nodes : (t : NodeTable) → length (node_rows t) ≡ length t.rows.items
length_nodes t = length-whole t.instructions.items t.high.items t.rows.items

pub count_nodes : (t : NodeTable) → vec_len t.rows ≡ length (node_rows t)
count_nodes t = omega (arith, t.rows.ok.0, length_nodes t)

-- an element that is lent is one
pub lent_element : (k : KindRef) (e : ElementData) → kind_of k ≡ kind.Element e → k ≡ lent.Element e
lent_element k e h = grind arith

-- some row
pub a_row : StoredNode
a_row = record { start = 0; end = 0; parent = 0; subtree_end = 0; kind = stored.Root }

-- what is answered of a row
pub row_is : (t : NodeTable) (i : ℕ) (h : HighPlaces) (x : StoredNode) (d : NodeData) (s e : ℕ) (k : NodeKind) → i < length t.rows.items
    → x ≡ get_or t.rows.items i x → h ≡ high_at t.high.items i → s ≡ whole_place x.start h.start → e ≡ whole_place x.end h.end → k ≡ whole_kind t.instructions.items x.kind
    → record { start = s; end = e; parent = x.parent; subtree_end = x.subtree_end; kind = k } ≡ get_or (node_rows t) i d
row_is t i h x d s e k l at high start end is = grind (arith, whole-at)

-- the row itself, and what it is
pub links_are : (t : NodeTable) (i : ℕ) (x : StoredNode) (d : NodeData) → i < length t.rows.items → x ≡ get_or t.rows.items i x
    → whole_row t.instructions.items (high_at t.high.items i) x ≡ get_or (node_rows t) i d
links_are t i x d l at = grind (arith, whole-at)

-- one row more
pub push_is : (pis pis' : List PI) (high : List HighPlaces) (rows new : List StoredNode) (x : StoredNode) (row : NodeData) → length high ≤ length rows → new ≡ rows ++ x ∷ []
    → whole_rows pis' high rows ≡ whole_rows pis high rows → whole_row pis' no_high x ≡ row → whole_rows pis' high new ≡ whole_rows pis high rows ++ row ∷ []
push_is pis pis' high rows new x row l e same is = grind (arith, whole-push)

pub high_is : (base : List NodeData) (pis : List PI) (high high' : List HighPlaces) (rows new : List StoredNode) (h : HighPlaces) (x : StoredNode) (row : NodeData) → length high ≡ length rows
    → high' ≡ high ++ h ∷ [] → new ≡ rows ++ x ∷ [] → whole_rows pis high rows ≡ base → whole_row pis h x ≡ row → whole_rows pis high' new ≡ base ++ row ∷ []
high_is base pis high high' rows new h x row l eh e same is = grind (arith, whole-push_high)

pub low_row : (pis : List PI) (row : NodeData) (k : StoredKind) → whole_kind pis k ≡ row.kind
    → whole_row pis no_high (record { start = row.start; end = row.end; parent = row.parent; subtree_end = row.subtree_end; kind = k }) ≡ row
low_row pis row k is = grind arith

-- an end written
pub end_is : (t : NodeTable) (i low up n end len : ℕ) (d : NodeData) (high : List HighPlaces) (rows : List StoredNode) → length t.high.items ≤ length t.rows.items
    → (length t.high.items < length t.rows.items → up ≡ 0)
    → high ≡ set t.high.items i (record (get_or t.high.items i no_high) { end = up }) → rows ≡ set t.rows.items i (record (get_or t.rows.items i a_row) { end = low; subtree_end = n })
    → whole_place low up ≡ end → n ≡ len → whole_rows t.instructions.items high rows ≡ set (node_rows t) i (record (get_or (node_rows t) i d) { end = end; subtree_end = len })
end_is t i low up n end len d high rows l z eh er place count = grind (arith, whole-end)

pub root_is : (t : NodeTable) (n : ℕ) (d : NodeData) (rows : List StoredNode) → rows ≡ set t.rows.items 0 (record (get_or t.rows.items 0 a_row) { subtree_end = n })
    → whole_rows t.instructions.items t.high.items rows ≡ set (node_rows t) 0 (record (get_or (node_rows t) 0 d) { subtree_end = n })
root_is t n d rows e = ap (whole_rows t.instructions.items t.high.items) e ∙ whole-root t.instructions.items t.high.items t.rows.items n a_row d

no_element : (pis : List PI) (i : ℕ) → false ≡ is_element (instruction_at pis i)
no_element [] i = refl
no_element (p ∷ ps) zero = refl
no_element (p ∷ ps) (suc i) = no_element ps i

no_text : (pis : List PI) (i : ℕ) → false ≡ is_text (instruction_at pis i)
no_text [] i = refl
no_text (p ∷ ps) zero = refl
no_text (p ∷ ps) (suc i) = no_text ps i

-- a kind that is not that of elements is none, and one that is not that of texts
pub other_element : (pis : List PI) (k : StoredKind) → ((a b : ℕ) (c : Bor (List ℕ)) (d e : ℕ) → k ≡ stored.Element a b c d e → ⊥) → false ≡ is_element (whole_kind pis k)
other_element pis k h = grind (arith, no_element)

pub other_text : (pis : List PI) (k : StoredKind) → ((p : ℕ) (a : ManuallyDrop StringStorage) → k ≡ stored.Text p a → ⊥) → false ≡ is_text (whole_kind pis k)
other_text pis k h = grind (arith, no_text)
