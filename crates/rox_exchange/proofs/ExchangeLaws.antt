-- Exchanges keep elements self-contained, may be taken back, and commute.
use Rattle.std.proofs.Common.{◌≡◌, ℕ, zero, suc, ◌+◌, ◌-◌, ◌<◌, ◌≤◌, true, List, [], ◌++◌, length, take, drop, lt-ltb, le-ltb, refl, sym, ap, ◌∙◌, subst, arith, inl, inr, length-take, length-append, take-append-drop, IsUtf8, append_assoc, drop-drop}
use Rattle.std.proofs.lemmas.Bool.{cases_lt, and_parts}
use Rattle.std.proofs.Math.Seq.{drop-append_seam}
use Rattle.rox_grammar.specs.Forest.{Forest, Nil, Cons, size}
use Rattle.rox_grammar.specs.Written.{NamespaceDecl, Item, Element, Text, Comment, PI}
use Rattle.rox_grammar.specs.Tree.{Node, listed, resolved, document_tree}
use Rattle.rox_grammar.specs.NodeRanges.{is_element_node}
use Rattle.rox_grammar.specs.Names.{slice}
use Rattle.rox_grammar.specs.Exchange.{Move, moved, moved_node, shifted, subtree, exchanged, lists_none, none_of, self_contained, row_start, row_end, start_at, end_at, replaced, HasTree, change, with_other, text_with}
use Rattle.rox_exchange.specs.ExchangeLaws.{AreSeparate, id_after, StaysContained, GoesBack, Commutes}
use Rattle.rox_grammar.proofs.Stretches.{range_length}
use Rattle.rox_theory.proofs.Without.{parse_without}
use Rattle.rox_exchange.proofs.Named.{none_listed}
use Rattle.rox_exchange.proofs.Ordered.{Ordered}
use Rattle.rox_exchange.proofs.Put.{take_seam}
use Rattle.rox_exchange.proofs.Ids.{find}
use Rattle.rox_exchange.proofs.Documents.{tops_ordered}
use Rattle.rox_exchange.proofs.Exchanging.{shifted_size, moved_element, contained_inside, subtree_some, later, itself_contained, itself_there, before_contained, before_there, behind_contained, behind_there}
use Rattle.rox_exchange.proofs.Wholes.{Whole, whole, same_tree, exchange_whole, utf8_exchanged, cut_is}

-- A self-contained node is one element.
pub single : (f : Forest Node) (k : ℕ) → self_contained f k ≡ true → (node : Node) × (children : Forest Node) × (subtree f k ≡ Cons node children Nil) × (is_element_node node ≡ true)
single Nil k is = cc is
single (Cons node children rest) zero is = (node, children, refl, is)
single (Cons node children rest) (suc k) is =
    elim (cases_lt k (size children)) as (λ q. (one : Node) × (below : Forest Node) × (subtree (Cons node children rest) (suc k) ≡ Cons one below Nil) × (is_element_node one ≡ true)) [
      | inl under ↦ (
          let inside = lt-ltb k (size children) under in
          let s = single children k (and_parts (lists_none node) (self_contained children k) (rw inside at is)).1 in
          (s.0, s.1, rw inside s.2, s.3))
      | inr past ↦ (
          let out = le-ltb k (size children) past in
          let s = single rest (k - size children) (rw out at is) in
          (s.0, s.1, rw out s.2, s.3))
    ]

-- Where a self-contained node starts and ends once it has moved.
row_moved : (m : Move) (f : Forest Node) (k : ℕ) → self_contained f k ≡ true → (row_start (shifted m (subtree f k)) ≡ moved m (start_at f k)) × (row_end (shifted m (subtree f k)) ≡ moved m (end_at f k))
row_moved m f k is = grind (arith, single)

-- ---- on trees

module _ (f : Forest Node) (id : ℕ) (other : Forest Node) (at : ℕ) (is : self_contained f id ≡ true) (is' : self_contained other at ≡ true) where
  abbrev mv : Move
  mv = change f id other at

  abbrev goes : Move
  goes = record { add = start_at f id; sub = start_at other at }

  -- By what is put in.
  by_new : (P : Forest Node → Type 0) → ((node : Node) (children : Forest Node) → is_element_node node ≡ true → P (Cons node children Nil)) → P (subtree other at)
  by_new P all = let s = single other at is' in subst P (sym s.2) (all s.0 s.1 s.3)

  itself : self_contained (with_other f id other at) id ≡ true
  itself =
      by_new (λ (g : Forest Node). self_contained (exchanged mv (shifted goes g) f id) id ≡ true)
      (λ node children element. itself_contained mv (moved_node goes node) (shifted goes children) f id is ∙ moved_element goes node ∙ element)

  pub put_in_there : subtree (with_other f id other at) id ≡ shifted goes (subtree other at)
  put_in_there =
      by_new (λ (g : Forest Node). subtree (exchanged mv (shifted goes g) f id) id ≡ shifted goes g)
      (λ node children element. itself_there mv (moved_node goes node) (shifted goes children) f id (contained_inside f id is))

  pub before_same : (k : ℕ) → k < id → self_contained (with_other f id other at) k ≡ self_contained f k
  before_same k before =
      by_new (λ (g : Forest Node). self_contained (exchanged mv (shifted goes g) f id) k ≡ self_contained f k)
      (λ node children element. before_contained mv (moved_node goes node) (shifted goes children) f id k (contained_inside f id is) before)

  pub before_stays : (k : ℕ) → k + size (subtree f k) ≤ id → k < id → subtree (with_other f id other at) k ≡ subtree f k
  before_stays k before less =
      by_new (λ (g : Forest Node). subtree (exchanged mv (shifted goes g) f id) k ≡ subtree f k)
      (λ node children element. before_there mv (moved_node goes node) (shifted goes children) f id k (contained_inside f id is) before less)

  -- Where a node after it goes.
  later_is : (node : Node) (children : Forest Node) (k : ℕ) → k + size (Cons node children Nil) - size (subtree f id) ≡ later mv (moved_node goes node) (shifted goes children) f id k
  later_is node children k = omega (arith, shifted_size goes children)

  pub behind_same : (k : ℕ) → id + size (subtree f id) ≤ k → self_contained (with_other f id other at) (k + size (subtree other at) - size (subtree f id)) ≡ self_contained f k
  behind_same k behind =
      by_new (λ (g : Forest Node). self_contained (exchanged mv (shifted goes g) f id) (k + size g - size (subtree f id)) ≡ self_contained f k)
      (λ node children element.
      ap (self_contained (exchanged mv (shifted goes (Cons node children Nil)) f id)) (later_is node children k)
      ∙ behind_contained mv (moved_node goes node) (shifted goes children) f id k (contained_inside f id is) behind)

  pub behind_moves : (k : ℕ) → id + size (subtree f id) ≤ k → subtree (with_other f id other at) (k + size (subtree other at) - size (subtree f id)) ≡ shifted mv (subtree f k)
  behind_moves k behind =
      by_new (λ (g : Forest Node). subtree (exchanged mv (shifted goes g) f id) (k + size g - size (subtree f id)) ≡ shifted mv (subtree f k))
      (λ node children element.
      ap (subtree (exchanged mv (shifted goes (Cons node children Nil)) f id)) (later_is node children k)
      ∙ behind_there mv (moved_node goes node) (shifted goes children) f id k (contained_inside f id is) behind)

  pub stays_contained : StaysContained f id other at
  stays_contained = record {
    itself = itself;
    outside = λ k (inside, past) own.
        elim (cases_lt k id) as (λ q. self_contained (with_other f id other at) (id_after f id other at k) ≡ true) [
          | inl before ↦ (let less = lt-ltb k id before in rw less (before_same k before ∙ own))
          | inr behind ↦ (let more = le-ltb k id behind in rw more (behind_same k (past behind) ∙ own))
        ];
  }

-- ---- of two self-contained nodes the one after the other starts where the other ends, or later

bounds : (i j : ℕ) (f : Forest Item) (k : ℕ) → Ordered i j f → self_contained (resolved [] f) k ≡ true → (i ≤ start_at (resolved [] f) k) × (end_at (resolved [] f) k ≤ j)
bounds i j f k order is = grind (arith, find i j f k order is)

apart_in : (i j : ℕ) (f : Forest Item) (k l : ℕ) → Ordered i j f → self_contained (resolved [] f) k ≡ true → self_contained (resolved [] f) l ≡ true
    → k + size (subtree (resolved [] f) k) ≤ l → end_at (resolved [] f) k ≤ start_at (resolved [] f) l
apart_in i j Nil k l order is is' le = cc is
apart_in i j (Cons (Element a z t) children rest) zero zero order is is' le = absurd (omega arith)
apart_in i j (Cons (Element a z t) children rest) zero (suc l) (below, lt, low, next) is is' le = grind (arith, bounds)
apart_in i j (Cons (Element a z t) children rest) (suc k) zero order is is' le = absurd (omega arith)
apart_in i j (Cons (Element a z t) children rest) (suc k) (suc l) (below, lt, low, next) is is' le =
    let scope = listed [] t.declarations in
    let n = size (resolved scope children) in
    elim (cases_lt k n) as (λ q. end_at (resolved [] (Cons (Element a z t) children rest)) (suc k) ≤ start_at (resolved [] (Cons (Element a z t) children rest)) (suc l)) [
      | inl k_under ↦ (
          let k_in = lt-ltb k n k_under in
          let parts = and_parts (none_of scope) (self_contained (resolved scope children) k) (rw k_in at is) in
          let bare = none_listed scope parts.0 in
          let k_is = subst (λ (ds : List NamespaceDecl). self_contained (resolved ds children) k ≡ true) bare parts.1 in
          elim (cases_lt l n) as (λ q. end_at (resolved [] (Cons (Element a z t) children rest)) (suc k) ≤ start_at (resolved [] (Cons (Element a z t) children rest)) (suc l)) [
            | inl l_under ↦ (
                let l_in = lt-ltb l n l_under in
                let parts' = and_parts (none_of scope) (self_contained (resolved scope children) l) (rw l_in at is') in
                let l_is = subst (λ (ds : List NamespaceDecl). self_contained (resolved ds children) l ≡ true) bare parts'.1 in
                let le' : suc k + size (subtree (resolved scope children) k) ≤ suc l = rw k_in at le in
                let le_bare = subst (λ (ds : List NamespaceDecl). suc k + size (subtree (resolved ds children) k) ≤ suc l) bare le' in
                rw (k_in, l_in) (grind (arith, apart_in (a + 1) z children k l low k_is l_is (omega arith))))
            | inr l_past ↦ (
                let l_out = le-ltb l n l_past in
                let l_is : self_contained (resolved [] rest) (l - n) ≡ true = rw l_out at is' in
                let upper = subst (λ (ds : List NamespaceDecl). end_at (resolved ds children) k ≤ z) (sym bare) (bounds (a + 1) z children k low k_is).1 in
                let lower = (bounds z j rest (l - n) next l_is).0 in
                rw (k_in, l_out) (omega arith))
          ])
      | inr k_past ↦ (
          let k_out = le-ltb k n k_past in
          let k_is : self_contained (resolved [] rest) (k - n) ≡ true = rw k_out at is in
          let le' : suc k + size (subtree (resolved [] rest) (k - n)) ≤ suc l = rw k_out at le in
          let l_out = le-ltb l n (omega arith) in
          let l_is : self_contained (resolved [] rest) (l - n) ≡ true = rw l_out at is' in
          rw (k_out, l_out) (apart_in z j rest (k - n) (l - n) next k_is l_is (omega arith)))
    ]
apart_in i j (Cons (Text a z v borrowed) children rest) zero l order is is' le = cc is
apart_in i j (Cons (Text a z v borrowed) children rest) (suc k) zero order is is' le = cc is'
apart_in i j (Cons (Text a z v borrowed) children rest) (suc k) (suc l) (bare, next) is is' le =
    subst (λ (c : Forest Item). self_contained (resolved [] (Cons (Text a z v borrowed) c rest)) (suc k) ≡ true → self_contained (resolved [] (Cons (Text a z v borrowed) c rest)) (suc l) ≡ true
    → suc k + size (subtree (resolved [] (Cons (Text a z v borrowed) c rest)) (suc k)) ≤ suc l → end_at (resolved [] (Cons (Text a z v borrowed) c rest)) (suc k) ≤ start_at (resolved [] (Cons (Text a z v borrowed) c rest)) (suc l)) (sym bare)
    (λ k_is l_is fits.
    let k_out = le-ltb k 0 (omega arith) in
    let l_out = le-ltb l 0 (omega arith) in
    let fits' : suc k + size (subtree (resolved [] rest) (k - 0)) ≤ suc l = rw k_out at fits in
    rw (k_out, l_out) (apart_in i j rest (k - 0) (l - 0) next (rw k_out at k_is) (rw l_out at l_is) (omega arith))) is is' le
apart_in i j (Cons (Comment a z v) children rest) zero l order is is' le = cc is
apart_in i j (Cons (Comment a z v) children rest) (suc k) zero order is is' le = cc is'
apart_in i j (Cons (Comment a z v) children rest) (suc k) (suc l) (bare, next) is is' le =
    subst (λ (c : Forest Item). self_contained (resolved [] (Cons (Comment a z v) c rest)) (suc k) ≡ true → self_contained (resolved [] (Cons (Comment a z v) c rest)) (suc l) ≡ true
    → suc k + size (subtree (resolved [] (Cons (Comment a z v) c rest)) (suc k)) ≤ suc l → end_at (resolved [] (Cons (Comment a z v) c rest)) (suc k) ≤ start_at (resolved [] (Cons (Comment a z v) c rest)) (suc l)) (sym bare)
    (λ k_is l_is fits.
    let k_out = le-ltb k 0 (omega arith) in
    let l_out = le-ltb l 0 (omega arith) in
    let fits' : suc k + size (subtree (resolved [] rest) (k - 0)) ≤ suc l = rw k_out at fits in
    rw (k_out, l_out) (apart_in i j rest (k - 0) (l - 0) next (rw k_out at k_is) (rw l_out at l_is) (omega arith))) is is' le
apart_in i j (Cons (PI a z v o) children rest) zero l order is is' le = cc is
apart_in i j (Cons (PI a z v o) children rest) (suc k) zero order is is' le = cc is'
apart_in i j (Cons (PI a z v o) children rest) (suc k) (suc l) (bare, next) is is' le =
    subst (λ (c : Forest Item). self_contained (resolved [] (Cons (PI a z v o) c rest)) (suc k) ≡ true → self_contained (resolved [] (Cons (PI a z v o) c rest)) (suc l) ≡ true
    → suc k + size (subtree (resolved [] (Cons (PI a z v o) c rest)) (suc k)) ≤ suc l → end_at (resolved [] (Cons (PI a z v o) c rest)) (suc k) ≤ start_at (resolved [] (Cons (PI a z v o) c rest)) (suc l)) (sym bare)
    (λ k_is l_is fits.
    let k_out = le-ltb k 0 (omega arith) in
    let l_out = le-ltb l 0 (omega arith) in
    let fits' : suc k + size (subtree (resolved [] rest) (k - 0)) ≤ suc l = rw k_out at fits in
    rw (k_out, l_out) (apart_in i j rest (k - 0) (l - 0) next (rw k_out at k_is) (rw l_out at l_is) (omega arith))) is is' le

-- By ids of the whole tree.
apart_tops : (n : ℕ) (tops : Forest Item) (i j : ℕ) → Ordered 0 n tops → self_contained (document_tree n tops) i ≡ true → self_contained (document_tree n tops) j ≡ true
    → i + size (subtree (document_tree n tops) i) ≤ j → end_at (document_tree n tops) i ≤ start_at (document_tree n tops) j
apart_tops n tops zero j order is is' le = cc is
apart_tops n tops (suc i) zero order is is' le = cc is'
apart_tops n tops (suc i) (suc j) order is is' le =
    let i_in = lt-ltb i (size (resolved [] tops)) (omega (arith, contained_inside (document_tree n tops) (suc i) is)) in
    let j_in = lt-ltb j (size (resolved [] tops)) (omega (arith, contained_inside (document_tree n tops) (suc j) is')) in
    let fits : suc i + size (subtree (resolved [] tops) i) ≤ suc j = rw i_in at le in
    rw (i_in, j_in) (apart_in 0 n tops i j order (rw i_in at is) (rw j_in at is') (omega arith))

apart_ids : (text : List ℕ) (f : Forest Node) (i j : ℕ) → HasTree text f → self_contained f i ≡ true → self_contained f j ≡ true → i + size (subtree f i) ≤ j → end_at f i ≤ start_at f j
apart_ids text f i j h is is' le =
    subst (λ (g : Forest Node). self_contained g i ≡ true → self_contained g j ≡ true → i + size (subtree g i) ≤ j → end_at g i ≤ start_at g j) (sym h.shown)
    (apart_tops (length text) h.written i j (tops_ordered text h.written (parse_without text [] h.written h.parse).1)) is is' le

-- ---- on texts

-- What is in the middle, replaced.
replace_mid : (x y v b : List ℕ) (i j : ℕ) → i ≡ length x → j ≡ length x + length y → replaced (x ++ (y ++ v)) i j b ≡ x ++ (b ++ v)
replace_mid x y v b i j at_i at_j =
    let front : take i (x ++ (y ++ v)) ≡ x = ap (λ (k : ℕ). take k (x ++ (y ++ v))) at_i ∙ take_seam x (y ++ v) in
    let back : drop j (x ++ (y ++ v)) ≡ v =
    ap (λ (k : ℕ). drop k (x ++ (y ++ v))) (at_j ∙ sym (length-append x y)) ∙ ap (drop (length (x ++ y))) (sym (append_assoc x y v)) ∙ drop-append_seam (x ++ y) v in
    ap (λ (p : List ℕ). p ++ (b ++ drop j (x ++ (y ++ v)))) front ∙ ap (λ (d : List ℕ). x ++ (b ++ d)) back

-- A slice and what is after it.
rejoin : (t : List ℕ) (i j : ℕ) → i ≤ j → slice t i j ++ drop j t ≡ drop i t
rejoin t i j le =
    ap (λ (k : ℕ). slice t i j ++ drop k t) (omega arith) ∙ ap (λ (d : List ℕ). slice t i j ++ d) (sym (drop-drop (j - i) i t)) ∙ take-append-drop (j - i) (drop i t)

assoc_three : (x y z w : List ℕ) → (x ++ (y ++ z)) ++ w ≡ x ++ (y ++ (z ++ w))
assoc_three x y z w = append_assoc x (y ++ z) w ∙ ap (λ (l : List ℕ). x ++ l) (append_assoc y z w)

-- Two places, one after the other, in either order.
two_places : (t one two : List ℕ) (s e s' e' n : ℕ) → s ≤ e → e ≤ s' → s' ≤ e' → e' ≤ length t → length one ≡ n
    → replaced (replaced t s e one) (s' + n - (e - s)) (e' + n - (e - s)) two ≡ replaced (replaced t s' e' two) s e one
two_places t one two s e s' e' n le mid le' inside long =
    let x = take s t in
    let y = slice t s e in
    let m = slice t e s' in
    let y' = slice t s' e' in
    let v = drop e' t in
    let lx : length x ≡ s = omega (arith, length-take s t) in
    let ly : length y ≡ e - s = range_length t s e le (omega arith) in
    let lm : length m ≡ s' - e = range_length t e s' mid (omega arith) in
    let ly' : length y' ≡ e' - s' = range_length t s' e' le' inside in
    let whole_t : t ≡ x ++ (y ++ (m ++ (y' ++ v))) = grind (arith, rejoin, take-append-drop) in
    let n1 : length (x ++ (one ++ m)) ≡ s' + n - (e - s) = omega (arith, length-append x (one ++ m), length-append one m) in
    let right : replaced t s' e' two ≡ x ++ (y ++ (m ++ (two ++ v))) =
    ap (λ (l : List ℕ). replaced l s' e' two) (whole_t ∙ sym (assoc_three x y m (y' ++ v)))
    ∙ replace_mid (x ++ (y ++ m)) y' v two s' e' (omega (arith, length-append x (y ++ m), length-append y m)) (omega (arith, length-append x (y ++ m), length-append y m))
    ∙ assoc_three x y m (two ++ v) in
    grind (arith, replace_mid, assoc_three)

-- ---- on documents

module _ (text : List ℕ) (f : Forest Node) (id : ℕ) (other_text : List ℕ) (other : Forest Node) (at : ℕ) (utf8 : IsUtf8 text) (utf8' : IsUtf8 other_text) (h : HasTree text f) (h' : HasTree other_text other)
    (is : self_contained f id ≡ true) (is' : self_contained other at ≡ true) where
  abbrev w : Whole text f id
  w = whole text f id h is

  abbrev w' : Whole other_text other at
  w' = whole other_text other at h' is'

  -- The new document.
  pub new_tree : HasTree (text_with f text id other other_text at) (with_other f id other at)
  new_tree = exchange_whole text f id other_text other at utf8 utf8' w w'

  pub new_utf8 : IsUtf8 (text_with f text id other other_text at)
  new_utf8 = utf8_exchanged text f id other_text other at utf8 utf8' w w'

  -- Where what was put in is.
  starts_there : start_at (with_other f id other at) id ≡ start_at f id
  starts_there = grind (arith, row_moved, put_in_there)

  ends_there : end_at (with_other f id other at) id ≡ start_at f id + (end_at other at - start_at other at)
  ends_there =
      let lt = (cut_is other_text other at utf8' w').0 in
      let r = (row_moved (record { add = start_at f id; sub = start_at other at }) other at is').1 in
      ap row_end (put_in_there f id other at is is') ∙ r ∙ omega arith

  text_back : text_with (with_other f id other at) (text_with f text id other other_text at) id f text id ≡ text
  text_back = grind (arith, cut_is text f id utf8 w, cut_is other_text other at utf8' w', length-take, range_length, replace_mid, starts_there, ends_there, rejoin, take-append-drop)

  pub goes_back : GoesBack f text id other other_text at
  goes_back = record {
    text_is = text_back;
    tree_is =
        let there = itself f id other at is is' in
        let back = exchange_whole (text_with f text id other other_text at) (with_other f id other at) id text f id new_utf8 utf8 (whole (text_with f text id other other_text at) (with_other f id other at) id new_tree there) w in
        same_tree text (with_other (with_other f id other at) id f id) f utf8 (subst (λ (t : List ℕ). HasTree t (with_other (with_other f id other at) id f id)) text_back back) h;
  }

-- One node after the other.
module _ (text : List ℕ) (f : Forest Node) (i : ℕ) (one_text : List ℕ) (one : Forest Node) (a : ℕ) (j : ℕ) (two_text : List ℕ) (two : Forest Node) (b : ℕ)
    (utf8 : IsUtf8 text) (utf8_one : IsUtf8 one_text) (utf8_two : IsUtf8 two_text) (h : HasTree text f) (h_one : HasTree one_text one) (h_two : HasTree two_text two)
    (is_i : self_contained f i ≡ true) (is_j : self_contained f j ≡ true) (is_a : self_contained one a ≡ true) (is_b : self_contained two b ≡ true) (behind : i + size (subtree f i) ≤ j) where
  less : i < j
  less = omega (arith, subtree_some f i (contained_inside f i is_i))

  j_after : id_after f i one a j ≡ j + size (subtree one a) - size (subtree f i)
  j_after = let lt = less in let out = le-ltb j i (omega arith) in rw out refl

  i_after : id_after f j two b i ≡ i
  i_after = let inside = lt-ltb i j less in rw inside refl

  j_there : subtree (with_other f i one a) (id_after f i one a j) ≡ shifted (change f i one a) (subtree f j)
  j_there = ap (subtree (with_other f i one a)) j_after ∙ behind_moves f i one a is_i is_a j behind

  i_there : subtree (with_other f j two b) (id_after f j two b i) ≡ subtree f i
  i_there = ap (subtree (with_other f j two b)) i_after ∙ before_stays f j two b is_j is_b i behind less

  j_contained : self_contained (with_other f i one a) (id_after f i one a j) ≡ true
  j_contained = (stays_contained f i one a is_i is_a).outside j (contained_inside f j is_j, λ le. behind) is_j

  i_contained : self_contained (with_other f j two b) (id_after f j two b i) ≡ true
  i_contained = (stays_contained f j two b is_j is_b).outside i (contained_inside f i is_i, λ le. let lt = less in absurd (omega arith)) is_i

  in_order : end_at f i ≤ start_at f j
  in_order = apart_ids text f i j h is_i is_j behind

  texts_agree : text_with (with_other f i one a) (text_with f text i one one_text a) (id_after f i one a j) two two_text b
      ≡ text_with (with_other f j two b) (text_with f text j two two_text b) (id_after f j two b i) one one_text a
  texts_agree =
      let cut_i = cut_is text f i utf8 (whole text f i h is_i) in
      let cut_j = cut_is text f j utf8 (whole text f j h is_j) in
      let cut_a = cut_is one_text one a utf8_one (whole one_text one a h_one is_a) in
      let s' = start_at f j in
      let e' = end_at f j in
      let m : Move = change f i one a in
      let put_two = slice two_text (start_at two b) (end_at two b) in
      let r = row_moved m f j is_j in
      let starts : start_at (with_other f i one a) (id_after f i one a j) ≡ moved m s' = ap row_start j_there ∙ r.0 in
      let stops : end_at (with_other f i one a) (id_after f i one a j) ≡ moved m e' = ap row_end j_there ∙ r.1 in
      grind (arith, two_places, in_order, range_length, i_there)

  pub commutes_behind : Commutes f text i one one_text a j two two_text b
  commutes_behind = record {
    text_is = texts_agree;
    tree_is =
        let t1 = text_with f text i one one_text a in
        let f1 = with_other f i one a in
        let h1 = new_tree text f i one_text one a utf8 utf8_one h h_one is_i is_a in
        let u1 = new_utf8 text f i one_text one a utf8 utf8_one h h_one is_i is_a in
        let f2 = with_other f j two b in
        let h2 = new_tree text f j two_text two b utf8 utf8_two h h_two is_j is_b in
        let u2 = new_utf8 text f j two_text two b utf8 utf8_two h h_two is_j is_b in
        let left = new_tree t1 f1 (id_after f i one a j) two_text two b u1 utf8_two h1 h_two j_contained is_b in
        let left_utf8 = new_utf8 t1 f1 (id_after f i one a j) two_text two b u1 utf8_two h1 h_two j_contained is_b in
        let right = new_tree (text_with f text j two two_text b) f2 (id_after f j two b i) one_text one a u2 utf8_one h2 h_one i_contained is_a in
        same_tree (text_with f1 t1 (id_after f i one a j) two two_text b) (with_other f1 (id_after f i one a j) two b) (with_other f2 (id_after f j two b i) one a) left_utf8 left
        (subst (λ (t : List ℕ). HasTree t (with_other f2 (id_after f j two b i) one a)) (sym texts_agree) right);
  }

-- Two nodes, neither of which is below the other.
pub commutes : (text : List ℕ) (f : Forest Node) (i : ℕ) (one_text : List ℕ) (one : Forest Node) (a : ℕ) (j : ℕ) (two_text : List ℕ) (two : Forest Node) (b : ℕ)
    → IsUtf8 text → IsUtf8 one_text → IsUtf8 two_text → HasTree text f → HasTree one_text one → HasTree two_text two
    → self_contained f i ≡ true → self_contained f j ≡ true → self_contained one a ≡ true → self_contained two b ≡ true → AreSeparate f i j → Commutes f text i one one_text a j two two_text b
commutes text f i one_text one a j two_text two b utf8 u_one u_two h h_one h_two is_i is_j is_a is_b (inl behind) =
    commutes_behind text f i one_text one a j two_text two b utf8 u_one u_two h h_one h_two is_i is_j is_a is_b behind
commutes text f i one_text one a j two_text two b utf8 u_one u_two h h_one h_two is_i is_j is_a is_b (inr behind) = grind (arith, commutes_behind text f j two_text two b i one_text one a utf8 u_two u_one h h_two h_one is_j is_i is_b is_a behind)
