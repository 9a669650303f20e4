-- A node of the tree, named by its id, is an element among the items, named by its start.
use Rattle.std.proofs.Common.{◌≡◌, ℕ, zero, suc, ◌+◌, ◌-◌, ◌<◌, ◌≤◌, ◌&&◌, true, false, List, [], nat_lt, lt-ltb, le-ltb, refl, sym, ap, ◌∙◌, subst, arith, inl, inr}
use Rattle.std.proofs.lemmas.Bool.{cases_Bool, and_parts, eq-eqb, ne_eqb}
use Rattle.rox_grammar.specs.Forest.{Forest, Nil, Cons, join, size}
use Rattle.rox_grammar.specs.Written.{NamespaceDecl, Tag, Item, Element, Text, Comment, PI}
use Rattle.rox_grammar.specs.Tree.{listed, node_in, resolved}
use Rattle.rox_grammar.specs.WellNamed.{AreWellNamed}
use Rattle.rox_grammar.specs.Exchange.{Move, subtree, exchanged, none_of, self_contained}
use Rattle.rox_reading.proofs.Forests.{resolved-join}
use Rattle.rox_exchange.specs.Local.{moved_items}
use Rattle.rox_exchange.specs.ElementWith.{exchanged_items}
use Rattle.rox_exchange.specs.SourceKinds.{StandsInEach, first, below, beside}
use Rattle.rox_exchange.specs.SelfContained.{is_contained}
use Rattle.rox_exchange.proofs.MovedItems.{moved_resolved}
use Rattle.rox_exchange.proofs.Named.{none_listed}
use Rattle.rox_exchange.proofs.Ordered.{Ordered, ordered_le}

-- The node of an id in a row whose parent lists nothing: the element, which is between two places, and what has to be known of it.
pub record Found (i j : ℕ) (f : Forest Item) (id : ℕ) : Type 0 where
  pub start : ℕ
  pub end : ℕ
  pub tag : Tag
  pub kids : Forest Item
  pub stands : StandsInEach start end tag kids f
  pub within : (i ≤ start) × (start < end) × (end ≤ j)
  pub alone : subtree (resolved [] f) id ≡ resolved [] (Cons (Element start end tag) kids Nil)
  pub contained : is_contained start f ≡ true
  pub named : AreWellNamed [] f → AreWellNamed [] (Cons (Element start end tag) kids Nil)
  pub exchange : (mv : Move) (one : Forest Item) → resolved [] (exchanged_items mv one start f) ≡ exchanged mv (resolved [] one) (resolved [] f) id

-- The first of a row.
found_first : (i j a z : ℕ) (t : Tag) (children rest : Forest Item) → Ordered i j (Cons (Element a z t) children rest) → Found i j (Cons (Element a z t) children rest) 0
found_first i j a z t children rest (le, lt, low, next) =
    let same = eq-eqb a a refl in
    record {
      start = a;
      end = z;
      tag = t;
      kids = children;
      stands = first rest;
      within = (le, lt, ordered_le z j rest next);
      alone = refl;
      contained = rw same refl;
      named = λ (own, under, others). (own, under, tt);
      exchange = λ mv one. rw same (resolved-join [] one (moved_items mv rest) ∙ ap (join (resolved [] one)) (moved_resolved mv [] rest));
    }

-- One of those below the first, which lists nothing.
found_below : (i j a z : ℕ) (t : Tag) (children rest : Forest Item) (id : ℕ) → listed [] t.declarations ≡ [] → Ordered i j (Cons (Element a z t) children rest)
    → nat_lt id (size (resolved (listed [] t.declarations) children)) ≡ true → Found (a + 1) z children id → Found i j (Cons (Element a z t) children rest) (suc id)
found_below i j a z t children rest id bare (le, lt, low, next) inside found =
    let s = found.start in
    let over = lt-ltb s z (omega arith) in
    record {
      start = s;
      end = found.end;
      tag = found.tag;
      kids = found.kids;
      stands = below (Element a z t) children rest found.stands;
      within = (omega arith, found.within.1, omega (arith, ordered_le z j rest next));
      alone = rw inside (subst (λ (ds : List NamespaceDecl). subtree (resolved ds children) id ≡ resolved [] (Cons (Element s found.end found.tag) found.kids Nil)) (sym bare) found.alone);
      contained = rw ((ne_eqb a s (λ e. omega arith)), over) (subst (λ (ds : List NamespaceDecl). (none_of ds && is_contained s children) ≡ true) (sym bare) found.contained);
      named = λ (own, under, others). found.named (subst (λ (ds : List NamespaceDecl). AreWellNamed ds children) bare under);
      exchange = grind (arith, moved_resolved);
    }

-- One of those after the first.
found_beside : (i j a z : ℕ) (t : Tag) (children rest : Forest Item) (id : ℕ) → Ordered i j (Cons (Element a z t) children rest)
    → nat_lt id (size (resolved (listed [] t.declarations) children)) ≡ false → Found z j rest (id - size (resolved (listed [] t.declarations) children)) → Found i j (Cons (Element a z t) children rest) (suc id)
found_beside i j a z t children rest id (le, lt, low, next) outside found =
    let w = found.within in
    let s = found.start in
    let other = ne_eqb a s (λ e. omega arith) in
    let over = le-ltb s z (omega arith) in
    record {
      start = s;
      end = found.end;
      tag = found.tag;
      kids = found.kids;
      stands = beside (Element a z t) children rest found.stands;
      within = (omega arith, w.1, w.2);
      alone = rw outside found.alone;
      contained = rw (other, over) found.contained;
      named = λ (own, under, others). found.named others;
      exchange = λ mv one. rw (other, over, outside) (ap (Cons (node_in (listed [] t.declarations) (Element a z t)) (resolved (listed [] t.declarations) children)) (found.exchange mv one));
    }

-- One of those after what is not an element.
found_leaf : (i j : ℕ) (item : Item) (rest : Forest Item) (id : ℕ) → ((s : ℕ) → is_contained s (Cons item Nil rest) ≡ is_contained s rest)
    → ((mv : Move) (one : Forest Item) (s : ℕ) → exchanged_items mv one s (Cons item Nil rest) ≡ Cons item Nil (exchanged_items mv one s rest))
    → self_contained (resolved [] (Cons item Nil rest)) (suc id) ≡ true → (self_contained (resolved [] rest) (id - 0) ≡ true → Found i j rest (id - 0)) → Found i j (Cons item Nil rest) (suc id)
found_leaf i j item rest id free same is more =
    let out : nat_lt id 0 ≡ false = le-ltb id 0 (omega arith) in
    let found = more (rw out at is) in
    record {
      start = found.start;
      end = found.end;
      tag = found.tag;
      kids = found.kids;
      stands = beside item Nil rest found.stands;
      within = found.within;
      alone = rw out found.alone;
      contained = free found.start ∙ found.contained;
      named = λ (own, under, others). found.named others;
      exchange = grind arith;
    }

pub find : (i j : ℕ) (f : Forest Item) (id : ℕ) → Ordered i j f → self_contained (resolved [] f) id ≡ true → Found i j f id
find i j Nil id order is = cc is
find i j (Cons (Element a z t) children rest) zero order is = found_first i j a z t children rest order
find i j (Cons (Element a z t) children rest) (suc id) (le, lt, low, next) is =
    let scope = listed [] t.declarations in
    elim (cases_Bool (nat_lt id (size (resolved scope children)))) as (λ q. Found i j (Cons (Element a z t) children rest) (suc id)) [
      | inl inside ↦ (
          let parts = and_parts _ _ (rw inside at is) in
          let bare = none_listed scope parts.0 in
          let inner = subst (λ (ds : List NamespaceDecl). self_contained (resolved ds children) id ≡ true) bare parts.1 in
          found_below i j a z t children rest id bare (le, lt, low, next) inside (find (a + 1) z children id low inner))
      | inr outside ↦ (
          found_beside i j a z t children rest id (le, lt, low, next) outside (find z j rest (id - size (resolved scope children)) next (rw outside at is)))
    ]
find i j (Cons (Text a z v borrowed) children rest) zero order is = cc is
find i j (Cons (Text a z v borrowed) children rest) (suc id) (bare, next) is =
    subst (λ (k : Forest Item). self_contained (resolved [] (Cons (Text a z v borrowed) k rest)) (suc id) ≡ true → Found i j (Cons (Text a z v borrowed) k rest) (suc id)) (sym bare)
    (λ here. found_leaf i j (Text a z v borrowed) rest id (λ s. refl) (λ mv one s. refl) here (λ later. find i j rest (id - 0) next later)) is
find i j (Cons (Comment a z v) children rest) zero order is = cc is
find i j (Cons (Comment a z v) children rest) (suc id) (bare, next) is =
    subst (λ (k : Forest Item). self_contained (resolved [] (Cons (Comment a z v) k rest)) (suc id) ≡ true → Found i j (Cons (Comment a z v) k rest) (suc id)) (sym bare)
    (λ here. found_leaf i j (Comment a z v) rest id (λ s. refl) (λ mv one s. refl) here (λ later. find i j rest (id - 0) next later)) is
find i j (Cons (PI a z v o) children rest) zero order is = cc is
find i j (Cons (PI a z v o) children rest) (suc id) (bare, next) is =
    subst (λ (k : Forest Item). self_contained (resolved [] (Cons (PI a z v o) k rest)) (suc id) ≡ true → Found i j (Cons (PI a z v o) k rest) (suc id)) (sym bare)
    (λ here. found_leaf i j (PI a z v o) rest id (λ s. refl) (λ mv one s. refl) here (λ later. find i j rest (id - 0) next later)) is
