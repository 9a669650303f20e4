-- What is self-contained by the nodes above it is so by the tree; and where it starts and ends.
use Rattle.std.proofs.Common.{◌≡◌, ℕ, zero, suc, ◌+◌, ◌-◌, ◌<◌, ◌&&◌, ◌==◌, Bool, true, false, List, [], ◌∷◌, length, Some, refl, sym, ap, ◌∙◌, arith, inl, inr, lt-ltb, le-ltb}
use Rattle.std.specs.List.{list_all}
use Rattle.std.proofs.lemmas.Bool.{cases_Bool, cases_lt}
use Rattle.rox_grammar.specs.Forest.{Forest, Nil, Cons, size}
use Rattle.rox_grammar.specs.Written.{NamespaceDecl}
use Rattle.rox_grammar.specs.Tree.{Node}
use Rattle.rox_grammar.specs.Exchange.{none_of, lists_none, self_contained, start_at, end_at}
use Rattle.roxmltree.specs.Places.{Place, preorder, place}
use Rattle.roxmltree.specs.NodeParts.{node_at, is_element_node, start_of, end_of, listed_of}
use Rattle.roxmltree.specs.DocumentView.{DocumentView}
use Rattle.roxmltree.specs.NodeRef.{node_refs}
use Rattle.roxmltree.specs.Elements.{nearest_element, first_element}
use Rattle.roxmltree.proofs.Preorder.{at, Sits}
use Rattle.roxmltree.proofs.Tops.{whole_sits}

-- ---- what a node says of itself

lists_says : (node : Node) → none_of (listed_of node) ≡ lists_none node
lists_says node = grind arith

-- ---- nodes in their places

module _ (T : List Place) where
  -- the node of this id lists nothing
  abbrev bare_at : ℕ → Bool
  bare_at a = none_of (listed_of (at T a).item)

  and_swap : (a b c : Bool) → (a && (b && c)) ≡ ((b && a) && c)
  and_swap a b c = grind arith

  contained_sits : (up left : List ℕ) (b : ℕ) (f : Forest Node) (id : ℕ) → Sits T up left b f → id < size f
      → (is_element_node (at T (b + id)).item && list_all bare_at (at T (b + id)).above) ≡ (self_contained f id && list_all bare_at up)
  contained_sits up left b Nil id s lt = absurd (omega arith)
  contained_sits up left b (Cons node children rest) zero s lt =
      let e : b + 0 ≡ b = omega arith in
      rw (e, s.0) refl
  contained_sits up left b (Cons node children rest) (suc id) s lt =
      elim (cases_lt id (size children)) as (λ q. (is_element_node (at T (b + suc id)).item && list_all bare_at (at T (b + suc id)).above) ≡ (self_contained (Cons node children rest) (suc id) && list_all bare_at up)) [
        | inl under ↦ (
            let inside = lt-ltb id (size children) under in
            let e : b + suc id ≡ b + 1 + id = omega arith in
            let more = contained_sits (b ∷ up) [] (b + 1) children id s.2 under in
            let here : bare_at b ≡ lists_none node = ap (λ p. none_of (listed_of p.item)) s.0 ∙ lists_says node in
            rw (e, inside) (more ∙ ap (λ (q : Bool). self_contained children id && (q && list_all bare_at up)) here ∙ and_swap (self_contained children id) (lists_none node) (list_all bare_at up)))
        | inr past ↦ (
            let e : b + suc id ≡ b + (1 + size children) + (id - size children) = omega arith in
            rw (e, (le-ltb id (size children) past)) (contained_sits up (b ∷ left) (b + (1 + size children)) rest (id - size children) s.3 (omega arith)))
      ]

  bounds_sit : (up left : List ℕ) (b : ℕ) (f : Forest Node) (id : ℕ) → Sits T up left b f → id < size f
      → (start_of (at T (b + id)).item ≡ start_at f id) × (end_of (at T (b + id)).item ≡ end_at f id)
  bounds_sit up left b Nil id s lt = absurd (omega arith)
  bounds_sit up left b (Cons node children rest) zero s lt =
      let e : b + 0 ≡ b = omega arith in
      rw (e, s.0) (refl, refl)
  bounds_sit up left b (Cons node children rest) (suc id) s lt =
      elim (cases_lt id (size children)) as (λ q. (start_of (at T (b + suc id)).item ≡ start_at (Cons node children rest) (suc id)) × (end_of (at T (b + suc id)).item ≡ end_at (Cons node children rest) (suc id))) [
        | inl under ↦ grind (arith, bounds_sit (b ∷ up) [] (b + 1) children id s.2 under)
        | inr past ↦ grind (arith, bounds_sit up (b ∷ left) (b + (1 + size children)) rest (id - size children) s.3 (omega arith))
      ]

-- ---- by ids

pub contained_is : (tree : Forest Node) (id : ℕ) → id < size tree
    → (is_element_node (node_at tree id) && list_all (λ a. none_of (listed_of (node_at tree a))) (place tree id).above) ≡ self_contained tree id
unfolding place
contained_is tree id lt =
    let e : 0 + id ≡ id = omega arith in
    let s = contained_sits (preorder tree) [] [] 0 tree id (whole_sits tree) lt in
    (rw e at s) ∙ and_true (self_contained tree id)
  where
    and_true : (a : Bool) → (a && true) ≡ a
    and_true true = refl
    and_true false = refl

pub bounds_are : (tree : Forest Node) (id : ℕ) → id < size tree → (start_of (node_at tree id) ≡ start_at tree id) × (end_of (node_at tree id) ≡ end_at tree id)
unfolding place
bounds_are tree id lt =
    let e : 0 + id ≡ id = omega arith in
    let s = bounds_sit (preorder tree) [] [] 0 tree id (whole_sits tree) lt in
    rw e at s

-- of nodes of one document
pub all_of_spots : (d : DocumentView) (p : Forest Node → ℕ → Bool) (ids : List ℕ) → list_all (λ s. p s.0.tree s.1) (node_refs d ids) ≡ list_all (p d.tree) ids
all_of_spots d p [] = refl
all_of_spots d p (id ∷ ids) = ap (λ (b : Bool). p d.tree id && b) (all_of_spots d p ids)

-- an element is, if none of the nodes above it lists anything, and nothing else is
pub contained_then : (d : DocumentView) (id : ℕ) → id < size d.tree → is_element_node (node_at d.tree id) ≡ true
    → list_all (λ s. none_of (listed_of (node_at s.0.tree s.1))) (node_refs d (place d.tree id).above) ≡ self_contained d.tree id
contained_then d id lt is =
    all_of_spots d (λ tree a. none_of (listed_of (node_at tree a))) (place d.tree id).above
    ∙ ap (λ (b : Bool). b && list_all (λ a. none_of (listed_of (node_at d.tree a))) (place d.tree id).above) (sym is) ∙ contained_is d.tree id lt

pub contained_else : (d : DocumentView) (id : ℕ) → id < size d.tree → is_element_node (node_at d.tree id) ≡ false → false ≡ self_contained d.tree id
contained_else d id lt is = ap (λ (b : Bool). b && list_all (λ a. none_of (listed_of (node_at d.tree a))) (place d.tree id).above) (sym is) ∙ contained_is d.tree id lt

-- the first element of nodes of one document
pub nearest_is : (d : DocumentView) (ids : List ℕ) (s : DocumentView × ℕ) → Some s ≡ nearest_element (node_refs d ids) → (s.0 ≡ d) × (s.1 ≡ first_element d.tree ids)
nearest_is d [] s is = cc is
nearest_is d (id ∷ ids) s is =
    elim (cases_Bool (is_element_node (node_at d.tree id))) as (λ q. (s.0 ≡ d) × (s.1 ≡ first_element d.tree (id ∷ ids))) [
      | inl here ↦ grind arith
      | inr later ↦ (
          rw later (nearest_is d ids s (rw later at is)))
    ]

-- none are listed where their count is 0
pub none_long : (ds : List NamespaceDecl) → (length ds == 0) ≡ none_of ds
none_long ds = grind arith
