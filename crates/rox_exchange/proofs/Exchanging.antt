-- Where nodes stand once a node has been exchanged for an element, and what is said of them: on trees alone.
use Rattle.std.proofs.Common.{◌≡◌, ℕ, zero, suc, ◌+◌, ◌-◌, ◌<◌, ◌≤◌, true, lt-ltb, le-ltb, refl, arith, inl, inr}
use Rattle.std.proofs.lemmas.Bool.{cases_lt, and_parts}
use Rattle.std.proofs.lemmas.Bool.Decides.{nat_tests}
use Rattle.rox_grammar.specs.Forest.{Forest, Nil, Cons, size}
use Rattle.rox_grammar.specs.Tree.{Node}
use Rattle.rox_grammar.specs.NodeRanges.{is_element_node}
use Rattle.rox_grammar.specs.Exchange.{Move, moved_node, shifted, stretched, subtree, exchanged, lists_none, self_contained}

pub shifted_size : (m : Move) (f : Forest Node) → size (shifted m f) ≡ size f
shifted_size m Nil = refl
shifted_size m (Cons node children rest) = omega (arith, shifted_size m children, shifted_size m rest)

moved_lists : (m : Move) (node : Node) → lists_none (moved_node m node) ≡ lists_none node
moved_lists m b = grind (arith, nat_tests)

pub moved_element : (m : Move) (node : Node) → is_element_node (moved_node m node) ≡ is_element_node node
moved_element m b = grind (arith, nat_tests)

stretched_lists : (m : Move) (node : Node) → lists_none (stretched m node) ≡ lists_none node
stretched_lists m b = grind (arith, nat_tests)

-- What moves stays self-contained.
shifted_contained : (m : Move) (f : Forest Node) (k : ℕ) → self_contained (shifted m f) k ≡ self_contained f k
shifted_contained m Nil k = refl
shifted_contained m (Cons node children rest) zero = moved_element m node
shifted_contained m (Cons node children rest) (suc k) = grind (arith, nat_tests, shifted_contained m children k, shifted_contained m rest (k - size children), shifted_size, moved_lists)

-- And is what it was, moved.
shifted_subtree : (m : Move) (f : Forest Node) (k : ℕ) → subtree (shifted m f) k ≡ shifted m (subtree f k)
shifted_subtree m Nil k = refl
shifted_subtree m (Cons node children rest) zero = refl
shifted_subtree m (Cons node children rest) (suc k) = grind (arith, nat_tests, cases_lt k (size children), shifted_subtree m children k, shifted_subtree m rest (k - size children), lt-ltb, shifted_size, le-ltb)

-- A node is there.
pub subtree_some : (f : Forest Node) (k : ℕ) → k < size f → 0 < size (subtree f k)
subtree_some Nil k lt = absurd (omega arith)
subtree_some (Cons node children rest) zero lt = omega arith
subtree_some (Cons node children rest) (suc k) lt =
    elim (cases_lt k (size children)) as (λ q. 0 < size (subtree (Cons node children rest) (suc k))) [
      | inl under ↦ (let in' = lt-ltb k (size children) under in rw in' (subtree_some children k under))
      | inr past ↦ (let out = le-ltb k (size children) past in rw out (subtree_some rest (k - size children) (omega arith)))
    ]

-- A subtree ends in the tree.
pub subtree_ends : (f : Forest Node) (k : ℕ) → k < size f → k + size (subtree f k) ≤ size f
subtree_ends Nil k lt = absurd (omega arith)
subtree_ends (Cons node children rest) zero lt = omega arith
subtree_ends (Cons node children rest) (suc k) lt =
    elim (cases_lt k (size children)) as (λ q. suc k + size (subtree (Cons node children rest) (suc k)) ≤ size (Cons node children rest)) [
      | inl under ↦ (let in' = lt-ltb k (size children) under in let n = subtree_ends children k under in rw in' (omega arith))
      | inr past ↦ (let out = le-ltb k (size children) past in let n = subtree_ends rest (k - size children) (omega arith) in rw out (omega arith))
    ]

-- A self-contained node is there.
pub contained_inside : (f : Forest Node) (k : ℕ) → self_contained f k ≡ true → k < size f
contained_inside Nil k is = cc is
contained_inside (Cons node children rest) zero is = omega arith
contained_inside (Cons node children rest) (suc k) is =
    elim (cases_lt k (size children)) as (λ q. suc k < size (Cons node children rest)) [
      | inl under ↦ omega arith
      | inr past ↦ (
          let n = contained_inside rest (k - size children) (rw (le-ltb k (size children) past) at is) in
          omega arith)
    ]

module _ (m : Move) (new : Node) (below : Forest Node) where
  abbrev one : Forest Node
  one = Cons new below Nil

  -- How many nodes there are then.
  pub exchanged_size : (f : Forest Node) (id : ℕ) → id < size f → size (exchanged m one f id) + size (subtree f id) ≡ size f + size one
  exchanged_size Nil id lt = absurd (omega arith)
  exchanged_size (Cons node children rest) zero lt = omega (arith, shifted_size m rest)
  exchanged_size (Cons node children rest) (suc id) lt =
      elim (cases_lt id (size children)) as (λ q. size (exchanged m one (Cons node children rest) (suc id)) + size (subtree (Cons node children rest) (suc id)) ≡ size (Cons node children rest) + size one) [
        | inl under ↦ grind (arith, nat_tests, exchanged_size children id under, lt-ltb, shifted_size)
        | inr past ↦ grind (arith, nat_tests, le-ltb id (size children) past, exchanged_size rest (id - size children) (omega arith), exchanged_size rest (id - size children) (omega arith))
      ]

  -- The node itself is there still.
  stays_under : (f : Forest Node) (id k : ℕ) → id < size f → k ≤ id → k < size (exchanged m one f id)
  stays_under f id k lt le = grind (arith, nat_tests, exchanged_size, subtree_ends)

  -- What was put in.
  pub itself_contained : (f : Forest Node) (id : ℕ) → self_contained f id ≡ true → self_contained (exchanged m one f id) id ≡ is_element_node new
  itself_contained Nil id is = cc is
  itself_contained (Cons node children rest) zero is = refl
  itself_contained (Cons node children rest) (suc id) is =
      elim (cases_lt id (size children)) as (λ q. self_contained (exchanged m one (Cons node children rest) (suc id)) (suc id) ≡ is_element_node new) [
        | inl under ↦ (
            let in' = lt-ltb id (size children) under in
            let parts = and_parts (lists_none node) (self_contained children id) (rw in' at is) in
            let in_new = lt-ltb id (size (exchanged m one children id)) (stays_under children id id under (omega arith)) in
            rw (in', in_new, stretched_lists m node, parts.0) (itself_contained children id parts.1))
        | inr past ↦ (
            let out = le-ltb id (size children) past in
            rw out (rw out (itself_contained rest (id - size children) (rw out at is))))
      ]

  pub itself_there : (f : Forest Node) (id : ℕ) → id < size f → subtree (exchanged m one f id) id ≡ one
  itself_there Nil id lt = absurd (omega arith)
  itself_there (Cons node children rest) zero lt = refl
  itself_there (Cons node children rest) (suc id) lt =
      elim (cases_lt id (size children)) as (λ q. subtree (exchanged m one (Cons node children rest) (suc id)) (suc id) ≡ one) [
        | inl under ↦ grind (arith, nat_tests, lt-ltb id (size children) under, lt-ltb id (size (exchanged m one children id)) (stays_under children id id under (omega arith)), itself_there children id under)
        | inr past ↦ (let out = le-ltb id (size children) past in rw out (rw out (itself_there rest (id - size children) (omega arith))))
      ]

  -- A node in front of it, or above it.
  pub before_contained : (f : Forest Node) (id k : ℕ) → id < size f → k < id → self_contained (exchanged m one f id) k ≡ self_contained f k
  before_contained Nil id k lt before = absurd (omega arith)
  before_contained (Cons node children rest) zero k lt before = absurd (omega arith)
  before_contained (Cons node children rest) (suc id) zero lt before = grind (arith, nat_tests)
  before_contained (Cons node children rest) (suc id) (suc k) lt before =
      elim (cases_lt id (size children)) as (λ q. self_contained (exchanged m one (Cons node children rest) (suc id)) (suc k) ≡ self_contained (Cons node children rest) (suc k)) [
        | inl under ↦ grind (arith, nat_tests, lt-ltb id (size children) under, lt-ltb k (size children) (omega arith), lt-ltb k (size (exchanged m one children id)) (stays_under children id k under (omega arith)), before_contained children id k under (omega arith))
        | inr past ↦ elim (cases_lt k (size children)) as (λ q. self_contained (exchanged m one (Cons node children rest) (suc id)) (suc k) ≡ self_contained (Cons node children rest) (suc k)) [
          | inl k_under ↦ grind (arith, nat_tests)
          | inr k_past ↦ grind (arith, nat_tests, le-ltb id (size children) past, le-ltb k (size children) k_past, before_contained rest (id - size children) (k - size children) (omega arith) (omega arith))
        ]
      ]

  -- In front of it and not above it.
  pub before_there : (f : Forest Node) (id k : ℕ) → id < size f → k + size (subtree f k) ≤ id → k < id → subtree (exchanged m one f id) k ≡ subtree f k
  before_there Nil id k lt before less = absurd (omega arith)
  before_there (Cons node children rest) zero k lt before less = absurd (omega arith)
  before_there (Cons node children rest) (suc id) zero lt before less = grind (arith, nat_tests)
  before_there (Cons node children rest) (suc id) (suc k) lt before less =
      elim (cases_lt id (size children)) as (λ q. subtree (exchanged m one (Cons node children rest) (suc id)) (suc k) ≡ subtree (Cons node children rest) (suc k)) [
        | inl under ↦ (
            let k_in = lt-ltb k (size children) (omega arith) in
            let before' : suc k + size (subtree children k) ≤ suc id = rw k_in at before in
            let in_new = lt-ltb k (size (exchanged m one children id)) (stays_under children id k under (omega arith)) in
            rw ((lt-ltb id (size children) under), in_new, k_in) (before_there children id k under (omega arith) (omega arith)))
        | inr past ↦ elim (cases_lt k (size children)) as (λ q. subtree (exchanged m one (Cons node children rest) (suc id)) (suc k) ≡ subtree (Cons node children rest) (suc k)) [
          | inl k_under ↦ grind (arith, nat_tests)
          | inr k_past ↦ (
              let k_out = le-ltb k (size children) k_past in
              let before' : suc k + size (subtree rest (k - size children)) ≤ suc id = rw k_out at before in
              rw (le-ltb id (size children) past) (rw k_out (before_there rest (id - size children) (k - size children) (omega arith) (omega arith) (omega arith))))
        ]
      ]

  -- Where a node after it goes.
  abbrev pub later : Forest Node → ℕ → ℕ → ℕ
  later f id k = k + size one - size (subtree f id)

  pub behind_contained : (f : Forest Node) (id k : ℕ) → id < size f → id + size (subtree f id) ≤ k → self_contained (exchanged m one f id) (later f id k) ≡ self_contained f k
  behind_contained Nil id k lt behind = absurd (omega arith)
  behind_contained (Cons node children rest) zero zero lt behind = absurd (omega arith)
  behind_contained (Cons node children rest) zero (suc k) lt behind = grind (arith, nat_tests, le-ltb, shifted_contained)
  behind_contained (Cons node children rest) (suc id) zero lt behind = absurd (omega arith)
  behind_contained (Cons node children rest) (suc id) (suc k) lt behind =
      elim (cases_lt id (size children)) as (λ q. self_contained (exchanged m one (Cons node children rest) (suc id)) (later (Cons node children rest) (suc id) (suc k)) ≡ self_contained (Cons node children rest) (suc k)) [
        | inl under ↦ (
            let behind' : suc id + size (subtree children id) ≤ suc k = rw (lt-ltb id (size children) under) at behind in
            let n = exchanged_size children id under in
            elim (cases_lt k (size children)) as (λ q. self_contained (exchanged m one (Cons node children rest) (suc id)) (later (Cons node children rest) (suc id) (suc k)) ≡ self_contained (Cons node children rest) (suc k)) [
              | inl k_under ↦ grind (arith, nat_tests, lt-ltb k (size children) k_under, lt-ltb (later children id k) (size (exchanged m one children id)) (omega arith), behind_contained children id k under (omega arith))
              | inr k_past ↦ grind (arith, nat_tests, le-ltb, shifted_contained)
            ])
        | inr past ↦ (
            let out = le-ltb id (size children) past in
            let behind' : suc id + size (subtree rest (id - size children)) ≤ suc k = rw out at behind in
            let e : suc k + size one - size (subtree rest (id - size children)) ≡ suc (size children + later rest (id - size children) (k - size children)) = omega arith in
            let new_out = le-ltb (size children + later rest (id - size children) (k - size children)) (size children) (omega arith) in
            let e' : size children + later rest (id - size children) (k - size children) - size children ≡ later rest (id - size children) (k - size children) = omega arith in
            rw (out, e, new_out, e', (le-ltb k (size children) (omega arith))) (behind_contained rest (id - size children) (k - size children) (omega arith) (omega arith)))
      ]

  pub behind_there : (f : Forest Node) (id k : ℕ) → id < size f → id + size (subtree f id) ≤ k → subtree (exchanged m one f id) (later f id k) ≡ shifted m (subtree f k)
  behind_there Nil id k lt behind = absurd (omega arith)
  behind_there (Cons node children rest) zero zero lt behind = absurd (omega arith)
  behind_there (Cons node children rest) zero (suc k) lt behind = grind (arith, nat_tests, le-ltb, shifted_subtree)
  behind_there (Cons node children rest) (suc id) zero lt behind = absurd (omega arith)
  behind_there (Cons node children rest) (suc id) (suc k) lt behind =
      elim (cases_lt id (size children)) as (λ q. subtree (exchanged m one (Cons node children rest) (suc id)) (later (Cons node children rest) (suc id) (suc k)) ≡ shifted m (subtree (Cons node children rest) (suc k))) [
        | inl under ↦ (
            let behind' : suc id + size (subtree children id) ≤ suc k = rw (lt-ltb id (size children) under) at behind in
            let n = exchanged_size children id under in
            elim (cases_lt k (size children)) as (λ q. subtree (exchanged m one (Cons node children rest) (suc id)) (later (Cons node children rest) (suc id) (suc k)) ≡ shifted m (subtree (Cons node children rest) (suc k))) [
              | inl k_under ↦ grind (arith, nat_tests, lt-ltb k (size children) k_under, lt-ltb (later children id k) (size (exchanged m one children id)) (omega arith), behind_there children id k under (omega arith))
              | inr k_past ↦ grind (arith, nat_tests, le-ltb, shifted_subtree)
            ])
        | inr past ↦ (
            let out = le-ltb id (size children) past in
            let behind' : suc id + size (subtree rest (id - size children)) ≤ suc k = rw out at behind in
            let e : suc k + size one - size (subtree rest (id - size children)) ≡ suc (size children + later rest (id - size children) (k - size children)) = omega arith in
            let new_out = le-ltb (size children + later rest (id - size children) (k - size children)) (size children) (omega arith) in
            let e' : size children + later rest (id - size children) (k - size children) - size children ≡ later rest (id - size children) (k - size children) = omega arith in
            rw (out, e, new_out, e', (le-ltb k (size children) (omega arith))) (behind_there rest (id - size children) (k - size children) (omega arith) (omega arith)))
      ]
