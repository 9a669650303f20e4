-- Rows of siblings with their descendants, in order.
use Rattle.std.specs.Prelude.{ℕ, ◌+◌}

pub data Forest (I : Type 0) : Type 0 where
  Nil : Forest I
  -- An item, its children, and the siblings after it.
  Cons : I → Forest I → Forest I → Forest I

-- The siblings of the first row, and then those of the second.
abbrev pub join : {I : Type 0} → Forest I → Forest I → Forest I
join Nil g = g
join (Cons item children rest) g = Cons item children (join rest g)

-- The number of items, at any depth.
abbrev pub size : {I : Type 0} → Forest I → ℕ
size Nil = 0
size (Cons item children rest) = 1 + size children + size rest
