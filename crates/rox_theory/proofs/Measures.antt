-- Two measures of items: the bytes of their values, and how many nodes and attributes there are. Of neither there is more
-- than the bytes of what is written.
use Rattle.std.proofs.Common.{arith, length-append}
use Rattle.std.specs.Prelude.{◌≡◌, ℕ, ◌+◌, ◌≤◌, not, Bool, true, false, List, [], ◌∷◌, Option, length, if◌then◌else◌, refl}
use Rattle.rox_grammar.specs.Forest.{Forest, Nil, Cons, join, size}
use Rattle.rox_grammar.specs.Written.{Item, Element, Text, Comment, PI, Attribute, Tag, leaf, merge, glue, is_namespace_decl, plain_attributes_of}
use Rattle.rox_grammar.specs.Counts.{attribute_count}
use Rattle.rox_theory.specs.ItemSize.{bytes_in, value_bytes_of}

-- An attribute is no more than its value and one byte.
abbrev pub most_of : List Attribute → ℕ
most_of [] = 0
most_of (a ∷ as') = 1 + length a.value + most_of as'

pub record Measure (of : Forest Item → ℕ) : Type 0 where
  pub none : of Nil ≡ 0
  pub joined : (f g : Forest Item) → of (join f g) ≤ of f + of g
  pub element : (i j : ℕ) (t : Tag) (kids : Forest Item) → of (Cons (Element i j t) kids Nil) ≤ 1 + most_of t.attributes + of kids
  pub text : (i j : ℕ) (v : List ℕ) (borrowed : Bool) (n : ℕ) → 1 ≤ n → length v ≤ n → of (leaf (Text i j v borrowed)) ≤ n
  pub comment : (i j : ℕ) (v : List ℕ) → of (leaf (Comment i j v)) ≤ 1
  pub instruction : (i j : ℕ) (target : List ℕ) (v : Option (List ℕ)) → of (leaf (PI i j target v)) ≤ 1
  pub merged : (f : Forest Item) → of (merge f) ≤ of f

-- Of these attributes as many as declare nothing.
pub fewer : (as' : List Attribute) → most_of (plain_attributes_of as') ≤ most_of as'
fewer [] = omega arith
fewer (a ∷ as') = let h = fewer as' in at_test (is_namespace_decl a.name) h
  where
    at_test : (b : Bool) → most_of (plain_attributes_of as') ≤ most_of as' → most_of (if not b then a ∷ plain_attributes_of as' else plain_attributes_of as') ≤ 1 + length a.value + most_of as'
    at_test true h = omega (arith, h)
    at_test false h = omega (arith, h)

-- ---- bytes

values_most : (as' : List Attribute) → value_bytes_of as' ≤ most_of as'
values_most [] = omega arith
values_most (a ∷ as') = let h = values_most as' in omega (arith, h)

bytes_join : (f g : Forest Item) → bytes_in (join f g) ≡ bytes_in f + bytes_in g
bytes_join Nil g = omega arith
bytes_join (Cons item kids rest) g = let h = bytes_join rest g in omega (arith, h)

bytes_glue : (a e : ℕ) (v : List ℕ) (borrowed : Bool) (below f : Forest Item) → bytes_in (glue (Text a e v borrowed) below f) ≡ length v + (bytes_in below + bytes_in f)
bytes_glue a e v borrowed below f = grind (arith, length-append, bytes_join)

bytes_merge : (f : Forest Item) → bytes_in (merge f) ≡ bytes_in f
bytes_merge Nil = refl
bytes_merge (Cons (Text a e v p) kids rest) = grind (arith, bytes_glue a e v p kids (merge rest), bytes_merge rest)
bytes_merge (Cons (Element a e t) kids rest) = let h = bytes_merge rest in omega (arith, h)
bytes_merge (Cons (Comment a e t) kids rest) = let h = bytes_merge rest in omega (arith, h)
bytes_merge (Cons (PI a e t o) kids rest) = let h = bytes_merge rest in omega (arith, h)

pub by_bytes : Measure bytes_in
by_bytes = grind (arith, bytes_join, values_most, bytes_merge)

-- ---- nodes and attributes

abbrev pub count_in : Forest Item → ℕ
count_in f = size f + attribute_count f

count_join : (f g : Forest Item) → count_in (join f g) ≡ count_in f + count_in g
count_join Nil g = omega arith
count_join (Cons item kids rest) g = let h = count_join rest g in omega (arith, h)

attributes_most : (as' : List Attribute) → length as' ≤ most_of as'
attributes_most [] = omega arith
attributes_most (a ∷ as') = let h = attributes_most as' in omega (arith, h)

count_glue : (a e : ℕ) (v : List ℕ) (borrowed : Bool) (below f : Forest Item) → count_in (glue (Text a e v borrowed) below f) ≤ 1 + (count_in below + count_in f)
count_glue a e v borrowed below f = grind (arith, count_join)

count_merge : (f : Forest Item) → count_in (merge f) ≤ count_in f
count_merge Nil = omega arith
count_merge (Cons (Text a e v p) kids rest) = grind (arith, count_glue a e v p kids (merge rest), count_merge rest)
count_merge (Cons (Element a e t) kids rest) = let h = count_merge rest in omega (arith, h)
count_merge (Cons (Comment a e t) kids rest) = let h = count_merge rest in omega (arith, h)
count_merge (Cons (PI a e t o) kids rest) = let h = count_merge rest in omega (arith, h)

pub by_count : Measure count_in
by_count = grind (arith, count_join, attributes_most, count_merge)
