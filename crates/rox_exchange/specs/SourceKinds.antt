-- An element in a row of items, at any depth.
use Rattle.std.specs.Prelude.{ℕ}
use Rattle.rox_grammar.specs.Forest.{Forest, Cons}
use Rattle.rox_grammar.specs.Written.{Tag, Item, Element}

-- The element from `s` up to `e`, with this tag and these children, is one of the items, at any depth.
pub data StandsInEach (s e : ℕ) (t : Tag) (kids : Forest Item) : Forest Item → Type 0 where
  first : (rest : Forest Item) → StandsInEach s e t kids (Cons (Element s e t) kids rest)
  below : (item : Item) (children rest : Forest Item) → StandsInEach s e t kids children → StandsInEach s e t kids (Cons item children rest)
  beside : (item : Item) (children rest : Forest Item) → StandsInEach s e t kids rest → StandsInEach s e t kids (Cons item children rest)
