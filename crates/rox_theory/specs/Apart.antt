-- Properties of the rows of items of every document.
use Rattle.std.specs.Prelude.{◌≡◌, ◌&&◌, Bool, false}
use Rattle.rox_grammar.specs.Forest.{Forest, Nil, Cons}
use Rattle.rox_grammar.specs.Written.{Item, Element, Text, Comment, PI, is_text}

-- Whether the first item is a text.
abbrev pub items_begin_with_text : Forest Item → Bool
items_begin_with_text Nil = false
items_begin_with_text (Cons item children rest) = is_text item

-- No text is followed by a text, at any depth.
abbrev pub Apart : Forest Item → Type 0
Apart Nil = Unit {0}
Apart (Cons item children rest) = ((is_text item && items_begin_with_text rest) ≡ false) × Apart children × Apart rest

-- One item of the row is an element.
abbrev pub AnyElement : Forest Item → Type 0
AnyElement Nil = ⊥
AnyElement (Cons (Element start end tag) children rest) = Unit {0}
AnyElement (Cons (Text start end value borrowed) children rest) = AnyElement rest
AnyElement (Cons (Comment start end text) children rest) = AnyElement rest
AnyElement (Cons (PI start end target value) children rest) = AnyElement rest
